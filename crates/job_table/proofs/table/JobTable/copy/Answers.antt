use Rattle.chunks.specs.Chunks.{flat}
use Rattle.std.proofs.Common.{List, sym, subst}
use Rattle.chunks.specs.declared.numbered.Numbered.{Numbered}
use Rattle.swf_text.specs.Entry.{LogEntry}
use Rattle.job_table.specs.Table.{IsStored}
use Rattle.job_table.proofs.table.JobTable.copy.Goals as goal

pub invariant_of-result : goal.invariant_of-result
invariant_of-result g c =
    let rows = subst (λ (cs : List (List LogEntry)). IsStored (flat cs) (flat c.self.inside.index) c.self.inside.len) (sym c.in_ok-rows.ensures) c.self.invariant in
    subst (λ (ps : List (List Numbered)). IsStored (flat c.in_ok-rows.rows) (flat ps) c.self.inside.len) (sym c.in_ok-index.ensures) rows
