use Rattle.chunks.specs.Chunks.{flat}
use Rattle.std.proofs.Common.{List, is_some, ap, sym, ◌∙◌}
use Rattle.swf_text.specs.Entry.{LogEntry}
use Rattle.swf_text.specs.Log.{log_of}
use Rattle.job_table.specs.Edit.{without}
use Rattle.job_table.proofs.Edited.{log-less}
use Rattle.job_table.proofs.Stored.{stored-less, entry-there, outcome-of}
use Rattle.job_table.proofs.table.JobTable.remove.Goals as goal

pub unwrap-submit-requires : goal.unwrap-submit-requires
unwrap-submit-requires g c =
    ap is_some c.second.ensures ∙ outcome-of c.args.number (flat c.self.inside.rows) c.args.self.now (flat c.self.inside.index) c.self.invariant.index c.self.view_is c.requires

pub invariant_of-self : goal.invariant_of-self
invariant_of-self g c =
    let there = entry-there c.args.number c.unwrap-submit.result (flat c.self.inside.rows) (sym c.unwrap-submit.ensures ∙ c.second.ensures ∙ c.self.invariant.index.gives c.args.number) in
    stored-less (flat c.self.inside.rows) (flat c.in_ok-rows.rows) (flat c.self.inside.index) (flat c.in_ok-index.index) c.self.inside.len c.self.invariant c.args.number there.0 there.1 c.in_ok-rows.ensures.rows c.in_ok-index.ensures.set.rising c.in_ok-index.ensures.set.gives

pub returns-clause-ok : goal.returns-clause-ok
returns-clause-ok g c =
    c.in_ok-rows.ensures.rows ∙ log-less c.args.number (flat c.self.inside.rows) c.self.invariant.table ∙ ap (λ (es : List LogEntry). log_of (without c.args.number es)) c.self.view_is
