use Rattle.chunks.specs.Chunks.{flat}
use Rattle.std.proofs.Common.{ap, subst, sym, ◌∙◌}
use Rattle.job_table.specs.Table.{IsTable, entries_from}
use Rattle.job_table.proofs.Stored.{from-table}
use Rattle.job_table.proofs.table.JobTable.from_second.Goals as goal

pub new-requires : goal.new-requires
new-requires g c = subst IsTable (sym c.rest_from.ensures) (from-table c.args.second (flat c.self.inside.rows) c.self.invariant.table)

pub returns-clause-entries : goal.returns-clause-entries
returns-clause-entries g c = c.new.ensures ∙ c.rest_from.ensures ∙ ap (entries_from c.args.second) c.self.view_is
