use Rattle.chunks.specs.Chunks.{flat}
use Rattle.std.proofs.Common.{ap, ◌∙◌}
use Rattle.job_table.specs.Edit.{entry_of}
use Rattle.job_table.proofs.Stored.{get-numbered, get-sound}
use Rattle.job_table.proofs.table.JobTable.get.Goals as goal

pub second-requires : goal.second-requires
second-requires g c = c.self.invariant.index.rising

pub entry_at-requires-clause-table : goal.entry_at-requires-clause-table
entry_at-requires-clause-table g c = c.self.invariant.table

pub entry_at-requires-clause-known : goal.entry_at-requires-clause-known
entry_at-requires-clause-known g c = c.in_ok-submit.ensures ∙ c.self.invariant.index.gives c.args.number

pub returns-clause-entry : goal.returns-clause-entry
returns-clause-entry g c = c.entry_at.ensures ∙ ap (entry_of c.args.number) c.self.view_is

pub returns-clause-numbered : goal.returns-clause-numbered
returns-clause-numbered g c = get-numbered c.args.number (flat c.self.inside.rows) c.entry_at.result c.entry_at.ensures

pub returns-clause-sound : goal.returns-clause-sound
returns-clause-sound g c = get-sound c.args.number (flat c.self.inside.rows) c.entry_at.result c.self.invariant.table c.entry_at.ensures
