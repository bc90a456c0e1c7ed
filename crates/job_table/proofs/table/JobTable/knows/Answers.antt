use Rattle.chunks.specs.Chunks.{flat}
use Rattle.std.proofs.Common.{◌∙◌}
use Rattle.job_table.proofs.Stored.{known-is}
use Rattle.job_table.proofs.table.JobTable.knows.Goals as goal

pub has_number-requires : goal.has_number-requires
has_number-requires g c = c.self.invariant.index.rising

pub returns : goal.returns
returns g c = c.has_number.ensures ∙ known-is c.args.number (flat c.self.inside.rows) c.args.self.now (flat c.self.inside.index) c.self.invariant.index c.self.view_is
