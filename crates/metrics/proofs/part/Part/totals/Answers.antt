use Rattle.std.proofs.Common.{subst}
use Rattle.metrics.specs.Part.{IsPart}
use Rattle.metrics.proofs.Forms.{is_part_from}
use Rattle.metrics.proofs.part.Part.totals.Goals as goal

pub returns-clause-part : goal.returns-clause-part
returns-clause-part g c = subst IsPart c.self.view_is (is_part_from _ c.self.invariant)
