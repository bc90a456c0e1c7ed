use Rattle.metrics.proofs.Unique.{one_part}
use Rattle.metrics.proofs.laws.jobs_have_one_part.Goals as goal

pub returns : goal.returns
returns c = one_part
