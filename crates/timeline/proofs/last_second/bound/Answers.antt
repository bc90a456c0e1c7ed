use Rattle.std.proofs.Common.{arith, sym}
use Rattle.timeline.proofs.Short.{bound-is}
use Rattle.timeline.proofs.Bound.{all-have-ended}
use Rattle.timeline.proofs.last_second.bound.Goals as goal

pub returns-clause-value : goal.returns-clause-value
returns-clause-value c = λ plan e. bound-is plan c.args.jobs.now c.last_submit.result c.total_length.result (sym e) c.last_submit.ensures.value c.total_length.ensures.value

pub returns-clause-ended : goal.returns-clause-ended
returns-clause-ended c = λ plan t e p l. all-have-ended plan t p (omega (arith, l, bound-is plan c.args.jobs.now c.last_submit.result c.total_length.result (sym e) c.last_submit.ensures.value c.total_length.ensures.value))
