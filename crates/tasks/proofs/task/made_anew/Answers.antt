use Rattle.tasks.proofs.Making.{cut-of}
use Rattle.tasks.proofs.task.made_anew.Goals as goal

pub returns-clause-cut : goal.returns-clause-cut
returns-clause-cut g c = cut-of c.args.plan.now _ c.args.spacing _ _ c.in_ok-copy.ensures c.in_ok-new.ensures.ok c.in-Ok.ensures.cut
