use Rattle.std.proofs.Common.{◌∙◌}
use Rattle.scenarios.specs.PlanView.{plan_in}
use Rattle.scenarios.proofs.Walks.{all-from}
use Rattle.scenarios.proofs.plan_ref.PlanRef.jobs.Goals as goal

pub returns-clause-jobs : goal.returns-clause-jobs
returns-clause-jobs g c = c.from_second.ensures.jobs ∙ all-from (plan_in c.args.self.now).jobs
