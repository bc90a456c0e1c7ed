use Rattle.std.proofs.Common.{◌∙◌, ap}
use Rattle.scenarios.specs.Plan.{from_on, jobs_of}
use Rattle.scenarios.specs.PlanView.{PlanView, plan_in}
use Rattle.scenarios.proofs.Walks.{jobs-from}
use Rattle.scenarios.proofs.plan_ref.PlanRef.from_second.Goals as goal

pub returns-clause-jobs : goal.returns-clause-jobs
returns-clause-jobs g c =
    let scenario = c.self.inside.scenario in
    c.of.ensures ∙ ap (λ log. jobs_of log scenario) c.from_second.ensures.entries ∙ jobs-from scenario c.args.second c.self.inside.table.now
    ∙ ap (λ (view : PlanView). from_on c.args.second (plan_in view).jobs) c.self.view_is
