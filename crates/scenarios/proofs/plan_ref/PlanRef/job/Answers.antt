use Rattle.std.proofs.Common.{◌∙◌, sym, ap}
use Rattle.std.specs.Result.{result_ok}
use Rattle.scenarios.specs.Plan.{job_numbered}
use Rattle.scenarios.specs.PlanView.{PlanView, plan_in}
use Rattle.scenarios.proofs.EffectiveLemmas.{found-none, found-some}
use Rattle.scenarios.proofs.plan_ref.PlanRef.job.Goals as goal

pub returns-in_err-entry-clause-job : goal.returns-in_err-entry-clause-job
returns-in_err-entry-clause-job g c =
    c.from_residual.ensures ∙ sym (found-none c.self.inside.table.now c.self.inside.scenario c.args.number c.self.invariant.table c.in_err-entry.ensures.entry)
    ∙ ap (λ (view : PlanView). job_numbered (plan_in view).jobs c.args.number) c.self.view_is

pub returns-clause-job : goal.returns-clause-job
returns-clause-job g c =
    c.ok.ensures.value ∙ ap result_ok c.effective.ensures.job
    ∙ sym (found-some c.self.inside.table.now c.self.inside.scenario c.args.number _ c.self.invariant.table c.in_ok-entry.ensures.entry)
    ∙ ap (λ (view : PlanView). job_numbered (plan_in view).jobs c.args.number) c.self.view_is
