use Rattle.std.proofs.Common.{◌∙◌, ap}
use Rattle.scenarios.specs.PlanView.{PlanView}
use Rattle.scenarios.specs.Skips.{skips_of}
use Rattle.job_table.proofs.Lemmas.{from-zero}
use Rattle.scenarios.proofs.plan_ref.PlanRef.skips.Goals as goal

pub returns : goal.returns
returns g c =
    c.skips_among.ensures ∙ ap (λ log. skips_of log c.self.inside.scenario) (c.from_second.ensures.entries ∙ from-zero c.self.inside.table.now)
    ∙ ap (λ (view : PlanView). skips_of view.log view.scenario) c.self.view_is
