use Rattle.std.proofs.lemmas.Result.{IfOk-weaker}
use Rattle.scenarios.specs.PlanView.{plan_in}
use Rattle.checkpoints.specs.Nodes.{parts_of}
use Rattle.checkpoints.proofs.Totals.{cut-few, total-is}
use Rattle.checkpoints.proofs.sums.sums_of.Goals as goal

pub total-requires : goal.total-requires
total-requires g c = (parts_of c.requires.0, cut-few (plan_in c.args.plan.now) c.requires.0 c.scenario.ensures.sound c.requires.1, c.requires.2)

pub returns : goal.returns
returns g c = IfOk-weaker c.total.result _ _ (λ part m. total-is (plan_in c.args.plan.now) c.requires.0 part c.scenario.ensures.sound c.requires.1 (m (parts_of c.requires.0) c.requires.2)) c.total.ensures
