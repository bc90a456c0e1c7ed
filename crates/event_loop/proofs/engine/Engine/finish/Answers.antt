use Rattle.std.proofs.Common.{◌∙◌, sym, subst}
use Rattle.scenarios.specs.Plan.{Plan}
use Rattle.easy_rule.specs.Simulation.{IsEvent}
use Rattle.event_loop.specs.Events.{Progress}
use Rattle.event_loop.proofs.RunOn.{outcome-all, none-left}
use Rattle.event_loop.proofs.engine.Engine.finish.Goals as goal

pub returns-clause-done : goal.returns-clause-done
returns-clause-done g c = none-left c.args.self.now c.work_until.new.self c.in_ok-starts.ensures.plan c.in_ok-starts.ensures.starts.further.plan c.in_ok-starts.ensures.quiet

pub returns-clause-all : goal.returns-clause-all
returns-clause-all g c =
    let old : Progress = c.args.self.now in
    let now : Progress = c.work_until.new.self in
    let h = c.in_ok-starts.ensures.starts in
    let none = none-left old now c.in_ok-starts.ensures.plan h.further.plan c.in_ok-starts.ensures.quiet in
    h.outcome ∙ outcome-all old.plan now.position c.in_ok-starts.ensures.plan (λ u l v. none u l (subst (λ (p : Plan). IsEvent p u) (sym h.further.plan) v))
