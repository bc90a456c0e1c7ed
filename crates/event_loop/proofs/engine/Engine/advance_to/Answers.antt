use Rattle.std.proofs.Common.{ap}
use Rattle.scenarios.specs.Plan.{Plan}
use Rattle.scenarios.specs.PlanView.{plan_in}
use Rattle.event_loop.specs.Events.{Progress}
use Rattle.event_loop.proofs.RunOn.{run-on-quiet, engine-on}
use Rattle.event_loop.proofs.engine.Engine.advance_to.Goals as goal

pub invariant_of-self : goal.invariant_of-self
invariant_of-self g c =
    let old : Progress = c.args.self.now in
    let now : Progress = c.work_until.new.self in
    let plan : Plan = plan_in c.self.inside.plan in
    let h = c.in_ok-starts.ensures.starts in
    engine-on old now plan c.self.inside.cluster.state c.self.inside.upcoming c.self.inside.last_shadow c.self.inside.position c.self.inside.handled c.args.second c.self.inside.failed
    c.self.view_is c.self.invariant h.further.plan h.going c.in_ok-starts.ensures.quiet c.in_ok-starts.ensures.within

pub returns-clause-starts : goal.returns-clause-starts
returns-clause-starts g c =
    let old : Progress = c.args.self.now in
    let now : Progress = c.work_until.new.self in
    let h = c.in_ok-starts.ensures.starts in
    run-on-quiet old now _ c.in_ok-starts.starts.items c.args.second h c.in_ok-starts.ensures.within c.in_ok-starts.ensures.quiet
    (ap (λ (p : Progress). let v : Progress = record p { position = c.args.second } in v) c.self.view_is)
