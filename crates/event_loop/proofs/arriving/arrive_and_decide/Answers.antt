use Rattle.std.proofs.Common.{◌≡◌, [], ◌∷◌, List, Option, IfSome, length, subst}
use Rattle.scenarios.specs.Job.{EffectiveJob}
use Rattle.scenarios.specs.Plan.{Plan}
use Rattle.scenarios.specs.PlanView.{plan_in}
use Rattle.cluster_state.specs.State.{State, IsSound}
use Rattle.easy_rule.specs.Decision.{IsSettledFront}
use Rattle.easy_rule.specs.Simulation.{joined, submitted}
use Rattle.event_loop.proofs.arriving.arrive_and_decide.Goals as goal

pub start_at_once-requires-clause-sound : goal.start_at_once-requires-clause-sound
start_at_once-requires-clause-sound g c =
    let plan : Plan = plan_in c.args.plan.now in
    let s : State = c.args.cluster.now.state in
    let only : submitted plan c.args.second ≡ c.in-Some.job ∷ [] = subst (λ (o : Option EffectiveJob). IfSome o (λ job. submitted plan c.args.second ≡ job ∷ [])) c.in-Some.is c.in_ok-job.ensures.only in
    subst (λ (js : List EffectiveJob). IsSound (joined s js)) only c.requires.due.sound

pub start_at_once-requires-clause-settled : goal.start_at_once-requires-clause-settled
start_at_once-requires-clause-settled g c =
    let plan : Plan = plan_in c.args.plan.now in
    let s : State = c.args.cluster.now.state in
    let only : submitted plan c.args.second ≡ c.in-Some.job ∷ [] = subst (λ (o : Option EffectiveJob). IfSome o (λ job. submitted plan c.args.second ≡ job ∷ [])) c.in-Some.is c.in_ok-job.ensures.only in
    subst (λ (js : List EffectiveJob). IfSome c.args.last_shadow (λ w. IsSettledFront (joined s js) c.args.second (length s.waiting) w)) only c.requires.due.settled
