use Rattle.std.proofs.Common.{arith, sym}
use Rattle.std.proofs.lemmas.Bool.{true≢false}
use Rattle.easy_rule.specs.Simulation.{before}
use Rattle.event_loop.proofs.engine.Engine.new.Goals as goal

pub invariant_of-result : goal.invariant_of-result
unfolding before
invariant_of-result g c = record {
  is_plan = c.view.ensures.sound;
  counted = omega arith;
  state_is = λ _. rw c.scenario.ensures.scenario at c.for_scenario-cluster.ensures;
  upcoming_is = λ _. rw c.view.ensures.same at c.at-upcoming.ensures.upcoming;
  last_shadow_is = λ _. tt;
  failed_is = λ e. absurd (true≢false (sym e));
}
