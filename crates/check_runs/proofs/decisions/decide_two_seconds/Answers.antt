use Rattle.std.proofs.Common.{◌≡◌, List, [], ◌∷◌, append_assoc, length, None, Some, sym, ◌∙◌, ap, arith, subst}
use Rattle.std.proofs.lemmas.List.{length-append}
use Rattle.scenarios.specs.Job.{EffectiveJob}
use Rattle.cluster_state.specs.State.{State, arrived}
use Rattle.easy_rule.specs.Rule.{next, shadow_of}
use Rattle.easy_rule.specs.Pass.{front}
use Rattle.easy_rule.specs.Simulation.{joined}
use Rattle.check_runs.proofs.decisions.decide_two_seconds.Goals as goal

both-join : (s a b : State) (j k : EffectiveJob) → a ≡ arrived s j → b ≡ arrived a k → b ≡ joined s (j ∷ k ∷ [])
both-join s a b j k e f =
    f ∙ ap (λ (z : State). arrived z k) e
    ∙ ap (λ (w : List EffectiveJob). let z : State = record { procs = s.procs; order = s.order; waiting = w; running = s.running } in z) (append_assoc s.waiting (j ∷ []) (k ∷ []))

pub decide_behind-requires-clause-settled : goal.decide_behind-requires-clause-settled
decide_behind-requires-clause-settled g c =
    let s : State = c.decide_into.new.cluster.state in
    let js : List EffectiveJob = c.args.third ∷ c.args.fourth ∷ [] in
    let n = c.waiting_count-settled.result in
    let many : n ≡ length s.waiting = c.waiting_count-settled.ensures.count in
    let join = both-join s c.arrive-2.new.self.state c.arrive-3.new.self.state c.args.third c.args.fourth c.in_ok-arrive-2.ensures.ok c.in_ok-arrive-3.ensures.ok in
    let settled : next s 1 ≡ None = subst (λ (z : State). next z 1 ≡ None) (sym c.in_ok-shadow.ensures.ok.state) (c.easy_is_a_rule.ensures.settles.after_decision c.arrive.new.self.state 1) in
    let law = c.arrivals_unsettle_nobody.ensures s js 2 (c.easy_is_a_rule.ensures.settles.at_later_second s 1 2 (omega arith) settled) in
    let known : shadow_of s ≡ Some c.in-Some.shadow = (rw c.in-Some.is at c.in_ok-shadow.ensures.outcome).is in
    let wait = ap (λ (z : State). length z.waiting) join in
    record {
      within = omega (arith, many, wait, length-append s.waiting js);
      settled = subst (λ (z : State). next (front z n) 2 ≡ None) (sym join) (subst (λ m. next (front (joined s js) m) 2 ≡ None) (sym many) law.0);
      shadow = subst (λ (z : State). shadow_of z ≡ Some c.in-Some.shadow) (sym join) (law.1 c.in-Some.shadow known);
    }
