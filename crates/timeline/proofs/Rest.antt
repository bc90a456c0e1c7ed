-- Once nobody waits or runs and nobody is to come, nothing happens any more.
use Rattle.std.proofs.Common.{◌≡◌, ℕ, zero, suc, ◌+◌, ◌-◌, ◌≤◌, ◌<◌, List, [], ◌∷◌, ◌++◌, add-zero, append-nil, max, nat_eq, filter, All, refl, sym, ◌∙◌, ap, arith}
use Rattle.std.proofs.lemmas.List.Elements.{All-head, All-tail, All-nil, All-cons, All-weaker}
use Rattle.std.proofs.lemmas.Bool.{cond-false, ne_eqb}
use Rattle.scenarios.specs.Job.{EffectiveJob}
use Rattle.scenarios.specs.Plan.{Plan}
use Rattle.scenarios.specs.declared.order.Order.{Order}
use Rattle.scenarios.specs.declared.placed.Placed.{Placed}
use Rattle.cluster_state.specs.State.{State, empty}
use Rattle.easy_rule.specs.Rule.{decided, decisions, state_after, starts_at}
use Rattle.easy_rule.specs.Simulation.{before, starts_before, submitted, ready, last_submit}
use Rattle.timeline.proofs.Facts.{before-more, starts_before-more}

-- no job is submitted after the last submit second
pub submits-by : (js : List EffectiveJob) → All (λ j. j.submit ≤ last_submit js) js
submits-by [] = All-nil (λ (j : EffectiveJob). j.submit ≤ 0)
submits-by (j ∷ js) =
    All-cons (λ (k : EffectiveJob). k.submit ≤ max j.submit (last_submit js)) j js (omega arith)
    (All-weaker (λ (k : EffectiveJob). k.submit ≤ last_submit js) (λ (k : EffectiveJob). k.submit ≤ max j.submit (last_submit js)) (λ k l. omega arith) js (submits-by js))

none-at : (t last : ℕ) (js : List EffectiveJob) → last < t → All (λ j. j.submit ≤ last) js → filter (λ (j : EffectiveJob). nat_eq j.submit t) js ≡ []
none-at t last [] l a = refl
none-at t last (j ∷ js) l a =
    let k = All-head (λ (j : EffectiveJob). j.submit ≤ last) j js a in
    cond-false (nat_eq j.submit t) (j ∷ filter (λ (j : EffectiveJob). nat_eq j.submit t) js) (filter (λ (j : EffectiveJob). nat_eq j.submit t) js) (ne_eqb j.submit t (λ h. omega arith))
    ∙ none-at t last js l (All-tail (λ (j : EffectiveJob). j.submit ≤ last) j js a)

-- after the last submit second nobody is submitted
pub submitted-none : (plan : Plan) (t : ℕ) → last_submit plan.jobs < t → submitted plan t ≡ []
submitted-none plan t l = none-at t (last_submit plan.jobs) plan.jobs l (submits-by plan.jobs)

empty-after : (m : ℕ) (o : Order) (t : ℕ) → state_after (empty m o) t ≡ empty m o
unfolding decided
empty-after m o t = refl

empty-starts : (m : ℕ) (o : Order) (t : ℕ) → starts_at (empty m o) t ≡ []
unfolding decisions
empty-starts m o t = refl

empty-ready : (plan : Plan) (t : ℕ) (s : State) (m : ℕ) (o : Order) → s ≡ empty m o → submitted plan t ≡ [] → ready plan s t ≡ empty m o
empty-ready plan t s m o e n = rw (e, n) refl

-- from an empty state after the last submit second on, nothing changes and nobody starts
pub rests : (plan : Plan) (t n : ℕ) (m : ℕ) (o : Order) → last_submit plan.jobs < t → before plan t ≡ empty m o → (before plan (t + n) ≡ empty m o) × (starts_before plan (t + n) ≡ starts_before plan t)
rests plan t zero m o l e = (ap (before plan) (add-zero t) ∙ e, ap (starts_before plan) (add-zero t))
rests plan t (suc n) m o l e =
    let i = rests plan t n m o l e in
    let one : t + suc n ≡ (t + n) + 1 = omega arith in
    let still = empty-ready plan (t + n) (before plan (t + n)) m o i.0 (submitted-none plan (t + n) (omega arith)) in (
      ap (before plan) one ∙ before-more plan (t + n) ∙ ap (λ (z : State). state_after z (t + n)) still ∙ empty-after m o (t + n),
      ap (starts_before plan) one ∙ starts_before-more plan (t + n) ∙ ap (λ l. starts_before plan (t + n) ++ l) (ap (λ (z : State). starts_at z (t + n)) still ∙ empty-starts m o (t + n))
          ∙ append-nil (starts_before plan (t + n)) ∙ i.1,
    )

-- a state in which nobody waits or runs is the empty one of its machine and order
pub empty-is : (s : State) → s.waiting ≡ [] → s.running ≡ [] → s ≡ empty s.procs s.order
empty-is s a b = go s.procs s.order s.waiting s.running a b
  where
    go : (m : ℕ) (o : Order) (js : List EffectiveJob) (rs : List Placed) → js ≡ [] → rs ≡ [] → (let z : State = record { procs = m; order = o; waiting = js; running = rs } in z) ≡ empty m o
    go m o js rs a b = rw (a, b) refl

-- where nobody waits or runs after the last submit second, all starts have been made
pub all-started : (plan : Plan) (t end : ℕ) (s : State) → s ≡ before plan t → last_submit plan.jobs < t → t ≤ end → s.waiting ≡ [] → s.running ≡ [] → starts_before plan t ≡ starts_before plan end
all-started plan t end s is l m a b =
    let whole : t + (end - t) ≡ end = omega arith in
    sym (ap (starts_before plan) (sym whole) ∙ (rests plan t (end - t) s.procs s.order l (sym is ∙ empty-is s a b)).1)
