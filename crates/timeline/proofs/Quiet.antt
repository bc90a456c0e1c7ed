-- What is decided stays decided, until a job ends or arrives.
use Rattle.std.proofs.Common.{◌≡◌, ◌≢◌, ℕ, zero, suc, ◌+◌, ◌-◌, not, nat_eq, List, [], ◌∷◌, ◌++◌, length, append-nil, add-zero, Any, filter, refl, sym, ◌∙◌, ap, arith, inl, inr}
use Rattle.std.proofs.lemmas.Bool.{cond-true, ne_eqb}
use Rattle.scenarios.specs.Plan.{Plan}
use Rattle.scenarios.specs.declared.placed.Placed.{Placed}
use Rattle.scenarios.specs.Placed.{real_end}
use Rattle.cluster_state.specs.State.{State}
use Rattle.easy_rule.specs.Pass.{front}
use Rattle.easy_rule.specs.Rule.{shadow_of, next, state_after, starts_at}
use Rattle.easy_rule.specs.Simulation.{IsEvent, before, submitted, ready, ended, joined, starts_before}
use Rattle.easy_rule.proofs.Lemmas.{state_after-done, starts_at-done, decided-done, next-later, arrivals-unsettle-nobody}
use Rattle.timeline.specs.Laws.{EachStateIsSettled, IsQuiet, QuietSecondsChangeNothing, OnlyEndsUnsettle}
use Rattle.timeline.proofs.Facts.{before-more, starts_before-more}

-- before each second nobody may start
pub each-state-is-settled : EachStateIsSettled
unfolding before
each-state-is-settled plan zero = refl
each-state-is-settled plan (suc t) =
    let s = ready plan (before plan t) t in
    next-later (state_after s t) t (suc t) (state_after s t).waiting (omega arith) (decided-done (length s.waiting) s t (omega arith))

ended-none : (t : ℕ) (rs : List Placed) → (Any (λ r. real_end r ≡ t) rs → ⊥) → filter (λ r. not (nat_eq (real_end r) t)) rs ≡ rs
ended-none t [] none = refl
ended-none t (r ∷ rs) none =
    let ne : real_end r ≡ t → ⊥ = λ e. none (0, r, omega arith, refl, e) in
    cond-true (not (nat_eq (real_end r) t)) (r ∷ filter (λ r. not (nat_eq (real_end r) t)) rs) (filter (λ r. not (nat_eq (real_end r) t)) rs) (ap not (ne_eqb (real_end r) t ne))
    ∙ ap (λ l. r ∷ l) (ended-none t rs (λ (k, x, l, at, e). none (suc k, x, omega arith, at, e)))

nil_from_not : {X : Type 0} (xs : List X) → (xs ≢ [] → ⊥) → xs ≡ []
nil_from_not [] h = refl
nil_from_not (x ∷ xs) h = absurd (h (λ e. cc))

quiet-ready : (plan : Plan) (t : ℕ) → (IsEvent plan t → ⊥) → ready plan (before plan t) t ≡ before plan t
quiet-ready plan t quiet =
    rw (ended-none t (before plan t).running (λ a. quiet (inr a)), nil_from_not (submitted plan t) (λ a. quiet (inl a)), append-nil) refl

quiet-for : (plan : Plan) (a n : ℕ) → IsQuiet plan a (a + n) → (before plan (a + n) ≡ before plan a) × (starts_before plan (a + n) ≡ starts_before plan a)
quiet-for plan a zero quiet = (ap (before plan) (add-zero a), ap (starts_before plan) (add-zero a))
quiet-for plan a (suc n) quiet =
    let i = quiet-for plan a n (λ t l m. quiet t l (omega arith)) in
    let t = a + n in
    let one : a + suc n ≡ t + 1 = omega arith in
    let still = quiet-ready plan t (quiet t (omega arith) (omega arith)) in
    let settled = each-state-is-settled plan t in (
      ap (before plan) one ∙ before-more plan t ∙ ap (λ (s : State). state_after s t) still ∙ state_after-done (before plan t) t settled ∙ i.0,
      ap (starts_before plan) one ∙ starts_before-more plan t ∙ ap (λ l. starts_before plan t ++ l) (ap (λ (s : State). starts_at s t) still ∙ starts_at-done (before plan t) t settled)
          ∙ append-nil (starts_before plan t) ∙ i.1,
    )

-- over seconds at which no job ends and none is submitted, no state changes and nobody starts
pub quiet-seconds-change-nothing : QuietSecondsChangeNothing
quiet-seconds-change-nothing plan a b l quiet =
    let n = b - a in
    let whole : a + n ≡ b = omega arith in
    let i = quiet-for plan a n (λ t x y. quiet t x (omega arith)) in
    (ap (before plan) (sym whole) ∙ i.0, ap (starts_before plan) (sym whole) ∙ i.1)

-- where no job ends at t, nobody who waited before t may start, and the shadow of the first of them stays the same
pub only-ends-unsettle : OnlyEndsUnsettle
only-ends-unsettle plan t none =
    let s = before plan t in
    let js = submitted plan t in
    let same : ended s t ≡ s = ap (λ (rs : List Placed). let z : State = record { procs = s.procs; order = s.order; waiting = s.waiting; running = rs } in z) (ended-none t s.running none) in
    let is : ready plan s t ≡ joined s js = ap (λ (z : State). joined z js) same in
    let law = arrivals-unsettle-nobody s js t (each-state-is-settled plan t) in
    (ap (λ (z : State). next (front z (length s.waiting)) t) is ∙ law.0, λ w known. ap shadow_of is ∙ law.1 w known)
