-- What all the starts of one second do, and what stays where nobody is next: nobody is at a later second either, and whoever joins the queue leaves
-- the shadow as it is.
use Rattle.std.proofs.Common.{◌≡◌, ℕ, zero, suc, ◌+◌, ◌-◌, ◌^◌, ◌≤◌, ◌<◌, Bool, true, false, cond, ◌||◌, nat_eq, nat_le, List, [], ◌∷◌, ◌++◌, length, take, Option, Some, None, All, find, sum_by, count_by, refl, sym, ◌∙◌, ap, arith, subst, inl, inr, ⊎_elim, ◌⊎◌}
use Rattle.std.proofs.lemmas.List.Sums.{sum_by-cons}
use Rattle.std.proofs.lemmas.List.Elements.{All-head, All-nil, All-cons}
use Rattle.std.proofs.lemmas.Bool.{cond-true, cond-false, cases_Bool, le-leb, false_from_ne_true, or_left, or_right, and_from, true≢false}
use Rattle.scenarios.specs.Job.{EffectiveJob}
use Rattle.cluster_state.specs.State.{State, IsSound, free, started}
use Rattle.cluster_state.specs.Candidates.{in_order}
use Rattle.scenarios.specs.declared.placed.Placed.{Placed}
use Rattle.cluster_state.proofs.Lemmas.{sum_by-without, sound-started}
use Rattle.easy_rule.specs.declared.shadow_time.Shadow.{Shadow}
use Rattle.easy_rule.specs.declared.start.Start.{Start}
use Rattle.easy_rule.specs.Rule.{next, next_of, may_backfill, shadow_at, shadow_time, shadow_for, decided, decisions}
use Rattle.easy_rule.specs.Pass.{front}
use Rattle.easy_rule.specs.Simulation.{joined}
use Rattle.easy_rule.specs.Laws.{ArrivalsUnsettleNobody}
use Rattle.easy_rule.proofs.NextLemmas.{length-without, next-facts, next-found, next-fits, decided-start, decided-stop, decisions-start, decisions-stop}
use Rattle.easy_rule.proofs.PassLemmas.{ways, next-empty}

-- an option is None or has something
pub cases_option : {X : Type 0} (o : Option X) → (o ≡ None) ⊎ ((x : X) × (o ≡ Some x))
cases_option None = inl refl
cases_option (Some x) = inr (x, refl)

-- what each start keeps, a decision keeps
pub decided-keeps : (Inv : State → Type 0) (now : ℕ) → ((s : State) (job : EffectiveJob) → next s now ≡ Some job → Inv s → Inv (started s job now)) → (n : ℕ) (s : State) → Inv s → Inv (decided n s now)
unfolding decided
decided-keeps Inv now step zero s h = h
decided-keeps Inv now step (suc n) s h =
    ⊎_elim
    (λ (e : next s now ≡ None). subst Inv (sym (decided-stop (suc n) s now e)) h)
    (λ (f : (job : EffectiveJob) × (next s now ≡ Some job)).
    subst Inv (sym (decided-start (suc n) s f.0 now (omega arith) f.1))
    (subst (λ m. Inv (decided m (started s f.0 now) now)) (let k : n ≡ suc n - 1 = omega arith in k) (decided-keeps Inv now step n (started s f.0 now) (step s f.0 f.1 h))))
    (cases_option (next s now))

-- after up to as many starts as jobs wait, or more, nobody is next
pub decided-done : (n : ℕ) (s : State) (now : ℕ) → length s.waiting ≤ n → next (decided n s now) now ≡ None
unfolding decided
decided-done zero s now l = next-empty s now (omega arith)
decided-done (suc n) s now l =
    ⊎_elim
    (λ (e : next s now ≡ None). ap (λ (z : State). next z now) (decided-stop (suc n) s now e) ∙ e)
    (λ (f : (job : EffectiveJob) × (next s now ≡ Some job)).
    let fewer = length-without s.waiting f.0 (next-facts s now f.0 s.waiting f.1).0 in
    let one : suc n - 1 ≡ n = omega arith in
    ap (λ (z : State). next z now) (decided-start (suc n) s f.0 now (omega arith) f.1 ∙ ap (λ m. decided m (started s f.0 now) now) one)
    ∙ decided-done n (started s f.0 now) now (omega (arith, fewer)))
    (cases_option (next s now))

-- where nobody runs and nobody is next, nobody waits
pub nobody-waits : (s : State) (now : ℕ) (js : List EffectiveJob) → All (λ j. j.size ≤ s.procs) js → s.running ≡ [] → next_of s now js ≡ None → js ≡ []
nobody-waits s now [] a f e = refl
nobody-waits s now (head ∷ rest) a f e =
    let fits = All-head (λ (j : EffectiveJob). j.size ≤ s.procs) head rest a in
    let none = ap (λ rs. sum_by (λ (r : Placed). r.job.size) rs) f in
    let capacity : head.size ≤ free s = omega (arith, fits, none) in
    let k : Some head ≡ None = sym (cond-true (nat_le head.size (free s)) (Some head) (find (may_backfill now (free s) (shadow_at s head.size)) (in_order s.order rest)) (le-leb head.size (free s) capacity)) ∙ e in
    cc

-- all starts of a decision are of its second
pub starts-now : (n : ℕ) (s : State) (now : ℕ) → All (λ (x : Start). x.at ≡ now) (decisions n s now)
unfolding decisions
starts-now zero s now = All-nil (λ (x : Start). x.at ≡ now)
starts-now (suc n) s now =
    let P : List Start → Type 0 = λ l. All (λ (x : Start). x.at ≡ now) l in
    ⊎_elim
    (λ (e : next s now ≡ None). subst P (sym (decisions-stop (suc n) s now e)) (All-nil (λ (x : Start). x.at ≡ now)))
    (λ (f : (job : EffectiveJob) × (next s now ≡ Some job)).
    let one : n ≡ suc n - 1 = omega arith in
    subst P (sym (decisions-start (suc n) s f.0 now (omega arith) f.1))
    (All-cons (λ (x : Start). x.at ≡ now) (record { number = f.0.number; at = now }) (decisions (suc n - 1) (started s f.0 now) now) refl
    (subst (λ m. P (decisions m (started s f.0 now) now)) one (starts-now n (started s f.0 now) now))))
    (cases_option (next s now))

-- those of a number that start and those that wait then are together those that waited
pub outcome : (n k : ℕ) (s : State) (now : ℕ) → now < 2 ^ 49 → IsSound s
    → count_by (λ (x : Start). nat_eq x.number n) (decisions k s now) + count_by (λ (j : EffectiveJob). nat_eq j.number n) (decided k s now).waiting ≡ count_by (λ (j : EffectiveJob). nat_eq j.number n) s.waiting
unfolding decisions decided
outcome n zero s now small h = omega arith
outcome n (suc k) s now small h =
    let c : List Start → ℕ = λ l. count_by (λ (x : Start). nat_eq x.number n) l in
    let w : State → ℕ = λ z. count_by (λ (j : EffectiveJob). nat_eq j.number n) z.waiting in
    ⊎_elim
    (λ (e : next s now ≡ None).
    let a = ap c (decisions-stop (suc k) s now e) in
    let b = ap w (decided-stop (suc k) s now e) in
    omega (arith, a, b))
    (λ (f : (job : EffectiveJob) × (next s now ≡ Some job)).
    let job = f.0 in
    let s' = started s job now in
    let one : suc k - 1 ≡ k = omega arith in
    let found = next-found s now job h f.1 in
    let x : Start = record { number = job.number; at = now } in
    let a = ap c (decisions-start (suc k) s job now (omega arith) f.1 ∙ ap (λ m. x ∷ decisions m s' now) one) in
    let b = ap w (decided-start (suc k) s job now (omega arith) f.1 ∙ ap (λ m. decided m s' now) one) in
    let i = outcome n k s' now small (sound-started s job now h found (next-fits s now job f.1) small) in
    omega (arith, a, b, i, sum_by-cons (λ (x : Start). cond (nat_eq x.number n) 1 0) x (decisions k s' now), sum_by-without (λ (j : EffectiveJob). cond (nat_eq j.number n) 1 0) job.number s.waiting job found))
    (cases_option (next s now))

later-refused : (now later capacity : ℕ) (w : Shadow) (job : EffectiveJob) → now ≤ later → may_backfill now capacity w job ≡ false → may_backfill later capacity w job ≡ false
later-refused now later capacity w job l no' =
    false_from_ne_true (may_backfill later capacity w job) (λ yes'.
    let v = ways later capacity w job yes' in
    let t = nat_le (now + job.estimate) w.time in
    let x = nat_le job.size w.extra in
    let either : (t || x) ≡ true =
    ⊎_elim
    (λ (e : later + job.estimate ≤ w.time). or_left t x (le-leb (now + job.estimate) w.time (omega arith)))
    (λ (e : job.size ≤ w.extra). or_right t x (le-leb job.size w.extra e))
    v.1 in
    let again : may_backfill now capacity w job ≡ true = and_from (nat_le job.size capacity) (t || x) (le-leb job.size capacity v.0) either in
    true≢false (sym again ∙ no'))

find-weaker : {X : Type 0} (p q : X → Bool) (xs : List X) → ((x : X) → p x ≡ false → q x ≡ false) → find p xs ≡ None → find q xs ≡ None
find-weaker p q [] h e = refl
find-weaker p q (x ∷ xs) h e =
    ⊎_elim
    (λ (y : p x ≡ true). let k : Some x ≡ None = sym (cond-true (p x) (Some x) (find p xs) y) ∙ e in cc)
    (λ (n : p x ≡ false). cond-false (q x) (Some x) (find q xs) (h x n) ∙ find-weaker p q xs h (sym (cond-false (p x) (Some x) (find p xs) n) ∙ e))
    (cases_Bool (p x))

-- where nobody is next at a second, nobody is at a later one of the same state
pub next-later : (s : State) (now later : ℕ) (js : List EffectiveJob) → now ≤ later → next_of s now js ≡ None → next_of s later js ≡ None
next-later s now later [] l e = refl
next-later s now later (head ∷ rest) l e =
    let jobs = in_order s.order rest in
    let q = may_backfill now (free s) (shadow_at s head.size) in
    let q' = may_backfill later (free s) (shadow_at s head.size) in
    ⊎_elim
    (λ (y : nat_le head.size (free s) ≡ true). let k : Some head ≡ None = sym (cond-true (nat_le head.size (free s)) (Some head) (find q jobs) y) ∙ e in cc)
    (λ (n : nat_le head.size (free s) ≡ false).
    let k : find q jobs ≡ None = sym (cond-false (nat_le head.size (free s)) (Some head) (find q jobs) n) ∙ e in
    cond-false (nat_le head.size (free s)) (Some head) (find q' jobs) n
    ∙ find-weaker q q' jobs (λ j. later-refused now later (free s) (shadow_at s head.size) j l) k)
    (cases_Bool (nat_le head.size (free s)))

take-front : {X : Type 0} (xs ys : List X) → take (length xs) (xs ++ ys) ≡ xs
take-front [] ys = refl
take-front (x ∷ xs) ys = ap (λ l. x ∷ l) (take-front xs ys)

shadow-behind : (s z : State) (queue js : List EffectiveJob) (w : Shadow) → z.procs ≡ s.procs → z.running ≡ s.running → shadow_for s queue ≡ Some w → shadow_for z (queue ++ js) ≡ Some w
unfolding shadow_time
shadow-behind s z [] js w m r e = cc
shadow-behind s z (head ∷ rest) js w m r e = rw (m, r) e

-- where nobody may start, whoever joins the queue lets none of those before him start, and leaves the shadow as it is
pub arrivals-unsettle-nobody : ArrivalsUnsettleNobody
arrivals-unsettle-nobody s js now settled =
    let is : front (joined s js) (length s.waiting) ≡ s = ap (λ (w : List EffectiveJob). let z : State = record { procs = s.procs; order = s.order; waiting = w; running = s.running } in z) (take-front s.waiting js) in
    (ap (λ (z : State). next z now) is ∙ settled, λ w last_shadow. shadow-behind s (joined s js) s.waiting js w refl refl last_shadow)
