-- The job that starts next, and what its start leaves.
use Rattle.std.proofs.Common.{◌≡◌, ℕ, zero, suc, ◌+◌, ◌-◌, ◌≤◌, ◌<◌, Bool, true, false, cond, ◌&&◌, ◌||◌, nat_le, nat_eq, List, [], ◌∷◌, length, Option, Some, None, All, find, count_by, refl, sym, ◌∙◌, ap, arith, subst, inl, inr, ⊎_elim, ◌⊎◌}
use Rattle.std.specs.Option.{option_map_or}
use Rattle.std.proofs.lemmas.List.Sums.{sum_by-cons}
use Rattle.std.proofs.lemmas.List.Elements.{All-head, All-tail}
use Rattle.std.proofs.lemmas.Bool.{leb-true, lt-leb, cases_Bool, cond-true, cond-false, eq-eqb, and_parts, true≢false}
use Rattle.scenarios.specs.Job.{EffectiveJob, IsWithinLimits}
use Rattle.cluster_state.specs.State.{State, IsSound, free, waiting_job, started, without}
use Rattle.cluster_state.specs.Candidates.{put, by_estimate, in_order}
use Rattle.cluster_state.proofs.Lemmas.{find-in_order}
use Rattle.scenarios.specs.declared.order.Order.{Order}
use Rattle.scenarios.specs.declared.order.Order.TheVariants.{Arrival, Shortest}
use Rattle.easy_rule.specs.declared.shadow_time.Shadow.{Shadow}
use Rattle.easy_rule.specs.Rule.{next, next_of, may_backfill, shadow_at, decided, decisions}

-- the job is one of these
abbrev pub Member : List EffectiveJob → EffectiveJob → Type 0
Member [] job = ⊥
Member (j ∷ js) job = (j ≡ job) ⊎ Member js job

-- the job that is found is one of those searched
pub found-member : (q : EffectiveJob → Bool) (js : List EffectiveJob) (job : EffectiveJob) → find q js ≡ Some job → Member js job
found-member q [] job e = cc
found-member q (j ∷ js) job e =
    elim (q j) as (λ b. cond b (Some j) (find q js) ≡ Some job → (j ≡ job) ⊎ Member js job) [
      | true ↦ λ h. let same : j ≡ job = cc in inl same
      | false ↦ λ h. inr (found-member q js job h)
    ] e

count-member : (js : List EffectiveJob) (job : EffectiveJob) → Member js job → 1 ≤ count_by (λ (j : EffectiveJob). nat_eq j.number job.number) js
count-member [] job m = absurd m
count-member (j ∷ js) job m =
    let e = sum_by-cons (λ (j : EffectiveJob). cond (nat_eq j.number job.number) 1 0) j js in
    ⊎_elim
    (λ (same : j ≡ job). let one = cond-true {A = ℕ} (nat_eq j.number job.number) 1 0 (eq-eqb j.number job.number (ap (λ (x : EffectiveJob). x.number) same)) in omega (arith, e, one))
    (λ (later : Member js job). omega (arith, e, count-member js job later))
    m

-- one of these jobs is the one that its number finds, where the number stands once at most
pub find-member : (js : List EffectiveJob) (job : EffectiveJob) → Member js job → count_by (λ (j : EffectiveJob). nat_eq j.number job.number) js ≤ 1 → find (λ (j : EffectiveJob). nat_eq j.number job.number) js ≡ Some job
find-member [] job m l = absurd m
find-member (j ∷ js) job m l =
    let e = sum_by-cons (λ (j : EffectiveJob). cond (nat_eq j.number job.number) 1 0) j js in
    let f = find (λ (j : EffectiveJob). nat_eq j.number job.number) js in
    ⊎_elim
    (λ (same : j ≡ job). cond-true (nat_eq j.number job.number) (Some j) f (eq-eqb j.number job.number (ap (λ (x : EffectiveJob). x.number) same)) ∙ ap Some same)
    (λ (later : Member js job).
    let n = count-member js job later in
    ⊎_elim
    (λ (yes' : nat_eq j.number job.number ≡ true). let one = cond-true {A = ℕ} (nat_eq j.number job.number) 1 0 yes' in absurd (omega (arith, e, one)))
    (λ (no' : nat_eq j.number job.number ≡ false). cond-false (nat_eq j.number job.number) (Some j) f no' ∙ find-member js job later (omega (arith, e)))
    (cases_Bool (nat_eq j.number job.number)))
    m

-- the job that is found passes the test
pub found-passes : (q : EffectiveJob → Bool) (js : List EffectiveJob) (job : EffectiveJob) → find q js ≡ Some job → q job ≡ true
found-passes q [] job e = cc
found-passes q (j ∷ js) job e =
    ⊎_elim
    (λ (h : q j ≡ true). let k : cond true (Some j) (find q js) ≡ Some job = rw h at e in let same : j ≡ job = cc in subst (λ z. q z ≡ true) same h)
    (λ (h : q j ≡ false). found-passes q js job (rw h at e))
    (cases_Bool (q j))

put-member : (j : EffectiveJob) (xs : List EffectiveJob) (job : EffectiveJob) → Member (put j xs) job → Member (j ∷ xs) job
put-member j [] job m = m
put-member j (x ∷ xs) job m =
    elim (nat_le j.estimate x.estimate) as (λ b. Member (cond b (j ∷ x ∷ xs) (x ∷ put j xs)) job → Member (j ∷ x ∷ xs) job) [
      | true ↦ λ h. h
      | false ↦ λ h.
          ⊎_elim
          (λ (same : x ≡ job). inr (inl same))
          (λ (later : Member (put j xs) job).
          ⊎_elim (λ (same : j ≡ job). inl same) (λ (in_rest : Member xs job). inr (inr in_rest)) (put-member j xs job later))
          h
    ] m

by_estimate-member : (js : List EffectiveJob) (job : EffectiveJob) → Member (by_estimate js) job → Member js job
by_estimate-member [] job m = m
by_estimate-member (j ∷ js) job m =
    ⊎_elim (λ (same : j ≡ job). inl same) (λ (later : Member (by_estimate js) job). inr (by_estimate-member js job later)) (put-member j (by_estimate js) job m)

-- who stands in the order is one of the jobs that it orders
pub in_order-member : (o : Order) (js : List EffectiveJob) (job : EffectiveJob) → Member (in_order o js) job → Member js job
in_order-member Arrival js job m = m
in_order-member Shortest js job m = by_estimate-member js job m

-- the job of these that is next is one of them, and fits
pub next-facts : (s : State) (now : ℕ) (job : EffectiveJob) (js : List EffectiveJob) → next_of s now js ≡ Some job → Member js job × (job.size ≤ free s)
next-facts s now job [] e = cc
next-facts s now job (head ∷ rest) e =
    let q = may_backfill now (free s) (shadow_at s head.size) in
    let candidates = in_order s.order rest in
    ⊎_elim
    (λ (h : nat_le head.size (free s) ≡ true).
    let k : Some head ≡ Some job = sym (cond-true (nat_le head.size (free s)) (Some head) (find q candidates) h) ∙ e in
    let same : head ≡ job = cc in
    (inl same, subst (λ (j : EffectiveJob). j.size ≤ free s) same (leb-true head.size (free s) h)))
    (λ (h : nat_le head.size (free s) ≡ false).
    let k : find q candidates ≡ Some job = sym (cond-false (nat_le head.size (free s)) (Some head) (find q candidates) h) ∙ e in
    let p = found-passes q candidates job k in
    (inr (in_order-member s.order rest job (found-member q candidates job k)), leb-true job.size (free s) (and_parts _ _ p).0))
    (cases_Bool (nat_le head.size (free s)))

-- the job that is next in a sound state is the waiting one of its number
pub next-found : (s : State) (now : ℕ) (job : EffectiveJob) → IsSound s → next s now ≡ Some job → waiting_job s job.number ≡ Some job
next-found s now job h e = find-member s.waiting job (next-facts s now job s.waiting e).0 (omega (arith, h.once job.number))

-- the job that is next fits into the free processors
pub next-fits : (s : State) (now : ℕ) (job : EffectiveJob) → next s now ≡ Some job → job.size ≤ free s
next-fits s now job e = (next-facts s now job s.waiting e).1

-- who does not fit may not be backfilled
pub too-large : (now capacity : ℕ) (w : Shadow) (job : EffectiveJob) → capacity < job.size → may_backfill now capacity w job ≡ false
too-large now capacity w job l = ap (λ b. b && (nat_le (now + job.estimate) w.time || nat_le job.size w.extra)) (lt-leb job.size capacity l)

-- where the head does not fit, the next one is the first of all candidates, the head among them, that may be backfilled
pub next-candidates : (s : State) (now : ℕ) (head : EffectiveJob) (rest : List EffectiveJob) → s.waiting ≡ head ∷ rest → free s < head.size → next s now ≡ find (may_backfill now (free s) (shadow_at s head.size)) (in_order s.order s.waiting)
next-candidates s now head rest queue l =
    let q = may_backfill now (free s) (shadow_at s head.size) in
    ap (next_of s now) queue
    ∙ cond-false (nat_le head.size (free s)) (Some head) (find q (in_order s.order rest)) (lt-leb head.size (free s) l)
    ∙ sym (ap (λ js. find q (in_order s.order js)) queue ∙ find-in_order q s.order head rest (too-large now (free s) (shadow_at s head.size) head l))

-- the state after up to n starts, where one is next, is that after this start and up to n - 1 more
pub decided-start : (n : ℕ) (s : State) (job : EffectiveJob) (now : ℕ) → 0 < n → next s now ≡ Some job → decided n s now ≡ decided (n - 1) (started s job now) now
unfolding decided
decided-start zero s job now l e = absurd (omega arith)
decided-start (suc n) s job now l e =
    ap (λ o. option_map_or (λ job. decided n (started s job now) now) o s) e ∙ ap (λ m. decided m (started s job now) now) (let k : n ≡ suc n - 1 = omega arith in k)

-- where nobody is next, the state is as it was
pub decided-stop : (n : ℕ) (s : State) (now : ℕ) → next s now ≡ None → decided n s now ≡ s
unfolding decided
decided-stop zero s now e = refl
decided-stop (suc n) s now e = ap (λ o. option_map_or (λ job. decided n (started s job now) now) o s) e

-- up to n starts, where one is next, are this start and up to n - 1 more
pub decisions-start : (n : ℕ) (s : State) (job : EffectiveJob) (now : ℕ) → 0 < n → next s now ≡ Some job → decisions n s now ≡ record { number = job.number; at = now } ∷ decisions (n - 1) (started s job now) now
unfolding decisions
decisions-start zero s job now l e = absurd (omega arith)
decisions-start (suc n) s job now l e =
    ap (λ o. option_map_or (λ (job : EffectiveJob). record { number = job.number; at = now } ∷ decisions n (started s job now) now) o []) e
    ∙ ap (λ m. record { number = job.number; at = now } ∷ decisions m (started s job now) now) (let k : n ≡ suc n - 1 = omega arith in k)

-- where nobody is next there are no starts
pub decisions-stop : (n : ℕ) (s : State) (now : ℕ) → next s now ≡ None → decisions n s now ≡ []
unfolding decisions
decisions-stop zero s now e = refl
decisions-stop (suc n) s now e = ap (λ o. option_map_or (λ (job : EffectiveJob). record { number = job.number; at = now } ∷ decisions n (started s job now) now) o []) e

-- what holds of all holds of one of them
pub All-member : (P : EffectiveJob → Type 0) (js : List EffectiveJob) (job : EffectiveJob) → Member js job → All P js → P job
All-member P [] job m a = absurd m
All-member P (j ∷ js) job m a =
    ⊎_elim (λ (same : j ≡ job). subst P same (All-head P j js a)) (λ (later : Member js job). All-member P js job later (All-tail P j js a)) m

pub next-takes : (s : State) (now : ℕ) (job : EffectiveJob) → IsSound s → next s now ≡ Some job → 1 ≤ job.size
next-takes s now job h e = (All-member IsWithinLimits s.waiting job (next-facts s now job s.waiting e).0 h.waiting_limits).takes_some

-- on a full machine nobody is next
pub next-full : (s : State) (now : ℕ) → IsSound s → free s ≡ 0 → next s now ≡ None
next-full s now h full = none-or (next s now) (λ job e. let l = next-takes s now job h e in let m = next-fits s now job e in omega arith)
  where
    none-or : (o : Option EffectiveJob) → ((job : EffectiveJob) → o ≡ Some job → ⊥) → o ≡ None
    none-or None k = refl
    none-or (Some job) k = absurd (k job refl)

-- without the number of one of these jobs they are one fewer
pub length-without : (js : List EffectiveJob) (job : EffectiveJob) → Member js job → length (without job.number js) + 1 ≡ length js
length-without [] job m = absurd m
length-without (j ∷ js) job m =
    ⊎_elim
    (λ (h : nat_eq j.number job.number ≡ true). let e = ap length (cond-true (nat_eq j.number job.number) js (j ∷ without job.number js) h) in omega (arith, e))
    (λ (h : nat_eq j.number job.number ≡ false).
    let e = ap length (cond-false (nat_eq j.number job.number) js (j ∷ without job.number js) h) in
    ⊎_elim
    (λ (same : j ≡ job). absurd (true≢false (sym (eq-eqb j.number job.number (ap (λ (x : EffectiveJob). x.number) same)) ∙ h)))
    (λ (later : Member js job). omega (arith, e, length-without js job later))
    m)
    (cases_Bool (nat_eq j.number job.number))
