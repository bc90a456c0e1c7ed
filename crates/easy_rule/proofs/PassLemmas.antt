-- One pass over the candidates, against the search that begins again after each start: a backfilled job leaves the head its time, and takes from the
-- extra processors where it runs past it; who was refused stays refused.
use Rattle.std.proofs.Common.{◌≡◌, ℕ, ◌+◌, ◌-◌, ◌≤◌, ◌<◌, Bool, true, false, cond, ◌||◌, nat_le, nat_eq, List, [], ◌∷◌, ◌++◌, append_assoc, length, Some, None, All, find, count_by, sum_by, refl, sym, ◌∙◌, ap, arith, subst, inl, inr, ⊎_elim, ◌⊎◌}
use Rattle.std.proofs.lemmas.List.Sums.{sum_by-cons, sum_by-append}
use Rattle.std.proofs.lemmas.List.Elements.{All-head, All-tail, All-nil, All-cons, All-append, All-weaker}
use Rattle.std.proofs.lemmas.List.{nil_from_length}
use Rattle.std.proofs.lemmas.Bool.{leb-true, le-leb, lt-leb, cases_Bool, cond-true, cond-false, eq-eqb, and_parts, or_cases, and_from, or_left, or_right, false_from_ne_true, cond_both, true≢false}
use Rattle.scenarios.specs.Job.{EffectiveJob}
use Rattle.scenarios.specs.declared.order.Order.{Order}
use Rattle.scenarios.specs.declared.order.Order.TheVariants.{Arrival, Shortest}
use Rattle.scenarios.specs.declared.placed.Placed.{Placed}
use Rattle.cluster_state.specs.State.{State, IsSound, free, busy, available, back_by, waiting_job, started, without}
use Rattle.cluster_state.specs.Candidates.{in_order}
use Rattle.cluster_state.proofs.Lemmas.{sum_by-placed, without-by_estimate, sum_by-by_estimate, All-by_estimate}
use Rattle.easy_rule.specs.declared.shadow_time.Shadow.{Shadow}
use Rattle.easy_rule.specs.Rule.{next, next_of, may_backfill, shadow_at, shadow_for, shadow_of, shadow_time, decided, decisions, state_after, starts_at}
use Rattle.easy_rule.specs.Pass.{less, candidates, IsPass}
use Rattle.easy_rule.proofs.RuleLemmas.{shadow_time-IsLeast, back_by-le}
use Rattle.easy_rule.proofs.NextLemmas.{next-facts, next-found, next-candidates, length-without, decided-start, decisions-start, decided-stop, decisions-stop}

pub available-started : (s : State) (job : EffectiveJob) (now t : ℕ) → busy s.running ≤ s.procs → job.size ≤ free s → available (started s job now) t + job.size ≡ available s t + back_by t (record { job = job; start = now })
available-started s job now t fits small =
    let r : Placed = record { job = job; start = now } in
    omega (arith, sum_by-placed (back_by t) r s.running, sum_by-placed (λ (x : Placed). x.job.size) r s.running)

-- who may be backfilled fits, and is expected to end by the shadow time or takes no more than the extra processors
pub ways : (now capacity : ℕ) (w : Shadow) (job : EffectiveJob) → may_backfill now capacity w job ≡ true → (job.size ≤ capacity) × ((now + job.estimate ≤ w.time) ⊎ (job.size ≤ w.extra))
ways now capacity w job h =
    let p = and_parts (nat_le job.size capacity) (nat_le (now + job.estimate) w.time || nat_le job.size w.extra) h in (
      leb-true job.size capacity p.0,
      ⊎_elim
          (λ (e : nat_le (now + job.estimate) w.time ≡ true). inl (leb-true (now + job.estimate) w.time e))
          (λ (e : nat_le job.size w.extra ≡ true). inr (leb-true job.size w.extra e))
          (or_cases (nat_le (now + job.estimate) w.time) (nat_le job.size w.extra) p.1),
    )

-- a backfilled job leaves the head its shadow time
pub time-kept : (s : State) (need now : ℕ) (job : EffectiveJob) → busy s.running ≤ s.procs → need ≤ s.procs → may_backfill now (free s) (shadow_at s need) job ≡ true → shadow_time (started s job now) need ≡ shadow_time s need
time-kept s need now job fits within may =
    let r : Placed = record { job = job; start = now } in
    let s' = started s job now in
    let w = ways now (free s) (shadow_at s need) job may in
    let small : job.size ≤ free s = w.0 in
    let old = shadow_time-IsLeast s need fits within in
    let new = shadow_time-IsLeast s' need (omega (arith, sum_by-placed (λ (x : Placed). x.job.size) r s.running)) within in
    let t = shadow_time s need in
    let t' = shadow_time s' need in
    let at = available-started s job now t fits small in
    let at' = available-started s job now t' fits small in
    let enough : need ≤ available s' t =
    ⊎_elim
    (λ (e : now + job.estimate ≤ t). let all = cond-true {A = ℕ} (nat_le (now + job.estimate) t) job.size 0 (le-leb (now + job.estimate) t e) in omega (arith, at, all, old.holds))
    (λ (e : job.size ≤ available s t - need). omega (arith, at, old.holds))
    w.1 in
    let down : t' ≤ t = new.least t enough in
    let up : t ≤ t' = old.least t' (omega (arith, at', back_by-le t' r, new.holds)) in
    omega arith

pub shadow-kept : (s : State) (need now : ℕ) (job : EffectiveJob) → busy s.running ≤ s.procs → need ≤ s.procs → may_backfill now (free s) (shadow_at s need) job ≡ true → shadow_at (started s job now) need ≡ less (shadow_at s need) now job
shadow-kept s need now job fits within may =
    let r : Placed = record { job = job; start = now } in
    let s' = started s job now in
    let w = ways now (free s) (shadow_at s need) job may in
    let t = shadow_time s need in
    let same : shadow_time s' need ≡ t = time-kept s need now job fits within may in
    let at = available-started s job now t fits w.0 in
    let extra : available s' t - need ≡ cond (nat_le (now + job.estimate) t) (available s t - need) (available s t - need - job.size) =
    ⊎_elim
    (λ (e : nat_le (now + job.estimate) t ≡ true).
    let all = cond-true {A = ℕ} (nat_le (now + job.estimate) t) job.size 0 e in
    let k : available s' t - need ≡ available s t - need = omega (arith, at, all) in
    k ∙ sym (cond-true (nat_le (now + job.estimate) t) (available s t - need) (available s t - need - job.size) e))
    (λ (e : nat_le (now + job.estimate) t ≡ false).
    let nothing = cond-false {A = ℕ} (nat_le (now + job.estimate) t) job.size 0 e in
    let k : available s' t - need ≡ available s t - need - job.size = omega (arith, at, nothing) in
    k ∙ sym (cond-false (nat_le (now + job.estimate) t) (available s t - need) (available s t - need - job.size) e))
    (cases_Bool (nat_le (now + job.estimate) t)) in
    let P : ℕ → ℕ → Shadow = λ a b. record { time = a; extra = b } in
    ap (λ x. P x (available s' x - need)) same ∙ ap (P t) extra

-- who may not be backfilled may not either where no more is free, no more is extra, and the shadow time is no later
pub still-refused : (now capacity capacity' : ℕ) (w w' : Shadow) (job : EffectiveJob) → capacity' ≤ capacity → w'.time ≤ w.time → w'.extra ≤ w.extra → may_backfill now capacity w job ≡ false → may_backfill now capacity' w' job ≡ false
still-refused now capacity capacity' w w' job a b c no' =
    false_from_ne_true (may_backfill now capacity' w' job) (λ yes'.
    let v = ways now capacity' w' job yes' in
    let t = nat_le (now + job.estimate) w.time in
    let x = nat_le job.size w.extra in
    let either : (t || x) ≡ true =
    ⊎_elim
    (λ (e : now + job.estimate ≤ w'.time). or_left t x (le-leb (now + job.estimate) w.time (omega arith)))
    (λ (e : job.size ≤ w'.extra). or_right t x (le-leb job.size w.extra (omega arith)))
    v.1 in
    let again : may_backfill now capacity w job ≡ true = and_from (nat_le job.size capacity) (t || x) (le-leb job.size capacity (let z = v.0 in omega arith)) either in
    true≢false (sym again ∙ no'))

-- a start leaves no more extra processors than there were
pub less-extra : (w : Shadow) (now : ℕ) (job : EffectiveJob) → (less w now job).extra ≤ w.extra
less-extra w now job = cond_both (nat_le (now + job.estimate) w.time) w.extra (w.extra - job.size) (λ x. x ≤ w.extra) (λ _. omega arith) (λ _. omega arith)

-- where none passes none is found
pub find-none : {X : Type 0} (q : X → Bool) (xs : List X) → All (λ x. q x ≡ false) xs → find q xs ≡ None
find-none q [] a = refl
find-none q (x ∷ xs) a = cond-false (q x) (Some x) (find q xs) (All-head (λ x. q x ≡ false) x xs a) ∙ find-none q xs (All-tail (λ x. q x ≡ false) x xs a)

find-behind : {X : Type 0} (q : X → Bool) (xs ys : List X) → All (λ x. q x ≡ false) xs → find q (xs ++ ys) ≡ find q ys
find-behind q [] ys a = refl
find-behind q (x ∷ xs) ys a = cond-false (q x) (Some x) (find q (xs ++ ys)) (All-head (λ x. q x ≡ false) x xs a) ∙ find-behind q xs ys (All-tail (λ x. q x ≡ false) x xs a)

-- where none is found none passes
pub none-passes : {X : Type 0} (q : X → Bool) (xs : List X) → find q xs ≡ None → All (λ x. q x ≡ false) xs
none-passes q [] e = All-nil (λ x. q x ≡ false)
none-passes q (x ∷ xs) e =
    ⊎_elim
    (λ (y : q x ≡ true). let k : Some x ≡ None = sym (cond-true (q x) (Some x) (find q xs) y) ∙ e in cc)
    (λ (n : q x ≡ false). All-cons (λ x. q x ≡ false) x xs n (none-passes q xs (sym (cond-false (q x) (Some x) (find q xs) n) ∙ e)))
    (cases_Bool (q x))

pub sum_by-in_order : (f : EffectiveJob → ℕ) (o : Order) (js : List EffectiveJob) → sum_by f (in_order o js) ≡ sum_by f js
sum_by-in_order f Arrival js = refl
sum_by-in_order f Shortest js = sum_by-by_estimate f js

-- what holds of all jobs holds of all in the order in which they are looked at
pub All-in_order : (P : EffectiveJob → Type 0) (o : Order) (js : List EffectiveJob) → All P js → All P (in_order o js)
All-in_order P Arrival js a = a
All-in_order P Shortest js a = All-by_estimate P js a

pub without-in_order : (n : ℕ) (o : Order) (js : List EffectiveJob) → count_by (λ (j : EffectiveJob). nat_eq j.number n) js ≤ 1 → without n (in_order o js) ≡ in_order o (without n js)
without-in_order n Arrival js once = refl
without-in_order n Shortest js once = without-by_estimate n js once

without-unique : (job : EffectiveJob) (xs ys : List EffectiveJob) → count_by (λ (j : EffectiveJob). nat_eq j.number job.number) (xs ++ job ∷ ys) ≤ 1 → without job.number (xs ++ job ∷ ys) ≡ xs ++ ys
without-unique job [] ys once = cond-true (nat_eq job.number job.number) ys (job ∷ without job.number ys) (eq-eqb job.number job.number refl)
without-unique job (x ∷ xs) ys once =
    let p : EffectiveJob → ℕ = λ j. cond (nat_eq j.number job.number) 1 0 in
    let all = sum_by-cons p x (xs ++ job ∷ ys) in
    let parts = sum_by-append p xs (job ∷ ys) in
    let there = sum_by-cons p job ys in
    let one = cond-true {A = ℕ} (nat_eq job.number job.number) 1 0 (eq-eqb job.number job.number refl) in
    ⊎_elim
    (λ (h : nat_eq x.number job.number ≡ true). let two = cond-true {A = ℕ} (nat_eq x.number job.number) 1 0 h in absurd (omega (arith, once, all, parts, there, one, two)))
    (λ (h : nat_eq x.number job.number ≡ false).
    cond-false (nat_eq x.number job.number) (xs ++ job ∷ ys) (x ∷ without job.number (xs ++ job ∷ ys)) h ∙ ap (λ l. x ∷ l) (without-unique job xs ys (omega (arith, once, all))))
    (cases_Bool (nat_eq x.number job.number))

-- the state after all starts of a second is the same once the next one has started
pub state_after-started : (s : State) (now : ℕ) (job : EffectiveJob) → next s now ≡ Some job → state_after (started s job now) now ≡ state_after s now
state_after-started s now job e =
    let n = length-without s.waiting job (next-facts s now job s.waiting e).0 in
    let k : length s.waiting - 1 ≡ length (without job.number s.waiting) = omega (arith, n) in
    sym (decided-start (length s.waiting) s job now (omega (arith, n)) e ∙ ap (λ m. decided m (started s job now) now) k)

-- the starts of a second are that of the next job and those from the state that it leaves
pub starts_at-started : (s : State) (now : ℕ) (job : EffectiveJob) → next s now ≡ Some job → starts_at s now ≡ record { number = job.number; at = now } ∷ starts_at (started s job now) now
starts_at-started s now job e =
    let n = length-without s.waiting job (next-facts s now job s.waiting e).0 in
    let k : length s.waiting - 1 ≡ length (without job.number s.waiting) = omega (arith, n) in
    decisions-start (length s.waiting) s job now (omega (arith, n)) e ∙ ap (λ m. record { number = job.number; at = now } ∷ decisions m (started s job now) now) k

-- where nobody is next a decision leaves the state as it was
pub state_after-done : (s : State) (now : ℕ) → next s now ≡ None → state_after s now ≡ s
state_after-done s now e = decided-stop (length s.waiting) s now e

-- where nobody is next nobody starts
pub starts_at-done : (s : State) (now : ℕ) → next s now ≡ None → starts_at s now ≡ []
starts_at-done s now e = decisions-stop (length s.waiting) s now e

-- where nobody waits nobody is next
pub next-empty : (s : State) (now : ℕ) → length s.waiting < 1 → next s now ≡ None
next-empty s now l = ap (λ js. next_of s now js) (nil_from_length s.waiting (omega arith))

-- a pass goes over those who may not start
pub pass-over : (s : State) (now : ℕ) (w : Shadow) (left skip rest : List EffectiveJob) → IsPass s now w left → left ≡ skip ++ rest → All (λ j. may_backfill now (free s) w j ≡ false) skip → IsPass s now w rest
pass-over s now w left skip rest p e refused = record {
  head = p.head;
  later = p.later;
  queue = p.queue;
  waits = p.waits;
  shadow = p.shadow;
  passed = p.passed ++ skip;
  parts = p.parts ∙ ap (λ l. p.passed ++ l) e ∙ sym (append_assoc p.passed skip rest);
  refused = All-append (λ j. may_backfill now (free s) w j ≡ false) p.passed skip p.refused refused;
}

pass-candidates : (s : State) (now : ℕ) (w : Shadow) (left : List EffectiveJob) (p : IsPass s now w left) → next s now ≡ find (may_backfill now (free s) w) left
pass-candidates s now w left p =
    let q = may_backfill now (free s) w in
    next-candidates s now p.head p.later p.queue p.waits ∙ ap (λ v. find (may_backfill now (free s) v) (candidates s)) (sym p.shadow) ∙ ap (find q) p.parts ∙ find-behind q p.passed left p.refused

-- the first that is left of a pass is next where it may be backfilled
pub pass-next : (s : State) (now : ℕ) (w : Shadow) (job : EffectiveJob) (rest : List EffectiveJob) → IsPass s now w (job ∷ rest) → may_backfill now (free s) w job ≡ true → next s now ≡ Some job
pass-next s now w job rest p may = pass-candidates s now w (job ∷ rest) p ∙ cond-true (may_backfill now (free s) w job) (Some job) (find (may_backfill now (free s) w) rest) may

-- nobody is next where none that is left of a pass may be backfilled
pub pass-done : (s : State) (now : ℕ) (w : Shadow) (left : List EffectiveJob) → IsPass s now w left → All (λ j. may_backfill now (free s) w j ≡ false) left → next s now ≡ None
pass-done s now w left p refused = pass-candidates s now w left p ∙ find-none (may_backfill now (free s) w) left refused

-- the shadow of a pass is the state's
pub pass-shadow : (s : State) (now : ℕ) (w : Shadow) (left : List EffectiveJob) → IsPass s now w left → shadow_of s ≡ Some w
pass-shadow s now w left p =
    ap (shadow_for s) p.queue ∙ cond-false (nat_le p.head.size (free s)) None (Some (shadow_at s p.head.size)) (lt-leb p.head.size (free s) p.waits) ∙ ap Some (sym p.shadow)

other-job : (s : State) (head job : EffectiveJob) (rest : List EffectiveJob) → s.waiting ≡ head ∷ rest → free s < head.size → job.size ≤ free s → waiting_job s job.number ≡ Some job → nat_eq head.number job.number ≡ false
other-job s head job rest queue waits small found =
    false_from_ne_true (nat_eq head.number job.number) (λ same.
    let e : Some head ≡ Some job = sym (cond-true (nat_eq head.number job.number) (Some head) (find (λ (j : EffectiveJob). nat_eq j.number job.number) rest) same) ∙ sym (ap (λ js. find (λ (j : EffectiveJob). nat_eq j.number job.number) js) queue) ∙ found in
    let k : head ≡ job = cc in
    let sizes = ap (λ (j : EffectiveJob). j.size) k in
    omega arith)

candidates-started : (s : State) (now : ℕ) (job : EffectiveJob) (passed rest : List EffectiveJob) → IsSound s → candidates s ≡ passed ++ job ∷ rest → candidates (started s job now) ≡ passed ++ rest
candidates-started s now job passed rest h e =
    let p : EffectiveJob → ℕ = λ j. cond (nat_eq j.number job.number) 1 0 in
    let once : count_by (λ (j : EffectiveJob). nat_eq j.number job.number) s.waiting ≤ 1 = omega (arith, h.once job.number) in
    sym (without-in_order job.number s.order s.waiting once) ∙ ap (without job.number) e
    ∙ without-unique job passed rest (omega (arith, once, sum_by-in_order p s.order s.waiting, ap (sum_by p) e))

-- a pass goes on behind the first that is left, once it has started, with what it leaves of the shadow
pub pass-started : (s : State) (now : ℕ) (w : Shadow) (job : EffectiveJob) (rest : List EffectiveJob) → IsSound s → IsPass s now w (job ∷ rest) → may_backfill now (free s) w job ≡ true
    → IsPass (started s job now) now (less w now job) rest
pass-started s now w job rest h p may =
    let s' = started s job now in
    let small = (ways now (free s) w job may).0 in
    let need = p.head.size in
    let r : Placed = record { job = job; start = now } in
    let freed : free s' ≤ free s = omega (arith, sum_by-placed (λ (x : Placed). x.job.size) r s.running) in
    let within : need ≤ s.procs = All-head (λ (j : EffectiveJob). j.size ≤ s.procs) p.head p.later (subst (All (λ (j : EffectiveJob). j.size ≤ s.procs)) p.queue h.waiting_fit) in
    let found = next-found s now job h (pass-next s now w job rest p may) in
    record {
      head = p.head;
      later = without job.number p.later;
      queue = ap (without job.number) p.queue ∙ cond-false (nat_eq p.head.number job.number) p.later (p.head ∷ without job.number p.later) (other-job s p.head job p.later p.queue p.waits small found);
      waits = let z = p.waits in omega arith;
      shadow = ap (λ v. less v now job) p.shadow ∙ sym (shadow-kept s need now job h.fits within (subst (λ v. may_backfill now (free s) v job ≡ true) p.shadow may));
      passed = p.passed;
      parts = candidates-started s now job p.passed rest h p.parts;
      refused =
          All-weaker (λ j. may_backfill now (free s) w j ≡ false) (λ j. may_backfill now (free s') (less w now job) j ≡ false)
          (λ j. still-refused now (free s) (free s') w (less w now job) j freed (omega arith) (less-extra w now job)) p.passed p.refused;
    }
