-- The least second at which enough is available, and that it is one of the expected ends, seen one after another.
use Rattle.std.proofs.Common.{◌≡◌, ℕ, zero, suc, ◌+◌, ◌≤◌, ◌<◌, Bool, true, false, nat_le, List, [], ◌∷◌, length, take, get_or, All, sum_by, refl, sym, ◌∙◌, ap, arith, subst, inl, inr, ⊎_elim, ◌⊎◌}
use Rattle.std.proofs.lemmas.List.Sums.{sum_by-cons}
use Rattle.std.proofs.lemmas.List.Elements.{All-cons, All-head, All-tail, All-nil, All-more, All-weaker}
use Rattle.std.proofs.lemmas.List.{take_all}
use Rattle.std.proofs.lemmas.Bool.{cond_both, leb-true, le-leb, lt-leb, cases_eq, cond-true, cond-false, cases_lt}
use Rattle.scenarios.specs.declared.placed.Placed.{Placed}
use Rattle.scenarios.specs.Placed.{expected_end}
use Rattle.cluster_state.specs.State.{State, IsSound, free, busy, back_by, available}
use Rattle.easy_rule.specs.Rule.{first_from, shadow_time, IsLeast}

pub passes-first_from : (p : ℕ → Bool) (n t : ℕ) → p (t + n) ≡ true → p (first_from p n t) ≡ true
unfolding first_from
passes-first_from p zero t h = subst (λ m. p m ≡ true) (let e : t + 0 ≡ t = omega arith in e) h
passes-first_from p (suc n) t h =
    cond_both (p t) t (first_from p n (t + 1)) (λ x. p x ≡ true)
    (λ e. e)
    (λ _. passes-first_from p n (t + 1) (subst (λ m. p m ≡ true) (let e : t + suc n ≡ t + 1 + n = omega arith in e) h))

pub first_from-le : (p : ℕ → Bool) (n t u : ℕ) → t ≤ u → p u ≡ true → first_from p n t ≤ u
unfolding first_from
first_from-le p zero t u l h = l
first_from-le p (suc n) t u l h =
    cond_both (p t) t (first_from p n (t + 1)) (λ x. x ≤ u)
    (λ _. l)
    (λ e. first_from-le p n (t + 1) u
    (⊎_elim (λ (s : t ≡ u). absurd (true_false (sym h ∙ ap p (sym s) ∙ e))) (λ (s : t ≡ u → ⊥). omega arith) (cases_eq t u)) h)
  where
    true_false : true ≡ false → ⊥
    true_false e = cc

-- a running job has given back no more than its size
pub back_by-le : (t : ℕ) (r : Placed) → back_by t r ≤ r.job.size
back_by-le t r = cond_both (nat_le (expected_end r) t) r.job.size 0 (λ x. x ≤ r.job.size) (λ _. omega arith) (λ _. omega arith)

-- what running jobs have given back is at most what they hold
pub back-le-busy : (t : ℕ) (rs : List Placed) → sum_by (back_by t) rs ≤ busy rs
back-le-busy t [] = omega arith
back-le-busy t (r ∷ rs) =
    let one = cond_both (nat_le (expected_end r) t) r.job.size 0 (λ x. x ≤ r.job.size) (λ _. omega arith) (λ _. omega arith) in
    omega (arith, one, sum_by-cons (back_by t) r rs, sum_by-cons (λ (x : Placed). x.job.size) r rs, back-le-busy t rs)

-- running jobs that are all expected to end by a second have given back all that they hold
pub back-each : (t : ℕ) (rs : List Placed) → All (λ r. expected_end r ≤ t) rs → sum_by (back_by t) rs ≡ busy rs
back-each t [] a = refl
back-each t (r ∷ rs) a =
    let first : expected_end r ≤ t = All-head (λ r. expected_end r ≤ t) r rs a in
    let one = cond-true (nat_le (expected_end r) t) r.job.size 0 (le-leb (expected_end r) t first) in
    omega (arith, one, back-each t rs (All-tail (λ r. expected_end r ≤ t) r rs a), sum_by-cons (back_by t) r rs, sum_by-cons (λ (x : Placed). x.job.size) r rs)

pub back-all : (t : ℕ) (rs : List Placed) → sum_by expected_end rs ≤ t → sum_by (back_by t) rs ≡ busy rs
back-all t [] l = refl
back-all t (r ∷ rs) l =
    let e = sum_by-cons expected_end r rs in
    let first : expected_end r ≤ t = omega (arith, e) in
    let one = cond-true (nat_le (expected_end r) t) r.job.size 0 (le-leb (expected_end r) t first) in
    let others = back-all t rs (omega (arith, e)) in
    omega (arith, one, others, sum_by-cons (back_by t) r rs, sum_by-cons (λ (x : Placed). x.job.size) r rs)

-- the shadow time is the least second at which so many processors are available, if the machine has them
pub shadow_time-IsLeast : (s : State) (need : ℕ) → busy s.running ≤ s.procs → need ≤ s.procs → IsLeast (λ t. need ≤ available s t) (shadow_time s need)
unfolding shadow_time
shadow_time-IsLeast s need fits within =
    let p : ℕ → Bool = λ t. nat_le need (available s t) in
    let bound = sum_by expected_end s.running in
    let last : p (0 + bound) ≡ true = le-leb need (available s (0 + bound)) (omega (arith, back-all (0 + bound) s.running (omega arith))) in
    record {
      holds = leb-true need (available s (first_from p bound 0)) (passes-first_from p bound 0 last);
      least = λ u h. first_from-le p bound 0 u (omega arith) (le-leb need (available s u) h);
    }

split : (P : Placed → Type 0) (u : ℕ) (rs : List Placed) → All P rs → ((r : Placed) × (expected_end r ≡ u) × P r) ⊎ All (λ r. expected_end r ≡ u → ⊥) rs
split P u [] a = inr (All-nil (λ r. expected_end r ≡ u → ⊥))
split P u (r ∷ rs) a =
    ⊎_elim
    (λ (e : expected_end r ≡ u). inl (r, e, All-head P r rs a))
    (λ (ne : expected_end r ≡ u → ⊥).
    ⊎_elim (λ (found : (r : Placed) × (expected_end r ≡ u) × P r). inl found) (λ (others : All (λ r. expected_end r ≡ u → ⊥) rs). inr (All-cons (λ r. expected_end r ≡ u → ⊥) r rs ne others)) (split P u rs (All-tail P r rs a)))
    (cases_eq (expected_end r) u)

back-zero : (rs : List Placed) → All (λ r. expected_end r ≡ 0 → ⊥) rs → sum_by (back_by 0) rs ≡ 0
back-zero [] a = refl
back-zero (r ∷ rs) a =
    let ne : expected_end r ≡ 0 → ⊥ = All-head (λ r. expected_end r ≡ 0 → ⊥) r rs a in
    let one = cond-false (nat_le (expected_end r) 0) r.job.size 0 (lt-leb (expected_end r) 0 (omega (arith, ne))) in
    omega (arith, one, sum_by-cons (back_by 0) r rs, back-zero rs (All-tail (λ r. expected_end r ≡ 0 → ⊥) r rs a))

back-suc : (v : ℕ) (rs : List Placed) → All (λ r. expected_end r ≡ suc v → ⊥) rs → sum_by (back_by (suc v)) rs ≡ sum_by (back_by v) rs
back-suc v [] a = refl
back-suc v (r ∷ rs) a =
    let ne : expected_end r ≡ suc v → ⊥ = All-head (λ r. expected_end r ≡ suc v → ⊥) r rs a in
    let one : back_by (suc v) r ≡ back_by v r =
    ⊎_elim
    (λ (l : expected_end r < suc v). cond-true (nat_le (expected_end r) (suc v)) r.job.size 0 (le-leb (expected_end r) (suc v) (omega arith)) ∙ sym (cond-true (nat_le (expected_end r) v) r.job.size 0 (le-leb (expected_end r) v (omega arith))))
    (λ (l : suc v ≤ expected_end r). cond-false (nat_le (expected_end r) (suc v)) r.job.size 0 (lt-leb (expected_end r) (suc v) (omega (arith, ne))) ∙ sym (cond-false (nat_le (expected_end r) v) r.job.size 0 (lt-leb (expected_end r) v (omega arith))))
    (cases_lt (expected_end r) (suc v)) in
    omega (arith, one, sum_by-cons (back_by (suc v)) r rs, sum_by-cons (back_by v) r rs, back-suc v rs (All-tail (λ r. expected_end r ≡ suc v → ⊥) r rs a))

pub ends-suffice : (rs : List Placed) (now need best u : ℕ) → now < need → need ≤ now + sum_by (back_by u) rs
    → All (λ r. need ≤ now + sum_by (back_by (expected_end r)) rs → best ≤ expected_end r) rs → best ≤ u
ends-suffice rs now need best zero short enough all =
    ⊎_elim
    (λ (found : (r : Placed) × (expected_end r ≡ 0) × (need ≤ now + sum_by (back_by (expected_end r)) rs → best ≤ expected_end r)).
    subst (λ t. best ≤ t) found.1 (found.2 (subst (λ t. need ≤ now + sum_by (back_by t) rs) (sym found.1) enough)))
    (λ (none : All (λ r. expected_end r ≡ 0 → ⊥) rs). absurd (omega (arith, back-zero rs none)))
    (split (λ r. need ≤ now + sum_by (back_by (expected_end r)) rs → best ≤ expected_end r) 0 rs all)
ends-suffice rs now need best (suc v) short enough all =
    ⊎_elim
    (λ (found : (r : Placed) × (expected_end r ≡ suc v) × (need ≤ now + sum_by (back_by (expected_end r)) rs → best ≤ expected_end r)).
    subst (λ t. best ≤ t) found.1 (found.2 (subst (λ t. need ≤ now + sum_by (back_by t) rs) (sym found.1) enough)))
    (λ (none : All (λ r. expected_end r ≡ suc v → ⊥) rs).
    let below : best ≤ v = ends-suffice rs now need best v short (omega (arith, back-suc v rs none)) all in omega arith)
    (split (λ r. need ≤ now + sum_by (back_by (expected_end r)) rs → best ≤ expected_end r) (suc v) rs all)

-- the shadow time of a sound state is less than 2^64, if the machine has so many processors
pub shadow_time-small : (s : State) (need : ℕ) → IsSound s → need ≤ s.procs → shadow_time s need ≤ 18446744073709551615
shadow_time-small s need h within =
    let ends : All (λ r. expected_end r ≤ 18446744073709551615) s.running =
    (λ k d l. let a = h.started k d l in let b = h.running_limits k d l in omega (arith, a, b.within_limit)) in
    let all = back-each 18446744073709551615 s.running ends in
    (shadow_time-IsLeast s need h.fits within).least 18446744073709551615 (omega (arith, all, h.fits))

-- a second is no later than each expected end, of the jobs seen, at which enough is available; one that is no later than it, nor than such
-- an end of the next job, is so with this job seen too
pub seen-more : (s : State) (need time time' i : ℕ) (r : Placed) (rs : List Placed) → i < length rs → time' ≤ time → r ≡ get_or rs i r
    → All (λ r. need ≤ available s (expected_end r) → time ≤ expected_end r) (take i rs)
    → (need ≤ available s (expected_end r) → time' ≤ expected_end r)
    → All (λ r. need ≤ available s (expected_end r) → time' ≤ expected_end r) (take (i + 1) rs)
seen-more s need time time' i r rs l less is all here =
    let P : Placed → Type 0 = λ r. need ≤ available s (expected_end r) → time' ≤ expected_end r in
    All-more P rs i r l
    (All-weaker (λ r. need ≤ available s (expected_end r) → time ≤ expected_end r) P (λ r h e. let k = h e in omega arith) (take i rs) all)
    (subst P is here)

-- once all are seen, a second no earlier than the shadow time, nor later than any expected end at which enough is available, is this time
pub seen-all : (s : State) (need time i : ℕ) → IsSound s → free s < need → need ≤ s.procs → length s.running ≤ i → shadow_time s need ≤ time
    → All (λ r. need ≤ available s (expected_end r) → time ≤ expected_end r) (take i s.running)
    → time ≡ shadow_time s need
seen-all s need time i h wants within past low all =
    let least = shadow_time-IsLeast s need h.fits within in
    let every : All (λ r. need ≤ available s (expected_end r) → time ≤ expected_end r) s.running = rw take_all at all in
    let up = ends-suffice s.running (free s) need time (shadow_time s need) wants least.holds every in
    omega arith

-- no more is available than the machine has
pub available-le : (s : State) (t : ℕ) → IsSound s → available s t ≤ s.procs
available-le s t h = omega (arith, back-le-busy t s.running, h.fits)
