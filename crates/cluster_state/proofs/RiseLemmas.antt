-- Running jobs and their numbers, in the order of the numbers: they stay so as jobs start and leave, and jobs looked up by such numbers are so.
use Rattle.std.proofs.Common.{◌≡◌, ℕ, ◌≤◌, Bool, true, false, nat_lt, List, [], ◌∷◌, All, Option, Some, None, map, filter, refl, sym, arith, subst, ⊎_elim}
use Rattle.std.specs.List.{filter_map, cons_option}
use Rattle.std.specs.Option.{option_map}
use Rattle.std.proofs.lemmas.List.Elements.{All-nil, All-cons, All-head, All-tail, All-weaker, All-filter}
use Rattle.std.proofs.lemmas.Bool.{cond_both, cond-true, cond-false, cases_Bool, ltb-true, ltb-false}
use Rattle.scenarios.specs.Job.{EffectiveJob}
use Rattle.scenarios.specs.Plan.{job_numbered}
use Rattle.scenarios.specs.declared.placed.Placed.{Placed}
use Rattle.cluster_state.specs.declared.snapshot.RunningNumber.{RunningNumber}
use Rattle.cluster_state.specs.State.{placed, RisesByNumber}
use Rattle.cluster_state.specs.Snapshot.{number_of, running_numbered, NumbersRise}
use Rattle.cluster_state.proofs.StateLemmas.{All-placed}
use Rattle.cluster_state.proofs.LookupLemmas.{job-number}

abbrev From : ℕ → Placed → Type 0
From n x = n ≤ x.job.number

-- jobs whose numbers do not fall stay so with one more placed among them
pub rises-placed : (r : Placed) (rs : List Placed) → RisesByNumber rs → RisesByNumber (placed r rs)
rises-placed r [] h = (All-nil (From r.job.number), tt)
rises-placed r (x ∷ xs) h =
    ⊎_elim
    (λ (less : nat_lt r.job.number x.job.number ≡ true).
    let l = ltb-true r.job.number x.job.number less in
    subst RisesByNumber (sym (cond-true (nat_lt r.job.number x.job.number) (r ∷ x ∷ xs) (x ∷ placed r xs) less))
    (All-cons (From r.job.number) x xs (omega (arith, l)) (All-weaker (From x.job.number) (From r.job.number) (λ y m. omega (arith, l, m)) xs h.0), h))
    (λ (more : nat_lt r.job.number x.job.number ≡ false).
    let l = ltb-false r.job.number x.job.number more in
    subst RisesByNumber (sym (cond-false (nat_lt r.job.number x.job.number) (r ∷ x ∷ xs) (x ∷ placed r xs) more))
    (All-placed (From x.job.number) r xs (omega (arith, l)) h.0, rises-placed r xs h.1))
    (cases_Bool (nat_lt r.job.number x.job.number))

-- of jobs whose numbers do not fall, those that pass a test are so too
pub rises-filter : (keeps : Placed → Bool) (rs : List Placed) → RisesByNumber rs → RisesByNumber (filter keeps rs)
rises-filter keeps [] h = tt
rises-filter keeps (r ∷ rs) h =
    cond_both (keeps r) (r ∷ filter keeps rs) (filter keeps rs) RisesByNumber
    (λ _. (All-filter keeps (From r.job.number) rs h.0, rises-filter keeps rs h.1))
    (λ _. rises-filter keeps rs h.1)

-- the numbers of such jobs, apart from the jobs, do not fall
pub numbers-rise : (rs : List Placed) → RisesByNumber rs → NumbersRise (map number_of rs)
numbers-rise [] h = tt
numbers-rise (r ∷ rs) h = (each rs h.0, numbers-rise rs h.1)
  where
    each : (xs : List Placed) → All (From r.job.number) xs → All (λ (x : RunningNumber). r.job.number ≤ x.number) (map number_of xs)
    each [] a = All-nil (λ (x : RunningNumber). r.job.number ≤ x.number)
    each (x ∷ xs) a =
        All-cons (λ (x : RunningNumber). r.job.number ≤ x.number) (number_of x) (map number_of xs) (All-head (From r.job.number) x xs a) (each xs (All-tail (From r.job.number) x xs a))

module _ (jobs : List EffectiveJob) where
  one-more : (n : ℕ) (r : RunningNumber) (o : Option EffectiveJob) (rs : List Placed) → job_numbered jobs r.number ≡ o → n ≤ r.number → All (From n) rs
      → All (From n) (cons_option (option_map (λ (job : EffectiveJob). let p : Placed = record { job = job; start = r.start } in p) o) rs)
  one-more n r None rs e l a = a
  one-more n r (Some job) rs e l a = (let same = job-number jobs r.number job e in All-cons (From n) (record { job = job; start = r.start }) rs (omega (arith, same, l)) a)

  all-from : (n : ℕ) (ns : List RunningNumber) → All (λ (r : RunningNumber). n ≤ r.number) ns → All (From n) (filter_map (running_numbered jobs) ns)
  all-from n [] a = All-nil (From n)
  all-from n (r ∷ ns) a =
      one-more n r (job_numbered jobs r.number) (filter_map (running_numbered jobs) ns) refl (All-head (λ (r : RunningNumber). n ≤ r.number) r ns a) (all-from n ns (All-tail (λ (r : RunningNumber). n ≤ r.number) r ns a))

  rises-more : (r : RunningNumber) (o : Option EffectiveJob) (rs : List Placed) → job_numbered jobs r.number ≡ o → All (From r.number) rs → RisesByNumber rs
      → RisesByNumber (cons_option (option_map (λ (job : EffectiveJob). let p : Placed = record { job = job; start = r.start } in p) o) rs)
  rises-more r None rs e a h = h
  rises-more r (Some job) rs e a h = (let same = job-number jobs r.number job e in (All-weaker (From r.number) (From job.number) (λ y m. omega (arith, same, m)) rs a, h))

  -- where running numbers do not fall, the numbers of the jobs that they stand for do not
  pub jobs-rise : (ns : List RunningNumber) → NumbersRise ns → RisesByNumber (filter_map (running_numbered jobs) ns)
  jobs-rise [] h = tt
  jobs-rise (r ∷ ns) h = rises-more r (job_numbered jobs r.number) (filter_map (running_numbered jobs) ns) refl (all-from r.number ns h.0) (jobs-rise ns h.1)
