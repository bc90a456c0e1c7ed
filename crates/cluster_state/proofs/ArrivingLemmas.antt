-- A job that arrives and starts at once: where nobody has its number, it is found by it behind the others who wait, and once it has started
-- the same jobs wait as before it came.
use Rattle.std.proofs.Common.{◌≡◌, ℕ, ◌+◌, ◌^◌, ◌≤◌, ◌<◌, true, false, cond, nat_eq, count_by, find, List, [], ◌∷◌, ◌++◌, Some, ◌∙◌, ap, arith, subst, refl, ⊎_elim}
use Rattle.std.proofs.lemmas.Bool.{cond-true, cond-false, cases_Bool, eq-eqb}
use Rattle.std.proofs.lemmas.List.Sums.{sum_by-cons}
use Rattle.scenarios.specs.Job.{EffectiveJob, IsWithinLimits}
use Rattle.scenarios.specs.declared.placed.Placed.{Placed}
use Rattle.cluster_state.specs.State.{State, IsSound, arrived, busy, free, holders, placed, started, without}
use Rattle.cluster_state.proofs.StateLemmas.{sound-arrived, sound-started, sum_by-placed}

-- without a last job whose number no other has, those before it are left
pub without-last : (job : EffectiveJob) (js : List EffectiveJob) → count_by (λ (j : EffectiveJob). nat_eq j.number job.number) js ≡ 0 → without job.number (js ++ job ∷ []) ≡ js
without-last job [] e = cond-true (nat_eq job.number job.number) [] (job ∷ []) (eq-eqb job.number job.number refl)
without-last job (x ∷ xs) e =
    let k = sum_by-cons (λ (j : EffectiveJob). cond {A = ℕ} (nat_eq j.number job.number) 1 0) x xs in
    ⊎_elim
    (λ (y : nat_eq x.number job.number ≡ true). let two = cond-true {A = ℕ} (nat_eq x.number job.number) 1 0 y in absurd (omega (arith, e, k, two)))
    (λ (n : nat_eq x.number job.number ≡ false).
    cond-false (nat_eq x.number job.number) (xs ++ job ∷ []) (x ∷ without job.number (xs ++ job ∷ [])) n ∙ ap (λ l. x ∷ l) (without-last job xs (omega (arith, e, k))))
    (cases_Bool (nat_eq x.number job.number))

find-last : (job : EffectiveJob) (js : List EffectiveJob) → count_by (λ (j : EffectiveJob). nat_eq j.number job.number) js ≡ 0 → find (λ (j : EffectiveJob). nat_eq j.number job.number) (js ++ job ∷ []) ≡ Some job
find-last job [] e = cond-true (nat_eq job.number job.number) (Some job) (find (λ (j : EffectiveJob). nat_eq j.number job.number) []) (eq-eqb job.number job.number refl)
find-last job (x ∷ xs) e =
    let p = λ (j : EffectiveJob). nat_eq j.number job.number in
    let k = sum_by-cons (λ (j : EffectiveJob). cond {A = ℕ} (nat_eq j.number job.number) 1 0) x xs in
    ⊎_elim
    (λ (y : nat_eq x.number job.number ≡ true). let two = cond-true {A = ℕ} (nat_eq x.number job.number) 1 0 y in absurd (omega (arith, e, k, two)))
    (λ (n : nat_eq x.number job.number ≡ false). cond-false (nat_eq x.number job.number) (Some x) (find p (xs ++ job ∷ [])) n ∙ find-last job xs (omega (arith, e, k)))
    (cases_Bool (nat_eq x.number job.number))

abbrev pub running_too : State → EffectiveJob → ℕ → State
running_too s job now = record { procs = s.procs; order = s.order; waiting = s.waiting; running = placed (record { job = job; start = now }) s.running }

pub record RunsAtOnce (s : State) (job : EffectiveJob) (now : ℕ) : Type 0 where
  pub absent : count_by (λ (x : Placed). nat_eq x.job.number job.number) s.running ≡ 0
  pub held : busy (placed (record { job = job; start = now }) s.running) ≡ job.size + busy s.running
  pub state : started (arrived s job) job now ≡ running_too s job now
  pub sound : IsSound (running_too s job now)

-- a job whose number nobody has, and that fits into what is free, arrives and starts: the same jobs wait, it runs too, and the state stays sound
pub runs-at-once : (s : State) (job : EffectiveJob) (now : ℕ) → IsSound s → holders s job.number ≡ 0 → job.size ≤ free s → IsWithinLimits job → now < 2 ^ 49 → RunsAtOnce s job now
runs-at-once s job now h none fits limits early =
    let nobody : count_by (λ (j : EffectiveJob). nat_eq j.number job.number) s.waiting ≡ 0 = omega (arith, none) in
    let same : started (arrived s job) job now ≡ running_too s job now =
    ap (λ (js : List EffectiveJob). let z : State = record { procs = s.procs; order = s.order; waiting = js; running = placed (record { job = job; start = now }) s.running } in z) (without-last job s.waiting nobody) in
    let within : job.size ≤ s.procs = omega (arith, fits) in
    record {
      absent = omega (arith, none);
      held = sum_by-placed (λ (r : Placed). r.job.size) (record { job = job; start = now }) s.running;
      state = same;
      sound = subst IsSound same (sound-started (arrived s job) job now (sound-arrived s job h none within limits) (find-last job s.waiting nobody) fits early);
    }
