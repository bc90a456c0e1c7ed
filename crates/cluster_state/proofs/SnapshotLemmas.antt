-- What the numbers of a state tell of it: jobs looked up by their own numbers are found again, and plans that agree on these numbers give the same.
use Rattle.std.proofs.Common.{◌≡◌, ℕ, ◌^◌, ◌≤◌, ◌<◌, cond, nat_eq, List, [], ◌∷◌, Some, IsSome, All, map, count_by, refl, sym, ◌∙◌, ap, arith, subst}
use Rattle.std.specs.List.{filter_map}
use Rattle.std.proofs.lemmas.List.Sums.{sum_by-cons}
use Rattle.std.proofs.lemmas.List.Elements.{All-cons, All-head, All-tail, All-nil}
use Rattle.std.proofs.lemmas.Bool.{eq-eqb}
use Rattle.scenarios.specs.Job.{EffectiveJob}
use Rattle.scenarios.specs.Plan.{Plan, job_numbered}
use Rattle.scenarios.specs.declared.order.Order.{Order}
use Rattle.scenarios.specs.declared.placed.Placed.{Placed}
use Rattle.cluster_state.specs.declared.snapshot.RunningNumber.{RunningNumber}
use Rattle.cluster_state.specs.State.{State, IsSound, busy, holders}
use Rattle.cluster_state.specs.Snapshot.{Numbers, IsSnapshot, NumbersRise, number_of, numbers_of, standing, running_numbered, restored, IsOfPlan}
use Rattle.cluster_state.specs.Laws.{NumbersGiveTheStateBack, EqualNumbersAreEqualStates}

pub counts-waiting : (n : ℕ) (js : List EffectiveJob) → count_by (λ m. nat_eq m n) (map (λ (j : EffectiveJob). j.number) js) ≡ count_by (λ (j : EffectiveJob). nat_eq j.number n) js
counts-waiting n [] = refl
counts-waiting n (j ∷ js) =
    omega (arith, counts-waiting n js, sum_by-cons (λ (j : EffectiveJob). cond {A = ℕ} (nat_eq j.number n) 1 0) j js, sum_by-cons (λ (m : ℕ). cond {A = ℕ} (nat_eq m n) 1 0) j.number (map (λ (j : EffectiveJob). j.number) js))

-- a number stands among those of running jobs as often as a job has it
pub counts-running : (n : ℕ) (rs : List Placed) → count_by (λ (r : RunningNumber). nat_eq r.number n) (map number_of rs) ≡ count_by (λ (r : Placed). nat_eq r.job.number n) rs
counts-running n [] = refl
counts-running n (r ∷ rs) =
    omega (arith, counts-running n rs, sum_by-cons (λ (r : Placed). cond {A = ℕ} (nat_eq r.job.number n) 1 0) r rs, sum_by-cons (λ (r : RunningNumber). cond {A = ℕ} (nat_eq r.number n) 1 0) (number_of r) (map number_of rs))

-- a number stands among those of a state as often as a job of the state has it
pub standing-numbers : (s : State) (n : ℕ) → standing (numbers_of s) n ≡ holders s n
standing-numbers s n = omega (arith, counts-waiting n s.waiting, counts-running n s.running)

-- the numbers of a sound state are those of a snapshot, where the numbers of its running jobs do not fall
pub sound-numbers : (s : State) → IsSound s → NumbersRise (map number_of s.running) → IsSnapshot (numbers_of s)
sound-numbers s h up = record { rising = up; once = λ n. omega (arith, standing-numbers s n, h.once n); started = starts s.running h.started }
  where
    starts : (rs : List Placed) → All (λ r. r.start < 2 ^ 49) rs → All (λ (r : RunningNumber). r.start < 2 ^ 49) (map number_of rs)
    starts [] a = All-nil (λ (r : RunningNumber). r.start < 2 ^ 49)
    starts (r ∷ rs) a = All-cons (λ (r : RunningNumber). r.start < 2 ^ 49) (number_of r) (map number_of rs) (All-head (λ r. r.start < 2 ^ 49) r rs a) (starts rs (All-tail (λ r. r.start < 2 ^ 49) r rs a))

look-waiting : (jobs js : List EffectiveJob) → All (λ j. job_numbered jobs j.number ≡ Some j) js
    → (filter_map (job_numbered jobs) (map (λ (j : EffectiveJob). j.number) js) ≡ js) × All (λ n. IsSome (job_numbered jobs n)) (map (λ (j : EffectiveJob). j.number) js)
look-waiting jobs [] a = (refl, All-nil (λ n. IsSome (job_numbered jobs n)))
look-waiting jobs (j ∷ js) a =
    let here = All-head (λ j. job_numbered jobs j.number ≡ Some j) j js a in
    let rest = look-waiting jobs js (All-tail (λ j. job_numbered jobs j.number ≡ Some j) j js a) in
    (rw (here, rest.0) refl, All-cons (λ n. IsSome (job_numbered jobs n)) j.number (map (λ (j : EffectiveJob). j.number) js) (rw here refl) rest.1)

look-running : (jobs : List EffectiveJob) (rs : List Placed) → All (λ r. job_numbered jobs r.job.number ≡ Some r.job) rs
    → (filter_map (running_numbered jobs) (map number_of rs) ≡ rs) × All (λ r. IsSome (job_numbered jobs r.number)) (map number_of rs)
look-running jobs [] a = (refl, All-nil (λ (r : RunningNumber). IsSome (job_numbered jobs r.number)))
look-running jobs (r ∷ rs) a =
    let here = All-head (λ r. job_numbered jobs r.job.number ≡ Some r.job) r rs a in
    let rest = look-running jobs rs (All-tail (λ r. job_numbered jobs r.job.number ≡ Some r.job) r rs a) in
    (rw (here, rest.0) refl, All-cons (λ (r : RunningNumber). IsSome (job_numbered jobs r.number)) (number_of r) (map number_of rs) (rw here refl) rest.1)

abbrev made : ℕ → Order → List EffectiveJob → List Placed → State
made m o js rs = record { procs = m; order = o; waiting = js; running = rs }

same-state : (m m' : ℕ) (o o' : Order) (js js' : List EffectiveJob) (rs rs' : List Placed) → m ≡ m' → o ≡ o' → js ≡ js' → rs ≡ rs' → made m o js rs ≡ made m' o' js' rs'
same-state m m' o o' js js' rs rs' a b c d = rw (a, b, c, d) refl

pub gives-back : (s : State) (plan : Plan) → IsOfPlan s plan → restored (numbers_of s) plan ≡ s
gives-back s plan h =
    same-state plan.procs s.procs plan.order s.order _ s.waiting _ s.running (sym h.procs) (sym h.order) (look-waiting plan.jobs s.waiting h.waiting).0 (look-running plan.jobs s.running h.running).0

-- a state of the plan's jobs that is within its machine fits the plan by its numbers, and these give it back
pub numbers-give-the-state-back : NumbersGiveTheStateBack
numbers-give-the-state-back s plan h fits =
    let running = look-running plan.jobs s.running h.running in (
      record {
        waiting = (look-waiting plan.jobs s.waiting h.waiting).1;
        running = running.1;
        sizes = subst (λ rs. busy rs ≤ plan.procs) (sym running.0) (subst (λ m. busy s.running ≤ m) h.procs fits);
      },
      gives-back s plan h,
    )

agree-waiting : (js ks : List EffectiveJob) (ns : List ℕ) → ((n : ℕ) → 1 ≤ count_by (λ m. nat_eq m n) ns → job_numbered js n ≡ job_numbered ks n)
    → filter_map (job_numbered js) ns ≡ filter_map (job_numbered ks) ns
agree-waiting js ks [] h = refl
agree-waiting js ks (n ∷ ns) h =
    let one = eq-eqb n n refl in
    let here : job_numbered js n ≡ job_numbered ks n = h n (let k = sum_by-cons (λ (m : ℕ). cond {A = ℕ} (nat_eq m n) 1 0) n ns in let e = ap (λ b. cond {A = ℕ} b 1 0) one in omega (arith, k, e)) in
    let rest = agree-waiting js ks ns (λ m l. h m (let k = sum_by-cons (λ (x : ℕ). cond {A = ℕ} (nat_eq x m) 1 0) n ns in omega (arith, k, l))) in
    rw (here, rest) refl

agree-running : (js ks : List EffectiveJob) (rs : List RunningNumber) → ((n : ℕ) → 1 ≤ count_by (λ (r : RunningNumber). nat_eq r.number n) rs → job_numbered js n ≡ job_numbered ks n)
    → filter_map (running_numbered js) rs ≡ filter_map (running_numbered ks) rs
agree-running js ks [] h = refl
agree-running js ks (r ∷ rs) h =
    let one = eq-eqb r.number r.number refl in
    let here : job_numbered js r.number ≡ job_numbered ks r.number = h r.number (let k = sum_by-cons (λ (x : RunningNumber). cond {A = ℕ} (nat_eq x.number r.number) 1 0) r rs in let e = ap (λ b. cond {A = ℕ} b 1 0) one in omega (arith, k, e)) in
    let rest = agree-running js ks rs (λ m l. h m (let k = sum_by-cons (λ (x : RunningNumber). cond {A = ℕ} (nat_eq x.number m) 1 0) r rs in omega (arith, k, l))) in
    rw (here, rest) refl

-- two states of one machine and order, with the same numbers, are the same where these numbers have the same jobs in both plans
pub equal-numbers-are-equal-states : EqualNumbersAreEqualStates
equal-numbers-are-equal-states s t p q hs ht procs order same agree =
    let ns = numbers_of s in
    sym (gives-back s p hs)
    ∙ same-state p.procs q.procs p.order q.order _ _ _ _ procs order
    (agree-waiting p.jobs q.jobs ns.waiting (λ n l. agree n (omega (arith, l))))
    (agree-running p.jobs q.jobs ns.running (λ n l. agree n (omega (arith, l))))
    ∙ ap (λ (x : Numbers). restored x q) same ∙ gives-back t q ht
