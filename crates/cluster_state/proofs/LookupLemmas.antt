-- Numbers looked up in a table one after another: the running jobs that they give, and a state into which the jobs of some last numbers are
-- still to come.
use Rattle.std.proofs.Common.{◌≡◌, ◌↔◌, ℕ, ◌+◌, ◌-◌, ◌^◌, ◌≤◌, ◌<◌, Bool, cond, nat_eq, List, [], ◌∷◌, ◌++◌, Option, Some, None, IsSome, All, count_by, refl, sym, ◌∙◌, ap, arith, subst}
use Rattle.std.specs.List.{filter_map, cons_option}
use Rattle.std.specs.Option.{option_map}
use Rattle.std.proofs.lemmas.List.Sums.{sum_by-cons, sum_by-append}
use Rattle.std.proofs.lemmas.List.Elements.{All-nil, All-cons, All-head, All-tail}
use Rattle.std.proofs.lemmas.Bool.{eq-eqb, eqb-true}
use Rattle.scenarios.specs.Job.{EffectiveJob, IsWithinLimits}
use Rattle.scenarios.specs.Plan.{Plan, job_numbered}
use Rattle.scenarios.specs.declared.placed.Placed.{Placed}
use Rattle.cluster_state.specs.declared.snapshot.RunningNumber.{RunningNumber}
use Rattle.cluster_state.specs.State.{State, IsSound, busy, holders}
use Rattle.cluster_state.specs.Snapshot.{Numbers, IsSnapshot, running_numbered, Fits}
use Rattle.cluster_state.proofs.StateLemmas.{test-find}

abbrev since : ℕ → Option EffectiveJob → Option Placed
since start o = option_map (λ job. record { job = job; start = start }) o

abbrev run_of : List EffectiveJob → List RunningNumber → List Placed
run_of jobs rs = filter_map (running_numbered jobs) rs

pub run-first : (jobs : List EffectiveJob) (r : RunningNumber) (rs : List RunningNumber) (o : Option EffectiveJob) → o ≡ job_numbered jobs r.number
    → run_of jobs (r ∷ rs) ≡ cons_option (since r.start o) (run_of jobs rs)
run-first jobs r rs o e = ap (λ p. cons_option (since r.start p) (run_of jobs rs)) (sym e)

busy-first : (jobs : List EffectiveJob) (r : RunningNumber) (rs : List RunningNumber) (job : EffectiveJob) → Some job ≡ job_numbered jobs r.number
    → busy (run_of jobs (r ∷ rs)) ≡ job.size + busy (run_of jobs rs)
busy-first jobs r rs job e =
    ap busy (run-first jobs r rs (Some job) e) ∙ sum_by-cons (λ (x : Placed). x.job.size) (record { job = job; start = r.start }) (run_of jobs rs)

abbrev pub HaveJobs : List EffectiveJob → List ℕ → Type 0
HaveJobs jobs ns = All (λ n. IsSome (job_numbered jobs n)) ns

-- each of these running numbers has a job, and together they need no more than so many processors
abbrev pub CanRun : List EffectiveJob → List RunningNumber → ℕ → Type 0
CanRun jobs rs left = All (λ r. IsSome (job_numbered jobs r.number)) rs × (busy (run_of jobs rs) ≤ left)

-- where all have jobs just where those that are left have, and the first of these has one, all have just where those behind it have
pub have-behind : (jobs : List EffectiveJob) (all left behind : List ℕ) (n : ℕ) (o : Option EffectiveJob) → left ≡ n ∷ behind → o ≡ job_numbered jobs n → IsSome o
    → HaveJobs jobs left ↔ HaveJobs jobs all → HaveJobs jobs behind ↔ HaveJobs jobs all
have-behind jobs all left behind n o is e some h =
    let P : ℕ → Type 0 = λ m. IsSome (job_numbered jobs m) in (
      λ a. h.0 (subst (λ l. HaveJobs jobs l) (sym is) (All-cons P n behind (subst (λ q. IsSome q) e some) a)),
      λ a. All-tail P n behind (subst (λ l. HaveJobs jobs l) is (h.1 a)),
    )

-- where all can run just where those left can, and the first one's job fits, all can just where those behind it can in the processors then left
pub can-run-behind : (jobs : List EffectiveJob) (all left behind : List RunningNumber) (capacity procs size : ℕ) (r : RunningNumber) (job : EffectiveJob) → left ≡ r ∷ behind → Some job ≡ job_numbered jobs r.number
    → size ≡ job.size → size ≤ capacity → CanRun jobs left capacity ↔ CanRun jobs all procs → CanRun jobs behind (capacity - size) ↔ CanRun jobs all procs
can-run-behind jobs all left behind capacity procs size r job is e same fits h =
    let P : RunningNumber → Type 0 = λ x. IsSome (job_numbered jobs x.number) in
    let sum = busy-first jobs r behind job e in (
      λ a. (let few = a.1 in h.0 (subst (λ l. CanRun jobs l capacity) (sym is) (All-cons P r behind (subst (λ q. IsSome q) e refl) a.0, omega (arith, sum, few, fits, same)))),
      λ a. (let first = subst (λ l. CanRun jobs l capacity) is (h.1 a) in let few = first.1 in (All-tail P r behind first.0, omega (arith, sum, few, fits, same))),
    )

-- what is looked up by a number has it
pub job-number : (jobs : List EffectiveJob) (n : ℕ) (job : EffectiveJob) → job_numbered jobs n ≡ Some job → job.number ≡ n
job-number jobs n job e = eqb-true job.number n (test-find (λ (j : EffectiveJob). nat_eq j.number n) jobs job e)

waiting-counts : (jobs : List EffectiveJob) (m : ℕ) (ns : List ℕ) → count_by (λ (j : EffectiveJob). nat_eq j.number m) (filter_map (job_numbered jobs) ns) ≤ count_by (λ n. nat_eq n m) ns
waiting-counts jobs m [] = omega arith
waiting-counts jobs m (n ∷ ns) = go (job_numbered jobs n) refl (waiting-counts jobs m ns)
  where
    go : (o : Option EffectiveJob) → job_numbered jobs n ≡ o → count_by (λ (j : EffectiveJob). nat_eq j.number m) (filter_map (job_numbered jobs) ns) ≤ count_by (λ n. nat_eq n m) ns
        → count_by (λ (j : EffectiveJob). nat_eq j.number m) (cons_option o (filter_map (job_numbered jobs) ns)) ≤ count_by (λ n. nat_eq n m) (n ∷ ns)
    go None e i = omega (arith, i, sum_by-cons (λ (n : ℕ). cond {A = ℕ} (nat_eq n m) 1 0) n ns)
    go (Some job) e i =
        let same = ap (λ k. cond {A = ℕ} (nat_eq k m) 1 0) (job-number jobs n job e) in
        omega (arith, i, same, sum_by-cons (λ (n : ℕ). cond {A = ℕ} (nat_eq n m) 1 0) n ns, sum_by-cons (λ (j : EffectiveJob). cond {A = ℕ} (nat_eq j.number m) 1 0) job (filter_map (job_numbered jobs) ns))

running-counts : (jobs : List EffectiveJob) (m : ℕ) (rs : List RunningNumber) → count_by (λ (r : Placed). nat_eq r.job.number m) (run_of jobs rs) ≤ count_by (λ (r : RunningNumber). nat_eq r.number m) rs
running-counts jobs m [] = omega arith
running-counts jobs m (r ∷ rs) = go (job_numbered jobs r.number) refl (running-counts jobs m rs)
  where
    go : (o : Option EffectiveJob) → job_numbered jobs r.number ≡ o → count_by (λ (r : Placed). nat_eq r.job.number m) (run_of jobs rs) ≤ count_by (λ (r : RunningNumber). nat_eq r.number m) rs
        → count_by (λ (r : Placed). nat_eq r.job.number m) (cons_option (since r.start o) (run_of jobs rs)) ≤ count_by (λ (r : RunningNumber). nat_eq r.number m) (r ∷ rs)
    go None e i = omega (arith, i, sum_by-cons (λ (r : RunningNumber). cond {A = ℕ} (nat_eq r.number m) 1 0) r rs)
    go (Some job) e i =
        let same = ap (λ k. cond {A = ℕ} (nat_eq k m) 1 0) (job-number jobs r.number job e) in
        omega (arith, i, same, sum_by-cons (λ (r : RunningNumber). cond {A = ℕ} (nat_eq r.number m) 1 0) r rs, sum_by-cons (λ (r : Placed). cond {A = ℕ} (nat_eq r.job.number m) 1 0) (record { job = job; start = r.start }) (run_of jobs rs))

-- the running jobs of a snapshot that fits a plan, where nobody waits, are a sound state, if they and the machine are within the limits
pub sound-running : (p : Numbers) (plan : Plan) (rs : List Placed) → IsSnapshot p → Fits p plan → plan.procs ≤ 16777216 → rs ≡ run_of plan.jobs p.running → All (λ r. IsWithinLimits r.job) rs
    → IsSound (record { procs = plan.procs; order = plan.order; waiting = []; running = rs })
sound-running p plan rs h fits small is limits = record {
  limited = small;
  fits = (let e = ap busy is in let s = fits.sizes in omega (arith, e, s));
  once = λ n. (let e = ap (λ xs. count_by (λ (r : Placed). nat_eq r.job.number n) xs) is in omega (arith, e, running-counts plan.jobs n p.running, h.once n));
  waiting_fit = All-nil (λ (j : EffectiveJob). j.size ≤ plan.procs);
  waiting_limits = All-nil IsWithinLimits;
  running_limits = limits;
  started = subst (λ xs. All (λ (r : Placed). r.start < 2 ^ 49) xs) (sym is) (starts p.running h.started);
}
  where
    starts : (xs : List RunningNumber) → All (λ (r : RunningNumber). r.start < 2 ^ 49) xs → All (λ (r : Placed). r.start < 2 ^ 49) (run_of plan.jobs xs)
    starts [] a = All-nil (λ (r : Placed). r.start < 2 ^ 49)
    starts (x ∷ xs) a = go (job_numbered plan.jobs x.number) (starts xs (All-tail (λ (r : RunningNumber). r.start < 2 ^ 49) x xs a))
      where
        go : (o : Option EffectiveJob) → All (λ (r : Placed). r.start < 2 ^ 49) (run_of plan.jobs xs) → All (λ (r : Placed). r.start < 2 ^ 49) (cons_option (since x.start o) (run_of plan.jobs xs))
        go None i = i
        go (Some job) i = All-cons (λ (r : Placed). r.start < 2 ^ 49) (record { job = job; start = x.start }) (run_of plan.jobs xs) (All-head (λ (r : RunningNumber). r.start < 2 ^ 49) x xs a) i

-- the jobs of some last numbers are still to come into a state
pub record IsRestoring (p : Numbers) (plan : Plan) (left : List ℕ) (s : State) : Type 0 where
  pub rest : s.waiting ++ filter_map (job_numbered plan.jobs) left ≡ filter_map (job_numbered plan.jobs) p.waiting
  pub others : s ≡ record { procs = plan.procs; order = plan.order; waiting = s.waiting; running = run_of plan.jobs p.running }

-- nobody in the state has the number of the next job that is still to come
pub absent-next : (p : Numbers) (plan : Plan) (n : ℕ) (left : List ℕ) (s : State) (job : EffectiveJob) → IsSnapshot p → IsRestoring p plan (n ∷ left) s → Some job ≡ job_numbered plan.jobs n
    → holders s job.number ≡ 0
absent-next p plan n left s job h so e =
    let m = job.number in
    let is : EffectiveJob → Bool = λ j. nat_eq j.number m in
    let one = ap (λ b. cond {A = ℕ} b 1 0) (eq-eqb m m refl) in
    let first = ap (λ o. s.waiting ++ cons_option o (filter_map (job_numbered plan.jobs) left)) e ∙ so.rest in
    let all = ap (count_by is) first in
    let parts = sum_by-append (λ (j : EffectiveJob). cond {A = ℕ} (is j) 1 0) s.waiting (job ∷ filter_map (job_numbered plan.jobs) left) in
    let next = sum_by-cons (λ (j : EffectiveJob). cond {A = ℕ} (is j) 1 0) job (filter_map (job_numbered plan.jobs) left) in
    let runs = ap (λ (z : State). count_by (λ (r : Placed). nat_eq r.job.number m) z.running) so.others in
    omega (arith, one, all, parts, next, runs, waiting-counts plan.jobs m p.waiting, running-counts plan.jobs m p.running, h.once m)

-- where the next number has no job, only the jobs of the numbers behind it are still to come
pub restoring-none : (p : Numbers) (plan : Plan) (n : ℕ) (left : List ℕ) (s : State) → IsRestoring p plan (n ∷ left) s → None ≡ job_numbered plan.jobs n → IsRestoring p plan left s
restoring-none p plan n left s so e = record {
  rest = ap (λ o. s.waiting ++ cons_option o (filter_map (job_numbered plan.jobs) left)) e ∙ so.rest;
  others = so.others;
}
