-- A log's jobs, sorted, are those of the log.
use Rattle.std.proofs.Common.{◌≡◌, ℕ, ◌+◌, ◌≤◌, List, [], ◌∷◌, nat_eq, subst, length, get_or, All, count_by, ap, sym, ◌∙◌, arith}
use Rattle.std.specs.Ordering.{nat_cmp, ordering_then}
use Rattle.std.specs.List.Sorted.{IsPermutation, IsSortedByKey}
use Rattle.std.proofs.lemmas.List.Sorted.{All-permutation, length_permutation}
use Rattle.swf_text.specs.Entry.{LogEntry}
use Rattle.swf_text.specs.Log.{IsLog, log_of}
use Rattle.scenarios.specs.Job.{EffectiveJob, IsWithinLimits}
use Rattle.scenarios.specs.Scenario.{ScenarioView, IsScenario}
use Rattle.scenarios.specs.Plan.{Plan, jobs_of}
use Rattle.scenarios.specs.SoundPlan.{IsPlan, IsRising}
use Rattle.job_table.proofs.Lemmas.{lt-comes, Rises, Climbs, Climbs-adjacent, Rises-Climbs, numbered-permutation, arrangement-unique}
use Rattle.oracle_runs.proofs.Collected.{IsCollected, log-permutes, Climbs-log-jobs, jobs_of-fit, length-jobs_of}

abbrev at : EffectiveJob → ℕ
at job = job.submit

abbrev num : EffectiveJob → ℕ
num job = job.number

-- a job's submit second and number
abbrev pub key : EffectiveJob → ℕ × ℕ
key job = (job.submit, job.number)

pub Climbs-sorted : (jobs : List EffectiveJob) → IsSortedByKey key (λ x y. ordering_then (nat_cmp x.0 y.0) (nat_cmp x.1 y.1)) jobs → Climbs at num jobs
Climbs-sorted jobs h = Climbs-adjacent at num jobs (λ k d l. sym (lt-comes (get_or jobs (k + 1) d).submit (get_or jobs (k + 1) d).number (get_or jobs k d).submit (get_or jobs k d).number) ∙ h k d (omega arith) l)

pub IsRising-Rises : (jobs : List EffectiveJob) → Rises at num jobs → IsRising jobs
IsRising-Rises [] r = tt
IsRising-Rises (job ∷ []) r = tt
IsRising-Rises (job ∷ next ∷ jobs) r = (r.0.0, IsRising-Rises (next ∷ jobs) r.1)

once : (es : List LogEntry) (s : ScenarioView) (jobs : List EffectiveJob) → IsLog es → IsCollected es s jobs → (n : ℕ) → count_by (λ j. nat_eq j.number n) jobs ≤ 1
once es s jobs l c n = omega (arith, l.distinct n, c.numbered n)

pub rises : (es : List LogEntry) (s : ScenarioView) (jobs sorted : List EffectiveJob) → IsLog es → IsCollected es s jobs → IsPermutation jobs sorted
    → IsSortedByKey key (λ x y. ordering_then (nat_cmp x.0 y.0) (nat_cmp x.1 y.1)) sorted → Rises at num sorted
rises es s jobs sorted l c p up = Rises-Climbs at num sorted (λ n. omega (arith, once es s jobs l c n, numbered-permutation num jobs sorted p n)) (Climbs-sorted sorted up)

-- what is collected of a log's entries, sorted by submit second and number, are the jobs of the log
pub sorted-is : (es : List LogEntry) (s : ScenarioView) (jobs sorted : List EffectiveJob) → IsLog es → IsCollected es s jobs → IsPermutation jobs sorted
    → IsSortedByKey key (λ x y. ordering_then (nat_cmp x.0 y.0) (nat_cmp x.1 y.1)) sorted → sorted ≡ jobs_of (log_of es) s
sorted-is es s jobs sorted l c p up =
    let q : IsPermutation jobs (jobs_of (log_of es) s) = subst (λ js. IsPermutation js (jobs_of (log_of es) s)) (sym c.are) (log-permutes s es) in
    arrangement-unique at num jobs sorted (jobs_of (log_of es) s) p q (rises es s jobs sorted l c p up)
    (Rises-Climbs at num (jobs_of (log_of es) s) (λ n. omega (arith, once es s jobs l c n, numbered-permutation num jobs (jobs_of (log_of es) s) q n)) (Climbs-log-jobs s es))

-- a plan with the scenario's processors and what is collected of a log's entries, sorted so, is sound
pub plan-sound : (es : List LogEntry) (s : ScenarioView) (jobs : List EffectiveJob) (plan : Plan) → IsLog es → IsScenario s → IsCollected es s jobs → plan.procs ≡ s.procs → IsPermutation jobs plan.jobs
    → IsSortedByKey key (λ x y. ordering_then (nat_cmp x.0 y.0) (nat_cmp x.1 y.1)) plan.jobs → IsPlan plan
plan-sound es s jobs plan l within c e p up = record {
  limited = omega (arith, e, within.procs_fit);
  sizes = All-permutation (λ (j : EffectiveJob). j.size ≤ plan.procs) jobs plan.jobs p (subst (λ js. All (λ (j : EffectiveJob). j.size ≤ plan.procs) js) (sym c.are) (subst (λ m. All (λ (j : EffectiveJob). j.size ≤ m) (jobs_of es s)) (sym e) (jobs_of-fit s es)));
  limits = All-permutation IsWithinLimits jobs plan.jobs p c.limits;
  few = (let a = length-jobs_of s es in let b = ap length c.are in let d = l.capacity in let f = length_permutation jobs plan.jobs p in omega (arith, a, b, d, f));
  once = λ n. omega (arith, once es s jobs l c n, numbered-permutation num jobs plan.jobs p n);
  rising = IsRising-Rises plan.jobs (rises es s jobs plan.jobs l c p up);
}
