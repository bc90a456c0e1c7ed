-- The jobs of a log, and those of its entries in another order: they are the same, and in the log none comes before an earlier one.
use Rattle.std.proofs.Common.{◌≡◌, ℕ, suc, subst, append-nil, ◌+◌, ◌*◌, ◌/◌, ◌%◌, ◌≤◌, ◌<◌, List, [], ◌∷◌, ◌++◌, Bool, true, false, nat_lt, nat_eq, cond, length, take, get_or, All, Option, Some, None, Ok, Err, IfSome, count_by, pos, refl, ap, sym, ◌∙◌, arith, ◌||◌}
use Rattle.std.specs.List.{cons_option}
use Rattle.std.specs.Option.{option_to_list}
use Rattle.std.specs.Result.{result_ok}
use Rattle.std.specs.List.Sorted.{IsPermutation}
use Rattle.std.proofs.lemmas.List.Sorted.{IsPermutation-refl, IsPermutation-cons, IsPermutation-trans, IsPermutation-append_left, IsPermutation-append_comm}
use Rattle.std.proofs.lemmas.List.Sums.{sum_by_push}
use Rattle.std.proofs.lemmas.List.Elements.{All-push, All-nil, All-cons, filter_map-append}
use Rattle.std.proofs.lemmas.Bool.{eq-eqb, eqb-true, ltb-false}
use Rattle.std.proofs.lemmas.List.{take_more}
use Rattle.swf_text.specs.Entry.{LogEntry, HasNumber, has_number, whole_number, number_of_entry, submit_of, field}
use Rattle.swf_text.specs.Log.{comes_before, with_entry, log_of}
use Rattle.scenarios.specs.Job.{EffectiveJob, IsWithinLimits}
use Rattle.scenarios.specs.Scenario.{ScenarioView}
use Rattle.scenarios.specs.declared.skip.Skip.{Skip}
use Rattle.scenarios.specs.declared.skip.Skip.TheVariants.{TooLarge, TooLong}
use Rattle.scenarios.specs.Effective.{effective, of_size, of_size_and_run, unless_too_long, job_of, size_of, run_of, estimate_of, base_of}
use Rattle.scenarios.specs.Plan.{jobs_of}
use Rattle.job_table.proofs.Lemmas.{Opens, Climbs, Climbs-log}

abbrev at : EffectiveJob → ℕ
at job = job.submit

abbrev num : EffectiveJob → ℕ
num job = job.number

-- the jobs of these entries under a scenario: they are within the limits, and no number comes more often than among the entries
pub record IsCollected (es : List LogEntry) (s : ScenarioView) (jobs : List EffectiveJob) : Type 0 where
  pub are : jobs ≡ jobs_of es s
  pub limits : All IsWithinLimits jobs
  pub numbered : (n : ℕ) → count_by (λ j. nat_eq j.number n) jobs ≤ count_by (has_number n) es

-- of no entries no jobs are collected
pub collected-none : (s : ScenarioView) → IsCollected [] s []
collected-none s = record { are = refl; limits = All-nil IsWithinLimits; numbered = λ n. omega arith }

counts : (n : ℕ) (e : LogEntry) (job : EffectiveJob) → HasNumber e.main job.number → cond {A = ℕ} (nat_eq job.number n) 1 0 ≤ cond {A = ℕ} (has_number n e) 1 0
counts n e job h =
    let w : whole_number (field e.main 1) ≡ Some job.number = ap whole_number h ∙ whole job.number in
    rw w (one (nat_eq job.number n) refl)
  where
    whole : (m : ℕ) → whole_number (pos (1000000 * m)) ≡ Some m
    whole m =
        let a : (1000000 * m) % 1000000 ≡ 0 = omega arith in
        let b : (1000000 * m) / 1000000 ≡ m = omega arith in
        rw (a, b) refl

    one : (b : Bool) → nat_eq job.number n ≡ b → cond {A = ℕ} (nat_eq job.number n) 1 0 ≤ cond {A = ℕ} (nat_eq n job.number) 1 0
    one true e = rw (e, eq-eqb n job.number (sym (eqb-true job.number n e))) (omega arith)
    one false e = rw e (omega arith)

-- with the job of one more entry behind them, if it has one, the jobs of one more entry are collected
pub collected-more : (es : List LogEntry) (s : ScenarioView) (jobs : List EffectiveJob) (i : ℕ) (e : LogEntry) (o : Option EffectiveJob) → i < length es → e ≡ get_or es i e
    → o ≡ result_ok (effective e s) → IfSome o IsWithinLimits → IfSome o (λ job. HasNumber e.main job.number)
    → IsCollected (take i es) s jobs → IsCollected (take (i + 1) es) s (jobs ++ option_to_list o)
collected-more es s jobs i e o l at is limits numbered c =
    let more : take (i + 1) es ≡ take i es ++ e ∷ [] = take_more es i e l ∙ ap (λ x. take i es ++ x ∷ []) (sym at) in
    rw more (go o is limits numbered)
  where
    go : (o : Option EffectiveJob) → o ≡ result_ok (effective e s) → IfSome o IsWithinLimits → IfSome o (λ job. HasNumber e.main job.number) → IsCollected (take i es ++ e ∷ []) s (jobs ++ option_to_list o)
    go None is k m = record {
      are = append-nil jobs ∙ c.are ∙ sym (append-nil (jobs_of (take i es) s)) ∙ sym (filter_map-append (λ x. result_ok (effective x s)) (take i es) (e ∷ []) ∙ ap (λ p. jobs_of (take i es) s ++ cons_option p []) (sym is));
      limits = rw append-nil c.limits;
      numbered = λ n. rw append-nil (omega (arith, c.numbered n, sum_by_push (λ x. cond {A = ℕ} (has_number n x) 1 0) (take i es) e));
    }
    go (Some job) is k m = record {
      are = ap (λ js. js ++ job ∷ []) c.are ∙ sym (filter_map-append (λ x. result_ok (effective x s)) (take i es) (e ∷ []) ∙ ap (λ p. jobs_of (take i es) s ++ cons_option p []) (sym is));
      limits = All-push IsWithinLimits jobs job c.limits k;
      numbered = λ n. omega (arith, c.numbered n, counts n e job m, sum_by_push (λ x. cond {A = ℕ} (has_number n x) 1 0) (take i es) e, sum_by_push (λ (j : EffectiveJob). cond {A = ℕ} (nat_eq j.number n) 1 0) jobs job);
    }

record Takes (e : LogEntry) (s : ScenarioView) (job : EffectiveJob) : Type 0 where
  submit : job.submit ≡ submit_of e
  number : job.number ≡ number_of_entry e
  fits : job.size ≤ s.procs

takes : (e : LogEntry) (s : ScenarioView) (job : EffectiveJob) → result_ok (effective e s) ≡ Some job → Takes e s job
takes e s job h = by_size (size_of e.main) h
  where
    by_long : (b : Bool) (made : EffectiveJob) → made.submit ≡ submit_of e → made.number ≡ number_of_entry e → made.size ≤ s.procs
        → result_ok {T = EffectiveJob} {E = Skip} (cond b (Err TooLong) (Ok made)) ≡ Some job → Takes e s job
    by_long true made x y z h = cc
    by_long false made x y z h =
        let same : made ≡ job = cc in
        subst (Takes e s) same (record { submit = x; number = y; fits = z })

    by_large : (size run : ℕ) (b : Bool) → nat_lt s.procs size ≡ b → result_ok {T = EffectiveJob} {E = Skip} (cond b (Err TooLarge) (unless_too_long (job_of e size run (estimate_of (base_of e.main run) s.factor)))) ≡ Some job → Takes e s job
    by_large size run true l h = cc
    by_large size run false l h =
        let made = job_of e size run (estimate_of (base_of e.main run) s.factor) in
        by_long (nat_lt 100000000 made.estimate || nat_lt 100000000 made.length) made refl refl (ltb-false s.procs size l) h

    by_run : (size : ℕ) (o : Option ℕ) → result_ok (of_size_and_run e s size o) ≡ Some job → Takes e s job
    by_run size None h = cc
    by_run size (Some run) h = by_large size run (nat_lt s.procs size) refl h

    by_size : (o : Option ℕ) → result_ok (of_size e s o) ≡ Some job → Takes e s job
    by_size None h = cc
    by_size (Some size) h = by_run size (run_of e.main) h

with-option : (o : Option EffectiveJob) (xs ys : List EffectiveJob) → IsPermutation xs ys → IsPermutation (cons_option o xs) (cons_option o ys)
with-option None xs ys p = p
with-option (Some job) xs ys p = IsPermutation-cons job xs ys p

two-options : (o p : Option EffectiveJob) (xs : List EffectiveJob) → IsPermutation (cons_option o (cons_option p xs)) (cons_option p (cons_option o xs))
two-options None p xs = IsPermutation-refl (cons_option p xs)
two-options (Some a) None xs = IsPermutation-refl (a ∷ xs)
two-options (Some a) (Some b) xs = IsPermutation-append_left xs (a ∷ b ∷ []) (b ∷ a ∷ []) (IsPermutation-append_comm (a ∷ []) (b ∷ []))

abbrev kept : ScenarioView → LogEntry → Option EffectiveJob
kept s e = result_ok (effective e s)

placed-permutes : (s : ScenarioView) (e : LogEntry) (es : List LogEntry) → IsPermutation (cons_option (kept s e) (jobs_of es s)) (jobs_of (with_entry e es) s)
placed-permutes s e [] = IsPermutation-refl (cons_option (kept s e) [])
placed-permutes s e (x ∷ es) = go (comes_before x e) (placed-permutes s e es)
  where
    go : (b : Bool) → IsPermutation (cons_option (kept s e) (jobs_of es s)) (jobs_of (with_entry e es) s) → IsPermutation (cons_option (kept s e) (cons_option (kept s x) (jobs_of es s))) (jobs_of (cond b (x ∷ with_entry e es) (e ∷ x ∷ es)) s)
    go true i =
        IsPermutation-trans (cons_option (kept s e) (cons_option (kept s x) (jobs_of es s))) (cons_option (kept s x) (cons_option (kept s e) (jobs_of es s))) (cons_option (kept s x) (jobs_of (with_entry e es) s))
        (two-options (kept s e) (kept s x) (jobs_of es s))
        (with-option (kept s x) (cons_option (kept s e) (jobs_of es s)) (jobs_of (with_entry e es) s) i)
    go false i = IsPermutation-refl (cons_option (kept s e) (cons_option (kept s x) (jobs_of es s)))

-- the jobs of the log are those of the entries in another order
pub log-permutes : (s : ScenarioView) (es : List LogEntry) → IsPermutation (jobs_of es s) (jobs_of (log_of es) s)
log-permutes s [] = IsPermutation-refl []
log-permutes s (e ∷ es) =
    IsPermutation-trans (cons_option (kept s e) (jobs_of es s)) (cons_option (kept s e) (jobs_of (log_of es) s)) (jobs_of (with_entry e (log_of es)) s)
    (with-option (kept s e) (jobs_of es s) (jobs_of (log_of es) s) (log-permutes s es))
    (placed-permutes s e (log_of es))

Opens-jobs : (s : ScenarioView) (e : LogEntry) (job : EffectiveJob) (es : List LogEntry) → kept s e ≡ Some job → Opens submit_of number_of_entry e es → Opens at num job (jobs_of es s)
Opens-jobs s e job [] h o = tt
Opens-jobs s e job (x ∷ es) h o = go (kept s x) refl (Opens-jobs s e job es h o.1)
  where
    go : (p : Option EffectiveJob) → kept s x ≡ p → Opens at num job (jobs_of es s) → Opens at num job (cons_option p (jobs_of es s))
    go None k i = i
    go (Some other) k i =
        let a = takes e s job h in
        let b = takes x s other k in
        (rw (a.submit, a.number, b.submit, b.number) o.0, i)

Climbs-jobs : (s : ScenarioView) (es : List LogEntry) → Climbs submit_of number_of_entry es → Climbs at num (jobs_of es s)
Climbs-jobs s [] c = tt
Climbs-jobs s (e ∷ es) c = go (kept s e) refl (Climbs-jobs s es c.1)
  where
    go : (p : Option EffectiveJob) → kept s e ≡ p → Climbs at num (jobs_of es s) → Climbs at num (cons_option p (jobs_of es s))
    go None k i = i
    go (Some job) k i = (Opens-jobs s e job es k c.0, i)

-- in the jobs of the log, by submit second and number, no later one comes before an earlier one
pub Climbs-log-jobs : (s : ScenarioView) (es : List LogEntry) → Climbs at num (jobs_of (log_of es) s)
Climbs-log-jobs s es = Climbs-jobs s (log_of es) (Climbs-log es)

-- no job of these entries is larger than the machine
pub jobs_of-fit : (s : ScenarioView) (es : List LogEntry) → All (λ j. j.size ≤ s.procs) (jobs_of es s)
jobs_of-fit s [] = All-nil (λ (j : EffectiveJob). j.size ≤ s.procs)
jobs_of-fit s (e ∷ es) = go (kept s e) refl (jobs_of-fit s es)
  where
    go : (p : Option EffectiveJob) → kept s e ≡ p → All (λ j. j.size ≤ s.procs) (jobs_of es s) → All (λ j. j.size ≤ s.procs) (cons_option p (jobs_of es s))
    go None k i = i
    go (Some job) k i = All-cons (λ (j : EffectiveJob). j.size ≤ s.procs) job (jobs_of es s) (takes e s job k).fits i

-- there are no more jobs than entries
pub length-jobs_of : (s : ScenarioView) (es : List LogEntry) → length (jobs_of es s) ≤ length es
length-jobs_of s [] = omega arith
length-jobs_of s (e ∷ es) = go (kept s e) (length-jobs_of s es)
  where
    go : (p : Option EffectiveJob) → length (jobs_of es s) ≤ length es → length (cons_option p (jobs_of es s)) ≤ suc (length es)
    go None i = omega (arith, i)
    go (Some job) i = omega (arith, i)
