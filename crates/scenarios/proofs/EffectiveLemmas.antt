-- What an effective job takes from its entry, and where a plan has the job of a number: the job of the entry with that number, if
-- there is one and it is not skipped.
use Rattle.std.proofs.Common.{◌≡◌, ℕ, ◌*◌, ◌/◌, ◌%◌, ◌≤◌, ◌<◌, Bool, true, false, cond, ◌||◌, ◌==◌, nat_eq, nat_lt, List, [], ◌∷◌, Option, Some, None, Ok, Err, find, count_by, ℤ, pos, negsuc, ◌≤ℤ◌, nat_abs, unwrap_or, refl, sym, ◌∙◌, ap, arith, subst, ⊎_elim}
use Rattle.std.specs.List.{AllByRecursion, cons_option}
use Rattle.std.specs.Option.{option_and_then, option_or}
use Rattle.std.specs.Result.{result_ok}
use Rattle.std.proofs.lemmas.Int.{ints}
use Rattle.std.proofs.lemmas.List.Sums.{sum_by-cons}
use Rattle.std.proofs.lemmas.Bool.{cond-true, cond-false, cases_Bool, ltb-false, eq-eqb, eqb-true, or_parts, cases_lt}
use Rattle.swf_text.specs.Limits.{whole_limit}
use Rattle.swf_text.specs.Number.{greatest, whole_of}
use Rattle.swf_text.specs.Entry.{LogEntry, IsEntry, field, number_of_entry, submit_of, whole_number, or_zero, has_number}
use Rattle.job_table.specs.Edit.{entry_of}
use Rattle.job_table.specs.Table.{IsTable}
use Rattle.scenarios.specs.Job.{EffectiveJob, IsWithinLimits}
use Rattle.scenarios.specs.Scenario.{ScenarioView, IsScenario}
use Rattle.scenarios.specs.declared.skip.Skip.{Skip}
use Rattle.scenarios.specs.declared.skip.Skip.TheVariants.{TooLarge, TooLong}
use Rattle.scenarios.specs.Effective.{effective, of_size, of_size_and_run, unless_too_long, job_of, size_of, run_of, estimate_of, base_of, positive, whole_field}
use Rattle.scenarios.specs.Plan.{jobs_of, job_numbered}

pub record Takes (e : LogEntry) (s : ScenarioView) (job : EffectiveJob) : Type 0 where
  pub submit : job.submit ≡ submit_of e
  pub number : job.number ≡ number_of_entry e
  pub some : 1 ≤ job.size
  pub fits : job.size ≤ s.procs
  pub lasts : 1 ≤ job.length
  pub within_estimate : job.length ≤ job.estimate
  pub within_limit : job.estimate ≤ 100000000

positive-some : (z : ℤ) (n : ℕ) → positive z ≡ Some n → 1 ≤ n
positive-some (negsuc m) n h = cc
positive-some (pos m) n h =
    ⊎_elim
    (λ (z : (m == 0) ≡ true). let k : None ≡ Some n = sym (cond-true {A = Option ℕ} (m == 0) None (Some m) z) ∙ h in cc)
    (λ (z : (m == 0) ≡ false).
    let k : Some m ≡ Some n = sym (cond-false {A = Option ℕ} (m == 0) None (Some m) z) ∙ h in
    let same : m ≡ n = cc in
    above m n z same)
    (cases_Bool (m == 0))
  where
    above : (m n : ℕ) → (m == 0) ≡ false → m ≡ n → 1 ≤ n
    above m n z same = ⊎_elim (λ (l : n < 1). let e : m ≡ 0 = omega arith in let y = eq-eqb m 0 e in let k : true ≡ false = sym y ∙ z in cc) (λ (l : 1 ≤ n). l) (cases_lt n 1)

size-some : (line : List ℤ) (n : ℕ) → size_of line ≡ Some n → 1 ≤ n
size-some line n h = go (positive (whole_field line 8)) refl h
  where
    go : (o : Option ℕ) → positive (whole_field line 8) ≡ o → option_or o (positive (whole_field line 5)) ≡ Some n → 1 ≤ n
    go None e h = positive-some (whole_field line 5) n h
    go (Some m) e h = positive-some (whole_field line 8) n (e ∙ h)

-- a job has its entry's submit second and number, a size within the machine, and a length within its estimate, both within the limits
pub takes : (e : LogEntry) (s : ScenarioView) (job : EffectiveJob) → result_ok (effective e s) ≡ Some job → Takes e s job
takes e s job h = by_size (size_of e.main) refl h
  where
    by_long : (b : Bool) (made : EffectiveJob) → (b ≡ false → Takes e s made) → result_ok {T = EffectiveJob} {E = Skip} (cond b (Err TooLong) (Ok made)) ≡ Some job → Takes e s job
    by_long true made t h = cc
    by_long false made t h = let same : made ≡ job = cc in subst (Takes e s) same (t refl)

    by_large : (size run : ℕ) → 1 ≤ size → (b : Bool) → nat_lt s.procs size ≡ b → result_ok {T = EffectiveJob} {E = Skip} (cond b (Err TooLarge) (unless_too_long (job_of e size run (estimate_of (base_of e.main run) s.factor)))) ≡ Some job → Takes e s job
    by_large size run some true l h = cc
    by_large size run some false l h =
        let made = job_of e size run (estimate_of (base_of e.main run) s.factor) in
        by_long (nat_lt 100000000 made.estimate || nat_lt 100000000 made.length) made
        (λ short. record {
          submit = refl;
          number = refl;
          some = some;
          fits = ltb-false s.procs size l;
          lasts = omega arith;
          within_estimate = omega arith;
          within_limit = ltb-false 100000000 made.estimate (or_parts (nat_lt 100000000 made.estimate) (nat_lt 100000000 made.length) short).0;
        }) h

    by_run : (size : ℕ) → 1 ≤ size → (o : Option ℕ) → result_ok (of_size_and_run e s size o) ≡ Some job → Takes e s job
    by_run size some None h = cc
    by_run size some (Some run) h = by_large size run some (nat_lt s.procs size) refl h

    by_size : (o : Option ℕ) → size_of e.main ≡ o → result_ok (of_size e s o) ≡ Some job → Takes e s job
    by_size None k h = cc
    by_size (Some size) k h = by_run size (size-some e.main size k) (run_of e.main) h

number-is : (e : LogEntry) → IsEntry e → whole_number (field e.main 1) ≡ Some (number_of_entry e)
number-is e h = let w = ap whole_number h.numbered ∙ whole h.number in w ∙ sym (ap (λ o. Some (unwrap_or o 0)) w)
  where
    whole : (m : ℕ) → whole_number (pos (1000000 * m)) ≡ Some m
    whole m =
        let a : (1000000 * m) % 1000000 ≡ 0 = omega arith in
        let b : (1000000 * m) / 1000000 ≡ m = omega arith in
        rw (a, b) refl

number-small : (e : LogEntry) → IsEntry e → number_of_entry e ≤ whole_limit
number-small e h = rw (ap whole_number h.numbered ∙ whole h.number) h.number_limit
  where
    whole : (m : ℕ) → whole_number (pos (1000000 * m)) ≡ Some m
    whole m =
        let a : (1000000 * m) % 1000000 ≡ 0 = omega arith in
        let b : (1000000 * m) / 1000000 ≡ m = omega arith in
        rw (a, b) refl

submit-small : (e : LogEntry) → IsEntry e → submit_of e ≤ whole_limit
submit-small e h = go (field e.main 2) h.submit h.submit_limit
  where
    go : (z : ℤ) → pos 0 ≤ℤ z → nat_abs z ≤ greatest → or_zero (whole_of z) ≤ whole_limit
    go (pos m) l k = omega arith
    go (negsuc m) l k = absurd (omega (arith, ints))

-- a job of a sound entry is within its limits
pub within-limits : (e : LogEntry) (s : ScenarioView) (job : EffectiveJob) → IsEntry e → IsScenario s → result_ok (effective e s) ≡ Some job → IsWithinLimits job
within-limits e s job sound scenario h =
    let t = takes e s job h in
    record {
      takes_some = t.some;
      fits_some = let a = t.fits in let b = scenario.procs_fit in omega (arith, a, b);
      lasts = t.lasts;
      within_estimate = t.within_estimate;
      within_limit = t.within_limit;
      submitted = let a = submit-small e sound in let b = t.submit in omega (arith, a, b);
      numbered = let a = number-small e sound in let b = t.number in omega (arith, a, b);
    }

-- the job of an entry under a scenario, none where it is skipped
abbrev pub kept : ScenarioView → LogEntry → Option EffectiveJob
kept s e = result_ok (effective e s)

abbrev numbered : ℕ → LogEntry → Bool
numbered n e = number_of_entry e == n

none-numbered : (s : ScenarioView) (n : ℕ) (es : List LogEntry) → count_by (numbered n) es ≡ 0 → job_numbered (jobs_of es s) n ≡ None
none-numbered s n [] c = refl
none-numbered s n (e ∷ es) c =
    let k = sum_by-cons (λ (e : LogEntry). cond {A = ℕ} (numbered n e) 1 0) e es in
    ⊎_elim
    (λ (y : numbered n e ≡ true). let one = cond-true {A = ℕ} (numbered n e) 1 0 y in absurd (omega (arith, c, k, one)))
    (λ (no' : numbered n e ≡ false). go (kept s e) refl no' (none-numbered s n es (omega (arith, c, k))))
    (cases_Bool (numbered n e))
  where
    go : (o : Option EffectiveJob) → kept s e ≡ o → numbered n e ≡ false → job_numbered (jobs_of es s) n ≡ None → job_numbered (cons_option o (jobs_of es s)) n ≡ None
    go None h no' i = i
    go (Some job) h no' i =
        let m = ap (λ x. nat_eq x n) (takes e s job h).number ∙ no' in
        cond-false (nat_eq job.number n) (Some job) (job_numbered (jobs_of es s) n) m ∙ i

-- the plan's job of a number is the job of the entry with that number
pub look-up : (s : ScenarioView) (n : ℕ) (es : List LogEntry) → count_by (numbered n) es ≤ 1 → job_numbered (jobs_of es s) n ≡ option_and_then (kept s) (find (numbered n) es)
look-up s n [] c = refl
look-up s n (e ∷ es) c =
    let k = sum_by-cons (λ (e : LogEntry). cond {A = ℕ} (numbered n e) 1 0) e es in
    ⊎_elim
    (λ (y : numbered n e ≡ true).
    let one = cond-true {A = ℕ} (numbered n e) 1 0 y in
    let none = none-numbered s n es (omega (arith, c, k, one)) in
    here (kept s e) refl y none ∙ sym (ap (option_and_then (kept s)) (cond-true (numbered n e) (Some e) (find (numbered n) es) y)))
    (λ (no' : numbered n e ≡ false).
    there (kept s e) refl no' ∙ look-up s n es (omega (arith, c, k)) ∙ sym (ap (option_and_then (kept s)) (cond-false (numbered n e) (Some e) (find (numbered n) es) no')))
    (cases_Bool (numbered n e))
  where
    here : (o : Option EffectiveJob) → kept s e ≡ o → numbered n e ≡ true → job_numbered (jobs_of es s) n ≡ None → job_numbered (cons_option o (jobs_of es s)) n ≡ kept s e
    here None h y none = none ∙ sym h
    here (Some job) h y none =
        let m = ap (λ x. nat_eq x n) (takes e s job h).number ∙ y in
        cond-true (nat_eq job.number n) (Some job) (job_numbered (jobs_of es s) n) m ∙ sym h

    there : (o : Option EffectiveJob) → kept s e ≡ o → numbered n e ≡ false → job_numbered (cons_option o (jobs_of es s)) n ≡ job_numbered (jobs_of es s) n
    there None h no' = refl
    there (Some job) h no' =
        let m = ap (λ x. nat_eq x n) (takes e s job h).number ∙ no' in
        cond-false (nat_eq job.number n) (Some job) (job_numbered (jobs_of es s) n) m

-- as many sound entries have a number by the one test as by the other
pub once-numbered : (n : ℕ) (es : List LogEntry) → AllByRecursion IsEntry es → count_by (numbered n) es ≡ count_by (has_number n) es
once-numbered n [] a = refl
once-numbered n (e ∷ es) a =
    let i = once-numbered n es a.1 in
    let k = sum_by-cons (λ (e : LogEntry). cond {A = ℕ} (numbered n e) 1 0) e es in
    let m = sum_by-cons (λ (e : LogEntry). cond {A = ℕ} (has_number n e) 1 0) e es in
    let same : has_number n e ≡ numbered n e = rw (number-is e a.0) (swap n (number_of_entry e)) in
    let o = ap (λ b. cond {A = ℕ} b 1 0) same in
    omega (arith, i, k, m, o)
  where
    swap : (a b : ℕ) → (a == b) ≡ (b == a)
    swap a b =
        ⊎_elim
        (λ (y : (a == b) ≡ true). y ∙ sym (eq-eqb b a (sym (eqb-true a b y))))
        (λ (no' : (a == b) ≡ false).
        ⊎_elim
        (λ (z : (b == a) ≡ true). eq-eqb a b (sym (eqb-true b a z)) ∙ sym z)
        (λ (z : (b == a) ≡ false). no' ∙ sym z)
        (cases_Bool (b == a)))
        (cases_Bool (a == b))

-- where no entry of a table has a number, no job of its plan has it
pub found-none : (log : List LogEntry) (s : ScenarioView) (n : ℕ) → IsTable log → None ≡ entry_of n log → job_numbered (jobs_of log s) n ≡ None
found-none log s n t e =
    look-up s n log (omega (arith, once-numbered n log t.log.sound, t.log.distinct n)) ∙ ap (option_and_then (kept s)) (sym e)

-- the job of a number in the plan of a table is the job of the entry with that number, or none where that is skipped
pub found-some : (log : List LogEntry) (s : ScenarioView) (n : ℕ) (x : LogEntry) → IsTable log → Some x ≡ entry_of n log → job_numbered (jobs_of log s) n ≡ result_ok (effective x s)
found-some log s n x t e =
    look-up s n log (omega (arith, once-numbered n log t.log.sound, t.log.distinct n)) ∙ ap (option_and_then (kept s)) (sym e)
