-- The plan of a table under a scenario is sound: its jobs keep what their entries have, and stand in the order of the log.
use Rattle.std.proofs.Common.{◌≡◌, ℕ, suc, ◌≤◌, ◌<◌, true, false, cond, ◌||◌, ◌&&◌, ◌==◌, nat_eq, nat_lt, List, [], ◌∷◌, length, Option, Some, None, All, count_by, refl, sym, ◌∙◌, ap, arith, inl, inr, ⊎_elim, ◌⊎◌}
use Rattle.std.specs.List.{AllByRecursion, cons_option}
use Rattle.std.proofs.lemmas.List.Sums.{sum_by-cons}
use Rattle.std.proofs.lemmas.List.Elements.{All-nil, All-cons, All-head, All-tail, All-weaker}
use Rattle.std.proofs.lemmas.Bool.{cases_Bool, lt-ltb, ltb-true, eq-eqb, eqb-true, and_from, and_parts, or_left, or_right}
use Rattle.swf_text.specs.Entry.{LogEntry, IsEntry, submit_of, number_of_entry}
use Rattle.swf_text.specs.Log.{IsRising, submits_before}
use Rattle.job_table.specs.Table.{IsTable}
use Rattle.scenarios.specs.Job.{EffectiveJob, IsWithinLimits}
use Rattle.scenarios.specs.Scenario.{ScenarioView, IsScenario}
use Rattle.scenarios.specs.Plan.{jobs_of, plan_of}
use Rattle.scenarios.proofs.EffectiveLemmas.{kept, takes, within-limits, once-numbered}
use Rattle.scenarios.specs.SoundPlan.{IsPlan}
use Rattle.scenarios.specs.SoundPlan as sound

pub all-jobs : (P : LogEntry → Type 0) (Q : EffectiveJob → Type 0) (s : ScenarioView) → ((e : LogEntry) (job : EffectiveJob) → kept s e ≡ Some job → P e → Q job) → (es : List LogEntry) → All P es → All Q (jobs_of es s)
all-jobs P Q s f [] a = All-nil Q
all-jobs P Q s f (e ∷ es) a = go (kept s e) refl (all-jobs P Q s f es (All-tail P e es a))
  where
    go : (o : Option EffectiveJob) → kept s e ≡ o → All Q (jobs_of es s) → All Q (cons_option o (jobs_of es s))
    go None h i = i
    go (Some job) h i = All-cons Q job (jobs_of es s) (f e job h (All-head P e es a)) i

recursed : {X : Type 0} (P : X → Type 0) (xs : List X) → AllByRecursion P xs → All P xs
recursed P [] a = All-nil P
recursed P (x ∷ xs) a = All-cons P x xs a.0 (recursed P xs a.1)

few-jobs : (s : ScenarioView) (es : List LogEntry) → length (jobs_of es s) ≤ length es
few-jobs s [] = omega arith
few-jobs s (e ∷ es) = go (kept s e) (few-jobs s es)
  where
    go : (p : Option EffectiveJob) → length (jobs_of es s) ≤ length es → length (cons_option p (jobs_of es s)) ≤ suc (length es)
    go None i = omega (arith, i)
    go (Some job) i = omega (arith, i)

once-jobs : (s : ScenarioView) (n : ℕ) (es : List LogEntry) → count_by (λ (j : EffectiveJob). nat_eq j.number n) (jobs_of es s) ≤ count_by (λ e. number_of_entry e == n) es
once-jobs s n [] = omega arith
once-jobs s n (e ∷ es) = go (kept s e) refl (once-jobs s n es)
  where
    go : (p : Option EffectiveJob) → kept s e ≡ p → count_by (λ (j : EffectiveJob). nat_eq j.number n) (jobs_of es s) ≤ count_by (λ e. number_of_entry e == n) es
        → count_by (λ (j : EffectiveJob). nat_eq j.number n) (cons_option p (jobs_of es s)) ≤ count_by (λ e. number_of_entry e == n) (e ∷ es)
    go None h i = omega (arith, i, sum_by-cons (λ (e : LogEntry). cond {A = ℕ} (number_of_entry e == n) 1 0) e es)
    go (Some job) h i =
        let same = ap (λ m. cond {A = ℕ} (nat_eq m n) 1 0) (takes e s job h).number in
        omega (arith, i, same, sum_by-cons (λ (e : LogEntry). cond {A = ℕ} (number_of_entry e == n) 1 0) e es, sum_by-cons (λ (j : EffectiveJob). cond {A = ℕ} (nat_eq j.number n) 1 0) job (jobs_of es s))

-- a second and a number stand before another two in submit order, as a fact
abbrev pub Lex : ℕ → ℕ → ℕ → ℕ → Type 0
Lex a b c d = (a < c) ⊎ ((a ≡ c) × (b < d))

-- two numbers that the test finds before another two stand before them
pub Lex-true : (a b c d : ℕ) → submits_before a b c d ≡ true → Lex a b c d
Lex-true a b c d h =
    ⊎_elim
    (λ (y : nat_lt a c ≡ true). inl (ltb-true a c y))
    (λ (n : nat_lt a c ≡ false).
    let rest : (a == c && nat_lt b d) ≡ true = ap (λ x. x || (a == c && nat_lt b d)) (sym n) ∙ h in
    let p = and_parts (a == c) (nat_lt b d) rest in
    inr (eqb-true a c p.0, ltb-true b d p.1))
    (cases_Bool (nat_lt a c))

true-Lex : (a b c d : ℕ) → Lex a b c d → submits_before a b c d ≡ true
true-Lex a b c d (inl l) = or_left (nat_lt a c) (a == c && nat_lt b d) (lt-ltb a c l)
true-Lex a b c d (inr p) = or_right (nat_lt a c) (a == c && nat_lt b d) (and_from (a == c) (nat_lt b d) (eq-eqb a c p.0) (lt-ltb b d p.1))

-- what stands before a second and a number stands before all that these stand before
pub Lex-trans : (a b c d e f : ℕ) → Lex a b c d → Lex c d e f → Lex a b e f
Lex-trans a b c d e f (inl l) (inl m) = inl (omega arith)
Lex-trans a b c d e f (inl l) (inr m) = inl (let k = m.0 in omega (arith, k))
Lex-trans a b c d e f (inr l) (inl m) = inl (let k = l.0 in omega (arith, k))
Lex-trans a b c d e f (inr l) (inr m) = inr ((let k = l.0 in let n = m.0 in omega (arith, k, n)), (let k = l.1 in let n = m.1 in omega (arith, k, n)))

abbrev Precedes : LogEntry → LogEntry → Type 0
Precedes e x = Lex (submit_of e) (number_of_entry e) (submit_of x) (number_of_entry x)

abbrev InOrder : List LogEntry → Type 0
InOrder [] = Unit {0}
InOrder (e ∷ es) = All (Precedes e) es × InOrder es

in-order : (es : List LogEntry) → IsRising es → InOrder es
in-order [] r = tt
in-order (e ∷ []) r = (All-nil (Precedes e), tt)
in-order (e ∷ x ∷ es) r =
    let i = in-order (x ∷ es) r.1 in
    let l = Lex-true (submit_of e) (number_of_entry e) (submit_of x) (number_of_entry x) r.0 in (
      All-cons (Precedes e) x es l
          (All-weaker (Precedes x) (Precedes e) (λ y m. Lex-trans (submit_of e) (number_of_entry e) (submit_of x) (number_of_entry x) (submit_of y) (number_of_entry y) l m) es i.0),
      i,
    )

abbrev Ahead : EffectiveJob → EffectiveJob → Type 0
Ahead a b = Lex a.submit a.number b.submit b.number

abbrev JobsInOrder : List EffectiveJob → Type 0
JobsInOrder [] = Unit {0}
JobsInOrder (j ∷ js) = All (Ahead j) js × JobsInOrder js

jobs-in-order : (s : ScenarioView) (es : List LogEntry) → InOrder es → JobsInOrder (jobs_of es s)
jobs-in-order s [] o = tt
jobs-in-order s (e ∷ es) o = go (kept s e) refl (jobs-in-order s es o.1)
  where
    go : (p : Option EffectiveJob) → kept s e ≡ p → JobsInOrder (jobs_of es s) → JobsInOrder (cons_option p (jobs_of es s))
    go None h i = i
    go (Some job) h i =
        let t = takes e s job h in
        (all-jobs (Precedes e) (Ahead job) s (λ x other k p. (let u = takes x s other k in rw (t.submit, t.number, u.submit, u.number) p)) es o.0, i)

rising-jobs : (js : List EffectiveJob) → JobsInOrder js → sound.IsRising js
rising-jobs [] o = tt
rising-jobs (j ∷ []) o = tt
rising-jobs (j ∷ k ∷ js) o = (true-Lex j.submit j.number k.submit k.number (All-head (Ahead j) k js o.0), rising-jobs (k ∷ js) o.1)

-- the plan of a table under a scenario within its limits is sound
pub plan-is : (log : List LogEntry) (s : ScenarioView) → IsTable log → IsScenario s → IsPlan (plan_of log s)
plan-is log s t h =
    let entries = recursed IsEntry log t.log.sound in
    record {
      limited = h.procs_fit;
      sizes = all-jobs IsEntry (λ (j : EffectiveJob). j.size ≤ s.procs) s (λ e job k _. (takes e s job k).fits) log entries;
      limits = all-jobs IsEntry IsWithinLimits s (λ e job k entry. within-limits e s job entry h k) log entries;
      few = (let a = few-jobs s log in let b = t.log.capacity in omega (arith, a, b));
      once = λ n. omega (arith, once-jobs s n log, once-numbered n log t.log.sound, t.log.distinct n);
      rising = rising-jobs (jobs_of log s) (jobs-in-order s log (in-order log t.rising));
    }
