-- The jobs of entries one after another, and of those from a second on.
use Rattle.std.proofs.Common.{◌≡◌, ℕ, ◌≤◌, ◌<◌, true, false, nat_le, List, [], ◌∷◌, Option, Some, None, refl, sym, ◌∙◌, ap, arith, ⊎_elim}
use Rattle.std.specs.List.{cons_option}
use Rattle.std.proofs.lemmas.Bool.{cases_Bool, cond-true, cond-false, le-leb, lt-leb, leb-true, leb-false}
use Rattle.swf_text.specs.Entry.{LogEntry, submit_of}
use Rattle.job_table.specs.Table.{entries_from}
use Rattle.scenarios.specs.Job.{EffectiveJob}
use Rattle.scenarios.specs.Scenario.{ScenarioView}
use Rattle.scenarios.specs.Plan.{jobs_of, from_on}
use Rattle.scenarios.proofs.EffectiveLemmas.{kept, takes}

-- a job that is submitted at a second or later, and others: the jobs from that second on are it and those of the others
pub from-in : (t : ℕ) (j : EffectiveJob) (js : List EffectiveJob) → t ≤ j.submit → from_on t (j ∷ js) ≡ j ∷ from_on t js
from-in t j js l = cond-true (nat_le t j.submit) (j ∷ from_on t js) (from_on t js) (le-leb t j.submit l)

-- a job that is submitted before a second, and others: the jobs from that second on are those of the others
pub from-out : (t : ℕ) (j : EffectiveJob) (js : List EffectiveJob) → j.submit < t → from_on t (j ∷ js) ≡ from_on t js
from-out t j js l = cond-false (nat_le t j.submit) (j ∷ from_on t js) (from_on t js) (lt-leb t j.submit l)

-- the jobs of the entries from a second on are the jobs from that second on
pub jobs-from : (s : ScenarioView) (t : ℕ) (es : List LogEntry) → jobs_of (entries_from t es) s ≡ from_on t (jobs_of es s)
jobs-from s t [] = refl
jobs-from s t (e ∷ es) =
    let i = jobs-from s t es in
    ⊎_elim
    (λ (y : nat_le t (submit_of e) ≡ true).
    ap (λ xs. jobs_of xs s) (cond-true (nat_le t (submit_of e)) (e ∷ entries_from t es) (entries_from t es) y)
    ∙ stays (kept s e) refl y i)
    (λ (n : nat_le t (submit_of e) ≡ false).
    ap (λ xs. jobs_of xs s) (cond-false (nat_le t (submit_of e)) (e ∷ entries_from t es) (entries_from t es) n)
    ∙ goes (kept s e) refl n i)
    (cases_Bool (nat_le t (submit_of e)))
  where
    stays : (o : Option EffectiveJob) → kept s e ≡ o → nat_le t (submit_of e) ≡ true → jobs_of (entries_from t es) s ≡ from_on t (jobs_of es s) → cons_option o (jobs_of (entries_from t es) s) ≡ from_on t (cons_option o (jobs_of es s))
    stays None h y i = i
    stays (Some job) h y i = ap (λ js. job ∷ js) i ∙ sym (from-in t job (jobs_of es s) (leb-true t job.submit (ap (nat_le t) (takes e s job h).submit ∙ y)))

    goes : (o : Option EffectiveJob) → kept s e ≡ o → nat_le t (submit_of e) ≡ false → jobs_of (entries_from t es) s ≡ from_on t (jobs_of es s) → jobs_of (entries_from t es) s ≡ from_on t (cons_option o (jobs_of es s))
    goes None h n i = i
    goes (Some job) h n i = i ∙ sym (from-out t job (jobs_of es s) (leb-false t job.submit (ap (nat_le t) (takes e s job h).submit ∙ n)))

-- the jobs from second 0 on are all jobs
pub all-from : (js : List EffectiveJob) → from_on 0 js ≡ js
all-from [] = refl
all-from (j ∷ js) = from-in 0 j js (omega arith) ∙ ap (λ l. j ∷ l) (all-from js)
