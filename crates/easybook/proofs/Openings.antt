-- What follows where a log is opened: it has a first scenario, and what is written of the schedule of that is the plain run's result.
use Rattle.std.proofs.Common.{◌≡◌, ℕ, Bool, true, eqb, List, [], ◌∷◌, length, Option, Some, None, Result, Ok, Err, refl, sym, ap, subst, ◌∙◌, inl, inr}
use Rattle.std.specs.Prelude.{is_some, slice_get}
use Rattle.std.proofs.lemmas.Bool.{cases_Bool, eqb-false, true≢false}
use Rattle.swf_text.specs.Entry.{LogEntry}
use Rattle.scenarios.specs.Plan.{plan_of}
use Rattle.scenarios.specs.Scenario.{ScenarioView, scenario_with}
use Rattle.scenarios.specs.ScenarioList.{Listed, Listing}
use Rattle.commands.specs.Opening.{base_on, base_of, machine_of, opened, declared}
use Rattle.commands.specs.declared.opening_fault.OpenTextFault.{OpenTextFault}
use Rattle.report.specs.Schedule.{schedule_text, HasALineForEachJob}
use Rattle.easybook.specs.Opened.{IsOpened}
use Rattle.easybook.specs.Plain.{Answers, IsPrinted, IsScheduleOf, Prints}
use Rattle.easybook.specs.declared.fault.ProgramFault.{ProgramFault}
use Rattle.easybook.specs.declared.fault.ProgramFault.TheVariants as faults

filled : Result Listing OpenTextFault → Bool
filled (Ok list) = is_some (slice_get list.scenarios 0)
filled (Err fault) = true

scenario-filled : (s : Option ScenarioView) → filled (base_of s) ≡ true
unfolding filled
scenario-filled None = refl
scenario-filled (Some s) = refl

base-filled : (procs : Option ℕ) → filled (base_on procs) ≡ true
unfolding filled
base-filled None = refl
base-filled (Some p) = scenario-filled (scenario_with p 1000)

some-first : (ls : List Listed) → (length ls ≡ 0 → ⊥) → is_some (slice_get ls 0) ≡ true
some-first [] h = absurd (h refl)
some-first (l ∷ ls) h = refl

opened-filled : (procs : Option ℕ) (comments : List (List ℕ)) → filled (opened procs comments) ≡ true
unfolding filled
opened-filled procs comments = elim (cases_Bool (eqb (length (declared comments).scenarios) 0)) [
  | inl none ↦ rw none (base-filled (machine_of procs comments))
  | inr some ↦ rw some (some-first (declared comments).scenarios (eqb-false (length (declared comments).scenarios) 0 some))
]

-- a log that is opened has a first scenario
pub opened-some : (procs : Option ℕ) (comments : List (List ℕ)) (list : Listing) → opened procs comments ≡ Ok list → slice_get list.scenarios 0 ≡ None → ⊥
unfolding filled
opened-some procs comments list is none = true≢false (sym (opened-filled procs comments) ∙ ap filled is ∙ ap is_some none)

pub schedule-is : (log : List ℕ) (procs : Option ℕ) (text : List ℕ) (comments : List (List ℕ)) (table : List LogEntry) (scenarios : Listing) (first : Listed) → IsOpened log procs comments table scenarios → slice_get scenarios.scenarios 0 ≡ Some first → text ≡ schedule_text first.name 0 (plan_of table first.scenario) → HasALineForEachJob first.name 0 (plan_of table first.scenario) text → IsScheduleOf log procs text
schedule-is log procs text comments table scenarios first is is_first schedule has_lines =
    record { within = is.within; read = is.read; is_text = is.is_text; scenarios = scenarios; opened_with = is.opened_with; first = first; is_first = is_first; schedule = schedule ∙ ap (λ (es : List LogEntry). schedule_text first.name 0 (plan_of es first.scenario)) is.arranged; lines_of_jobs = subst (λ (es : List LogEntry). HasALineForEachJob first.name 0 (plan_of es first.scenario) text) is.arranged has_lines }

pub of-plan : {text : List ℕ} {log table : List LogEntry} {under scenario : ScenarioView} → (name : List ℕ) → text ≡ schedule_text name 0 (plan_of log under) → log ≡ table → under ≡ scenario → text ≡ schedule_text name 0 (plan_of table scenario)
of-plan {text} {log} {table} {under} {scenario} name is same_log same_scenario =
    is ∙ ap (λ (es : List LogEntry). schedule_text name 0 (plan_of es under)) same_log ∙ ap (λ (s : ScenarioView). schedule_text name 0 (plan_of table s)) same_scenario

pub lines-of-plan : {text : List ℕ} {log table : List LogEntry} {under scenario : ScenarioView} → (name : List ℕ) → HasALineForEachJob name 0 (plan_of log under) text → log ≡ table → under ≡ scenario → HasALineForEachJob name 0 (plan_of table scenario) text
lines-of-plan {text} {log} {table} {under} {scenario} name has same_log same_scenario =
    subst (λ (s : ScenarioView). HasALineForEachJob name 0 (plan_of table s) text) same_scenario (subst (λ (es : List LogEntry). HasALineForEachJob name 0 (plan_of es under) text) same_log has)

-- what is written of the schedule of a log's first scenario, or why it is not written, is the plain run's result for the log
pub printed : {X : Type 0} (log : List ℕ) (procs : Option ℕ) (comments : List (List ℕ)) (table : List LogEntry) (scenarios : Listing) (first : Listed) (old new : Option (List ℕ)) (result : Result X ProgramFault) → IsOpened log procs comments table scenarios → slice_get scenarios.scenarios 0 ≡ Some first → Prints first.name (plan_of table first.scenario) old new result → Answers log procs old new result
printed log procs comments table scenarios first old new (Ok x) is is_first p = (p.0, schedule-is log procs p.0 comments table scenarios first is is_first p.1.schedule p.1.lines_of_jobs, p.2)
printed log procs comments table scenarios first old new (Err faults.Write) is is_first p = (p.0, schedule-is log procs p.0 comments table scenarios first is is_first p.1.schedule p.1.lines_of_jobs, p.2)
printed log procs comments table scenarios first old new (Err faults.Memory) is is_first p = (tt, p)
printed log procs comments table scenarios first old new (Err faults.TooLong) is is_first p = absurd p
printed log procs comments table scenarios first old new (Err faults.Read) is is_first p = absurd p
printed log procs comments table scenarios first old new (Err (faults.Log f)) is is_first p = absurd p
printed log procs comments table scenarios first old new (Err faults.NoMachine) is is_first p = absurd p
printed log procs comments table scenarios first old new (Err faults.BadMachine) is is_first p = absurd p
printed log procs comments table scenarios first old new (Err (faults.Close f)) is is_first p = absurd p

-- the schedule of a run, with a line for each job, is that of the plan of this log and scenario, where they are the run's
pub is-printed : {log table : List LogEntry} {under scenario : ScenarioView} → (name text : List ℕ) → text ≡ schedule_text name 0 (plan_of log under) → HasALineForEachJob name 0 (plan_of log under) text → log ≡ table → under ≡ scenario → IsPrinted name (plan_of table scenario) text
is-printed name text is has same_log same_scenario = record { schedule = of-plan name is same_log same_scenario; lines_of_jobs = lines-of-plan name has same_log same_scenario }
