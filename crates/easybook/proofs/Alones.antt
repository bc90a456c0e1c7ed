-- The results for a log or a script that is read up to one byte past its limit: within it that is all of it, and past it only the length is
-- reported.
use Rattle.std.proofs.Common.{◌≡◌, ℕ, ◌+◌, ◌<◌, List, length, take, Option, Some, IfSome, Result, Ok, Err, inl, inr, subst, arith}
use Rattle.std.proofs.lemmas.Bool.{cases_lt}
use Rattle.easybook.specs.Alone.{IsAnswered, IsWorked, RunsAlone, script_limit}
use Rattle.easybook.specs.Plain.{log_limit}
use Rattle.easybook.specs.declared.fault.ProgramFault.{ProgramFault}
use Rattle.easybook.specs.declared.fault.ProgramFault.TheVariants as faults
use Rattle.easybook.proofs.Inputs.{all_of_front, known_all, known_more, more_of_front}

past : {X : Type 0} (A : Type 0) (front all : List ℕ) (procs : Option ℕ) (known old new : Option (List ℕ)) (result : Result X ProgramFault) → log_limit < length front → log_limit < length all → RunsAlone A front procs known old new result → RunsAlone A all procs known old new result
past A front all procs known old new (Ok x) many more h = let within = h.1.2.is_opened.within in absurd (omega arith)
past A front all procs known old new (Err faults.Write) many more h = let within = h.1.2.is_opened.within in absurd (omega arith)
past A front all procs known old new (Err faults.TooLong) many more h = (inl more, h.1)
past A front all procs known old new (Err faults.Read) many more h = let within = h.0.3.within in absurd (omega arith)
past A front all procs known old new (Err (faults.Log f)) many more h = let within = h.0.0 in absurd (omega arith)
past A front all procs known old new (Err faults.NoMachine) many more h = let within = h.0.within in absurd (omega arith)
past A front all procs known old new (Err faults.BadMachine) many more h = let within = h.0.within in absurd (omega arith)
past A front all procs known old new (Err faults.Memory) many more h = h
past A front all procs known old new (Err (faults.Close f)) many more h = absurd (h.0)

-- a result, with what was written, for a log's bytes up to one past its limit is one for all of the log
pub alone_of_log : {X : Type 0} (A : Type 0) (front all : List ℕ) (procs : Option ℕ) (known old new : Option (List ℕ)) (result : Result X ProgramFault) → front ≡ take (log_limit + 1) all → RunsAlone A front procs known old new result → RunsAlone A all procs known old new result
alone_of_log A front all procs known old new result is h = elim (cases_lt log_limit (length front)) [
  | inl many ↦ past A front all procs known old new result many (more_of_front all front log_limit is many) h
  | inr few ↦ subst (λ (log : List ℕ). RunsAlone A log procs known old new result) (all_of_front all front log_limit is few) h
]

worked_of_script : (A : Type 0) (log : List ℕ) (procs : Option ℕ) (known : Option (List ℕ)) (front text : List ℕ) → IfSome known (λ all. front ≡ take (script_limit + 1) all) → IsWorked A log procs (Some front) text → IsWorked A log procs known text
worked_of_script A log procs known front text is w =
    let same : w.0 ≡ front = w.1 in
    let answered = subst (λ (script : List ℕ). IsAnswered A log procs script text) same w.2 in
    (front, known_all known front script_limit is answered.within, answered)

-- a result, with what was written, for a script's bytes up to one past its limit is one for all of the script, as far as it is known
pub alone_of_script : {X : Type 0} (A : Type 0) (log : List ℕ) (procs : Option ℕ) (known old new : Option (List ℕ)) (front : List ℕ) (result : Result X ProgramFault) → IfSome known (λ all. front ≡ take (script_limit + 1) all) → RunsAlone A log procs (Some front) old new result → RunsAlone A log procs known old new result
alone_of_script A log procs known old new front (Ok x) is h = (h.0, worked_of_script A log procs known front h.0 is h.1, h.2)
alone_of_script A log procs known old new front (Err faults.Write) is h = (h.0, worked_of_script A log procs known front h.0 is h.1, h.2)
alone_of_script A log procs known old new front (Err faults.TooLong) is h = (elim h.0 [ inl long ↦ inl long | inr o ↦ inr (o.0, known_more known front script_limit is o.1) ], h.1)
alone_of_script A log procs known old new front (Err faults.Read) is h = h
alone_of_script A log procs known old new front (Err (faults.Log f)) is h = h
alone_of_script A log procs known old new front (Err faults.NoMachine) is h = h
alone_of_script A log procs known old new front (Err faults.BadMachine) is h = h
alone_of_script A log procs known old new front (Err faults.Memory) is h = h
alone_of_script A log procs known old new front (Err (faults.Close f)) is h = h
