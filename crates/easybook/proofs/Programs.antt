-- What the program does with a log in a file, by the session's result.
use Rattle.std.proofs.Common.{◌≡◌, ℕ, ◌+◌, List, take, Option, Some, None, IfSome, Result, Ok, Err, refl}
use Rattle.easybook.specs.Alone.{RunsAlone, script_limit}
use Rattle.easybook.specs.Plain.{log_limit}
use Rattle.easybook.specs.Program.{EndsOnFile, OfAll}
use Rattle.easybook.specs.declared.fault.ProgramFault.{ProgramFault}
use Rattle.easybook.specs.declared.fault.ProgramFault.TheVariants as faults
use Rattle.easybook.proofs.Alones.{alone_of_log, alone_of_script}

-- what holds of a log's bytes up to one past its limit, and then of all its bytes, whatever they are, holds of all that the file has
pub of_all : (file : Option (List ℕ)) (front : List ℕ) (P : List ℕ → Type 0) → ((all : List ℕ) → front ≡ take (log_limit + 1) all → P front → P all) → IfSome file (λ all. front ≡ take (log_limit + 1) all) → P front → OfAll file P
of_all None front P step is p = (front, tt, p)
of_all (Some all) front P step is p = (all, refl, step all is p)

-- a result, with what was written, for a log's and a script's bytes up to one past their limits is one for the log in the file and all of
-- the script
pub file_ends : {X : Type 0} (A : Type 0) (file : Option (List ℕ)) (procs : Option ℕ) (known old new : Option (List ℕ)) (log script : List ℕ) (result : Result X ProgramFault) → IfSome file (λ all. log ≡ take (log_limit + 1) all) → IfSome known (λ all. script ≡ take (script_limit + 1) all) → RunsAlone A log procs (Some script) old new result → EndsOnFile A file procs known old new result
file_ends {X} A file procs known old new log script result is_log is_script h = go result (alone_of_script A log procs known old new script result is_script h) where
  go : (r : Result X ProgramFault) → RunsAlone A log procs known old new r → EndsOnFile A file procs known old new r
  go (Err faults.Read) a = a.1
  go (Err faults.Memory) a = a.1
  go (Ok x) a = of_all file log (λ l. RunsAlone A l procs known old new (Ok x)) (λ all is p. alone_of_log A log all procs known old new (Ok x) is p) is_log a
  go (Err faults.Write) a = of_all file log (λ l. RunsAlone {X = X} A l procs known old new (Err faults.Write)) (λ all is p. alone_of_log {X = X} A log all procs known old new (Err faults.Write) is p) is_log a
  go (Err faults.TooLong) a = of_all file log (λ l. RunsAlone {X = X} A l procs known old new (Err faults.TooLong)) (λ all is p. alone_of_log {X = X} A log all procs known old new (Err faults.TooLong) is p) is_log a
  go (Err (faults.Log f)) a = of_all file log (λ l. RunsAlone {X = X} A l procs known old new (Err (faults.Log f))) (λ all is p. alone_of_log {X = X} A log all procs known old new (Err (faults.Log f)) is p) is_log a
  go (Err faults.NoMachine) a = of_all file log (λ l. RunsAlone {X = X} A l procs known old new (Err faults.NoMachine)) (λ all is p. alone_of_log {X = X} A log all procs known old new (Err faults.NoMachine) is p) is_log a
  go (Err faults.BadMachine) a = of_all file log (λ l. RunsAlone {X = X} A l procs known old new (Err faults.BadMachine)) (λ all is p. alone_of_log {X = X} A log all procs known old new (Err faults.BadMachine) is p) is_log a
  go (Err (faults.Close f)) a = of_all file log (λ l. RunsAlone {X = X} A l procs known old new (Err (faults.Close f))) (λ all is p. alone_of_log {X = X} A log all procs known old new (Err (faults.Close f)) is p) is_log a
