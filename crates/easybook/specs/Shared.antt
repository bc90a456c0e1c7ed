-- What is written of a log and several scripts that are worked side by side.
use Rattle.std.specs.Prelude.{◌≡◌, ℕ, ◌+◌, ◌<◌, nat_le, Bool, true, List, [], ◌∷◌, ◌++◌, length, take, Option, Result, Ok, Err, ◌⊎◌, codes}
use Rattle.std.specs.Fmt.{decimal}
use Rattle.std.specs.List.{list_all}
use Rattle.std.specs.Io.KnownBytes.{Appends, Keeps}
use Rattle.swf_text.specs.Entry.{LogEntry}
use Rattle.scenarios.specs.ScenarioList.{Listing}
use Rattle.scripts.specs.Transcript.{begun}
use Rattle.easybook.specs.Along.{AreAnsweredAlong}
use Rattle.easybook.specs.Alone.{script_limit}
use Rattle.easybook.specs.Opened.{IsOpened}
use Rattle.easybook.specs.Plain.{IsFaultOf, log_limit}
use Rattle.easybook.specs.declared.fault.ProgramFault.{ProgramFault}
use Rattle.easybook.specs.declared.fault.ProgramFault.TheVariants as faults

-- the line before the text of the script with this number
abbrev pub head_line : ℕ → List ℕ
head_line number = codes "== " ++ decimal number ++ codes "\n"

-- the texts of scripts, one after another, the first of which has this number
abbrev pub headed : ℕ → List (List ℕ) → List ℕ
headed number [] = []
headed number (text ∷ texts) = head_line number ++ text ++ headed (number + 1) texts

-- whether each script has at most as many bytes as a script may have
abbrev pub are_within : List (List ℕ) → Bool
are_within scripts = list_all (λ script. nat_le (length script) script_limit) scripts

abbrev pub AreWithin : List (List ℕ) → Type 0
AreWithin scripts = are_within scripts ≡ true

-- The log is opened, and each text answers its script along one legal history that goes on from the log's book.
pub record AreAnswered (A : Type 0) (log : List ℕ) (procs : Option ℕ) (scripts texts : List (List ℕ)) : Type 0 where
  pub comments : List (List ℕ)
  pub table : List LogEntry
  pub scenarios : Listing
  pub is_opened : IsOpened log procs comments table scenarios
  pub along : AreAnsweredAlong A comments (begun table scenarios.scenarios).machine scripts texts

-- why scripts that were opened end without their texts: out of memory, or a history that is not the callers'
abbrev pub IsSharedFault : ProgramFault → Type 0
IsSharedFault faults.Memory = Unit {0}
IsSharedFault (faults.Close fault) = Unit {0}
IsSharedFault fault = ⊥

-- What was written, by the result: a text for each script, or where the writer failed a beginning of that, or nothing.
-- The lengths are judged before the log; out of memory, and a history that is not the callers', say nothing of either.
abbrev pub RunsShared : {X : Type 0} → Type 0 → List ℕ → Option ℕ → List (List ℕ) → Option (List ℕ) → Option (List ℕ) → Result X ProgramFault → Type 0
RunsShared A log procs scripts old new (Ok x) = AreWithin scripts × ((texts : List (List ℕ)) × AreAnswered A log procs scripts texts × Appends old new (headed 1 texts))
RunsShared A log procs scripts old new (Err faults.Write) =
    AreWithin scripts × ((texts : List (List ℕ)) × AreAnswered A log procs scripts texts × ((n : ℕ) × Appends old new (take n (headed 1 texts))))
RunsShared A log procs scripts old new (Err faults.TooLong) = ((log_limit < length log) ⊎ (AreWithin scripts → ⊥)) × Keeps old new
RunsShared A log procs scripts old new (Err faults.Memory) = Keeps old new
RunsShared A log procs scripts old new (Err (faults.Close fault)) = Keeps old new
RunsShared A log procs scripts old new (Err fault) = AreWithin scripts × IsFaultOf log procs fault × Keeps old new
