-- The result of a session where its script cannot be read, or its writer fails.
use Rattle.std.proofs.Common.{◌≡◌, ℕ, ◌≤◌, List, length, take, Option, Some, None, IfSome, Result, Err, refl, inr, subst, sym}
use Rattle.std.specs.Io.KnownBytes.{Appends, Keeps}
use Rattle.book_machine.specs.Machine.{Machine}
use Rattle.version_book.specs.Book.{BookView, machine_of}
use Rattle.scripts.specs.Transcript.{IsTranscriptOf}
use Rattle.easybook.specs.Alone.{CanBeOpened, IsAnswered, RunsAlone, script_limit}
use Rattle.easybook.specs.Book.{IsBookOf}
use Rattle.easybook.specs.Input.{IsInputFault}
use Rattle.easybook.specs.declared.fault.ProgramFault.{ProgramFault}
use Rattle.easybook.specs.declared.fault.ProgramFault.TheVariants as faults

-- where nothing is written, what was written before is kept
pub keeps : (old : Option (List ℕ)) → Keeps old old
keeps None = tt
keeps (Some xs) = refl

pub opens : (log : List ℕ) (procs : Option ℕ) (spacing : ℕ) (comments : List (List ℕ)) (book : BookView) → IsBookOf log procs spacing comments book → CanBeOpened log procs
opens log procs spacing comments book b = (comments, b.table, b.scenarios, b.is_opened)

-- where a log is opened and its script is not had, the reason, with nothing written, is a result for the two
pub unread : {X : Type 0} (A : Type 0) (log : List ℕ) (procs : Option ℕ) (spacing : ℕ) (comments : List (List ℕ)) (book : BookView) (known old : Option (List ℕ)) (fault : ProgramFault) (outcome : Result X ProgramFault) → IsBookOf log procs spacing comments book → IsInputFault known script_limit fault → outcome ≡ Err fault → RunsAlone A log procs known old old outcome
unread {X} A log procs spacing comments book known old fault outcome b h is = subst (λ (r : Result X ProgramFault). RunsAlone A log procs known old old r) (sym is) (go fault h) where
  go : (f : ProgramFault) → IsInputFault known script_limit f → RunsAlone {X = X} A log procs known old old (Err f)
  go faults.TooLong h = (inr (opens log procs spacing comments book b, h), keeps old)
  go faults.Read h = (opens log procs spacing comments book b, keeps old)
  go faults.Memory h = (tt, keeps old)
  go faults.Write h = absurd h
  go (faults.Log f) h = absurd h
  go (faults.Close f) h = absurd h
  go faults.NoMachine h = absurd h
  go faults.BadMachine h = absurd h

answered : (A : Type 0) (log : List ℕ) (procs : Option ℕ) (spacing : ℕ) (comments : List (List ℕ)) (book : BookView) (script text : List ℕ) → IsBookOf log procs spacing comments book → length script ≤ script_limit → IsTranscriptOf A comments (record { machine = machine_of book; seen = 0 }) script text → IsAnswered A log procs script text
answered A log procs spacing comments book script text b few t = record {
  comments = comments;
  table = b.table;
  scenarios = b.scenarios;
  is_opened = b.is_opened;
  within = few;
  transcript = subst (λ (m : Machine). IsTranscriptOf A comments (record { machine = m; seen = 0 }) script text) b.begins t;
}

-- where the writer failed, a beginning of a transcript of the script that was read is what was written of the log and the script
pub cut_off : {X : Type 0} (A : Type 0) (log : List ℕ) (procs : Option ℕ) (spacing : ℕ) (held shown : List (List ℕ)) (book : BookView) (known old new : Option (List ℕ)) (bytes script text : List ℕ) (n : ℕ) (outcome : Result X ProgramFault) → IsBookOf log procs spacing held book → shown ≡ held → IfSome known (λ all. bytes ≡ all) → length script ≤ script_limit → script ≡ bytes → IsTranscriptOf A shown (record { machine = machine_of book; seen = 0 }) script text → Appends old new (take n text) → outcome ≡ Err faults.Write → RunsAlone A log procs known old new outcome
cut_off {X} A log procs spacing held shown book known old new bytes script text n outcome b same all few read t wrote is =
    let over_held = subst (λ (comments : List (List ℕ)). IsTranscriptOf A comments (record { machine = machine_of book; seen = 0 }) script text) same t in
    let of_bytes = subst (λ (s : List ℕ). IsTranscriptOf A held (record { machine = machine_of book; seen = 0 }) s text) read over_held in
    let few_bytes = subst (λ (s : List ℕ). length s ≤ script_limit) read few in
    subst (λ (r : Result X ProgramFault). RunsAlone A log procs known old new r) (sym is) (text, (bytes, all, answered A log procs spacing held book bytes text b few_bytes of_bytes), (n, wrote))
