-- What a conversation leaves written, and what the program does with it: of a log past its limit only the length is reported.
use Rattle.std.proofs.Common.{◌≡◌, ℕ, ◌+◌, ◌<◌, false, eqb, List, [], length, take, Option, Some, None, IfSome, Result, Ok, Err, inl, inr, sym, ap, subst, ◌∙◌, arith}
use Rattle.std.proofs.lemmas.Bool.{cases_lt, ne_eqb}
use Rattle.std.specs.Io.Buffered.{reader_buffer, reader_capacity, reader_inner, reader_remaining}
use Rattle.std.proofs.KnownBytes.{prepend_known-nil}
use Rattle.std.specs.declared.io.buffered.BufReader.{BufReader}
use Rattle.book_machine.specs.Machine.{Machine}
use Rattle.version_book.specs.Book.{BookView, machine_of}
use Rattle.scripts.specs.Live.{Talks}
use Rattle.scripts.specs.declared.live.LiveFault.{LiveFault}
use Rattle.scripts.specs.declared.live.LiveFault.TheVariants as live
use Rattle.easybook.specs.Book.{IsBookOf}
use Rattle.easybook.specs.Fault.{fault_of_talk}
use Rattle.easybook.specs.Live.{IsHeld, RunsLive}
use Rattle.easybook.specs.Plain.{IsFaultOf, log_limit}
use Rattle.easybook.specs.Program.{EndsOnTalk, OfAll}
use Rattle.easybook.specs.declared.fault.ProgramFault.{ProgramFault}
use Rattle.easybook.specs.declared.fault.ProgramFault.TheVariants as faults
use Rattle.easybook.proofs.Inputs.{all_of_front, more_of_front}
use Rattle.easybook.proofs.Programs.{of_all}
use Rattle.easybook.proofs.Sessions.{keeps}

-- a buffer of 8192 bytes that holds none has left what the reader behind it has left
pub fresh : {T A : Type 0} (remaining : T → Option (List ℕ)) (r : BufReader T A) (inner : T) → reader_inner r ≡ inner → reader_buffer r ≡ [] → reader_capacity r ≡ 8192 → reader_remaining remaining r ≡ remaining inner
fresh remaining r inner is empty capacity =
    let test : eqb (reader_capacity r) 0 ≡ false = ne_eqb (reader_capacity r) 0 (λ none. omega (arith, none, capacity)) in
    rw (test, empty) (prepend_known-nil (remaining (reader_inner r)) ∙ ap remaining is)

-- a conversation from the book of a log on, with the log's comments, is one that was held on the log
pub held : {X : Type 0} (A : Type 0) (log : List ℕ) (procs : Option ℕ) (spacing : ℕ) (comments shown : List (List ℕ)) (book : BookView) (known heard left old new : Option (List ℕ)) (result : Result X LiveFault)
    → IsBookOf log procs spacing comments book → shown ≡ comments → heard ≡ known → Talks A shown (record { machine = machine_of book; seen = 0 }) heard left old new result → IsHeld A log procs known old new result
held A log procs spacing comments shown book known heard left old new result b same is t =
    let over : Talks A comments (record { machine = machine_of book; seen = 0 }) heard left old new result = subst (λ (cs : List (List ℕ)). Talks A cs (record { machine = machine_of book; seen = 0 }) heard left old new result) same t in
    let of_known : Talks A comments (record { machine = machine_of book; seen = 0 }) known left old new result = subst (λ (k : Option (List ℕ)). Talks A comments (record { machine = machine_of book; seen = 0 }) k left old new result) is over in
    record {
      comments = comments;
      table = b.table;
      scenarios = b.scenarios;
      is_opened = b.is_opened;
      left = left;
      talks = subst (λ (m : Machine). Talks A comments (record { machine = m; seen = 0 }) known left old new result) b.begins of_known;
    }

-- where a conversation that was held ended before its input did, the program's fault for that is a result for the conversation
pub ended_so : {X : Type 0} (A : Type 0) (log : List ℕ) (procs : Option ℕ) (known old new : Option (List ℕ)) (fault : LiveFault) (outcome : Result X ProgramFault) → outcome ≡ Err (fault_of_talk fault) → IsHeld {X = X} A log procs known old new (Err fault) → RunsLive A log procs known old new outcome
ended_so {X} A log procs known old new fault outcome is h = subst (λ (r : Result X ProgramFault). RunsLive A log procs known old new r) (sym is) (go fault h) where
  go : (f : LiveFault) → IsHeld {X = X} A log procs known old new (Err f) → RunsLive {X = X} A log procs known old new (Err (fault_of_talk f))
  go live.Read h = h
  go live.Write h = h
  go live.Memory h = (tt, h.talks.1)

-- out of memory, with nothing written, is a result for any conversation on a log
pub no_capacity : {X : Type 0} (A : Type 0) (log : List ℕ) (procs : Option ℕ) (known old : Option (List ℕ)) (outcome : Result X ProgramFault) → outcome ≡ Err faults.Memory → RunsLive A log procs known old old outcome
no_capacity {X} A log procs known old outcome is =
    let short : RunsLive {X = X} A log procs known old old (Err faults.Memory) = (tt, keeps old) in
    subst (λ (r : Result X ProgramFault). RunsLive A log procs known old old r) (sym is) short

past : {X : Type 0} (A : Type 0) (front all : List ℕ) (procs : Option ℕ) (known old new : Option (List ℕ)) (result : Result X ProgramFault) → log_limit < length front → log_limit < length all → RunsLive A front procs known old new result → RunsLive A all procs known old new result
past A front all procs known old new (Ok x) many more h = let within = h.is_opened.within in absurd (omega arith)
past A front all procs known old new (Err faults.Write) many more h = let within = h.is_opened.within in absurd (omega arith)
past A front all procs known old new (Err faults.Read) many more h = let within = h.is_opened.within in absurd (omega arith)
past A front all procs known old new (Err faults.TooLong) many more h = (more, h.1)
past A front all procs known old new (Err (faults.Log f)) many more h = let within = h.0.0 in absurd (omega arith)
past A front all procs known old new (Err faults.NoMachine) many more h = let within = h.0.within in absurd (omega arith)
past A front all procs known old new (Err faults.BadMachine) many more h = let within = h.0.within in absurd (omega arith)
past A front all procs known old new (Err faults.Memory) many more h = h
past A front all procs known old new (Err (faults.Close f)) many more h = absurd (h.0)

of_log : {X : Type 0} (A : Type 0) (procs : Option ℕ) (known old new : Option (List ℕ)) (result : Result X ProgramFault) (front all : List ℕ) → front ≡ take (log_limit + 1) all → RunsLive A front procs known old new result → RunsLive A all procs known old new result
of_log A procs known old new result front all is h = elim (cases_lt log_limit (length front)) [
  | inl many ↦ past A front all procs known old new result many (more_of_front all front log_limit is many) h
  | inr few ↦ subst (λ (log : List ℕ). RunsLive A log procs known old new result) (all_of_front all front log_limit is few) h
]

-- a result for a conversation on a log's bytes up to one past its limit is one for a conversation on the log in the file
pub talk_ends : {X : Type 0} (A : Type 0) (file : Option (List ℕ)) (procs : Option ℕ) (known old new : Option (List ℕ)) (log : List ℕ) (result : Result X ProgramFault) → IfSome file (λ all. log ≡ take (log_limit + 1) all) → RunsLive A log procs known old new result → EndsOnTalk A file procs known old new result
talk_ends {X} A file procs known old new log (Ok x) is h = of_all file log (λ l. RunsLive A l procs known old new (Ok x)) (λ all. of_log A procs known old new (Ok x) log all) is h
talk_ends {X} A file procs known old new log (Err faults.Read) is h = inr (of_all file log (λ l. RunsLive {X = X} A l procs known old new (Err faults.Read)) (λ all. of_log {X = X} A procs known old new (Err faults.Read) log all) is h)
talk_ends {X} A file procs known old new log (Err faults.Memory) is h = h.1
talk_ends {X} A file procs known old new log (Err faults.Write) is h = of_all file log (λ l. RunsLive {X = X} A l procs known old new (Err faults.Write)) (λ all. of_log {X = X} A procs known old new (Err faults.Write) log all) is h
talk_ends {X} A file procs known old new log (Err faults.TooLong) is h = of_all file log (λ l. RunsLive {X = X} A l procs known old new (Err faults.TooLong)) (λ all. of_log {X = X} A procs known old new (Err faults.TooLong) log all) is h
talk_ends {X} A file procs known old new log (Err (faults.Log f)) is h = of_all file log (λ l. RunsLive {X = X} A l procs known old new (Err (faults.Log f))) (λ all. of_log {X = X} A procs known old new (Err (faults.Log f)) log all) is h
talk_ends {X} A file procs known old new log (Err faults.NoMachine) is h = of_all file log (λ l. RunsLive {X = X} A l procs known old new (Err faults.NoMachine)) (λ all. of_log {X = X} A procs known old new (Err faults.NoMachine) log all) is h
talk_ends {X} A file procs known old new log (Err faults.BadMachine) is h = of_all file log (λ l. RunsLive {X = X} A l procs known old new (Err faults.BadMachine)) (λ all. of_log {X = X} A procs known old new (Err faults.BadMachine) log all) is h
talk_ends {X} A file procs known old new log (Err (faults.Close f)) is h = of_all file log (λ l. RunsLive {X = X} A l procs known old new (Err (faults.Close f))) (λ all. of_log {X = X} A procs known old new (Err (faults.Close f)) log all) is h

of_source : (file named : Option (List ℕ)) (P : List ℕ → Type 0) → IfSome named (λ bytes. file ≡ Some bytes) → OfAll file P → OfAll named P
of_source file None P is o = (o.0, tt, o.2)
of_source file (Some bytes) P is o = (o.0, subst (λ (f : Option (List ℕ)). IfSome f (λ b. o.0 ≡ b)) is o.1, o.2)

-- a result for a conversation on a source that was opened is one for a conversation on the bytes that are known under its name
pub talk_from : {X : Type 0} (A : Type 0) (file named : Option (List ℕ)) (procs : Option ℕ) (known old new : Option (List ℕ)) (result : Result X ProgramFault) → IfSome named (λ bytes. file ≡ Some bytes) → EndsOnTalk A file procs known old new result → EndsOnTalk A named procs known old new result
talk_from {X} A file named procs known old new (Ok x) is h = of_source file named (λ l. RunsLive A l procs known old new (Ok x)) is h
talk_from {X} A file named procs known old new (Err faults.Read) is h = elim h [
  | inl kept ↦ inl kept
  | inr o ↦ inr (of_source file named (λ l. RunsLive {X = X} A l procs known old new (Err faults.Read)) is o)
]
talk_from {X} A file named procs known old new (Err faults.Memory) is h = h
talk_from {X} A file named procs known old new (Err faults.Write) is h = of_source file named (λ l. RunsLive {X = X} A l procs known old new (Err faults.Write)) is h
talk_from {X} A file named procs known old new (Err faults.TooLong) is h = of_source file named (λ l. RunsLive {X = X} A l procs known old new (Err faults.TooLong)) is h
talk_from {X} A file named procs known old new (Err (faults.Log f)) is h = of_source file named (λ l. RunsLive {X = X} A l procs known old new (Err (faults.Log f))) is h
talk_from {X} A file named procs known old new (Err faults.NoMachine) is h = of_source file named (λ l. RunsLive {X = X} A l procs known old new (Err faults.NoMachine)) is h
talk_from {X} A file named procs known old new (Err faults.BadMachine) is h = of_source file named (λ l. RunsLive {X = X} A l procs known old new (Err faults.BadMachine)) is h
talk_from {X} A file named procs known old new (Err (faults.Close f)) is h = of_source file named (λ l. RunsLive {X = X} A l procs known old new (Err (faults.Close f))) is h

-- a fault of a log that is not opened, with nothing written, is a result for a conversation on it
pub refused : {X : Type 0} (A : Type 0) (log : List ℕ) (procs : Option ℕ) (known old : Option (List ℕ)) (fault : ProgramFault) (outcome : Result X ProgramFault) → outcome ≡ Err fault → IsFaultOf log procs fault → RunsLive A log procs known old old outcome
refused {X} A log procs known old fault outcome is h = subst (λ (r : Result X ProgramFault). RunsLive A log procs known old old r) (sym is) (go fault h) where
  go : (f : ProgramFault) → IsFaultOf log procs f → RunsLive {X = X} A log procs known old old (Err f)
  go faults.TooLong h = (h, keeps old)
  go faults.Read h = absurd h
  go faults.Write h = absurd h
  go faults.Memory h = (tt, keeps old)
  go (faults.Log f) h = (h, keeps old)
  go (faults.Close f) h = absurd h
  go faults.NoMachine h = (h, keeps old)
  go faults.BadMachine h = (h, keeps old)
