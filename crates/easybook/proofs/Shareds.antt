-- What scripts side by side leave written, put together, and what the program does with it.
use Rattle.std.proofs.Common.{◌≡◌, ℕ, ◌<◌, Bool, List, [], ◌∷◌, length, take, Option, Some, Result, Ok, Err, inl, inr, sym, subst, arith}
use Rattle.std.specs.Io.KnownBytes.{Appends}
use Rattle.clap.specs.Walk.{Text}
use Rattle.book_machine.specs.Machine.{Machine}
use Rattle.version_book.specs.Book.{BookView, machine_of}
use Rattle.scripts.specs.Transcript.{begun}
use Rattle.easybook.specs.Along.{AreAnsweredAlong}
use Rattle.easybook.specs.Book.{IsBookOf}
use Rattle.easybook.specs.Program.{Ends, EndsOnScripts, EndsWith, Sources, log_known}
use Rattle.easybook.specs.Shared.{AreAnswered, AreWithin, IsSharedFault, RunsShared, headed}
use Rattle.easybook.specs.Words.{Choice, chosen}
use Rattle.easybook.specs.declared.fault.ProgramFault.{ProgramFault}
use Rattle.easybook.specs.declared.fault.ProgramFault.TheVariants as faults
use Rattle.easybook.specs.declared.stop.Stop.{Stop}
use Rattle.easybook.specs.declared.stop.Stop.TheVariants.{Fault}
use Rattle.easybook.specs.Plain.{IsFaultOf}
use Rattle.easybook.proofs.Sessions.{keeps}

answers_of : (A : Type 0) (log : List ℕ) (procs : Option ℕ) (spacing : ℕ) (held shown : List (List ℕ)) (book : BookView) (scripts texts : List (List ℕ)) → IsBookOf log procs spacing held book → shown ≡ held → AreAnsweredAlong A shown (machine_of book) scripts texts → AreAnswered A log procs scripts texts
answers_of A log procs spacing held shown book scripts texts b same along = record {
  comments = held;
  table = b.table;
  scenarios = b.scenarios;
  is_opened = b.is_opened;
  along = subst (λ (cs : List (List ℕ)). AreAnsweredAlong A cs (begun b.table b.scenarios.scenarios).machine scripts texts) same (subst (λ (m : Machine). AreAnsweredAlong A shown m scripts texts) b.begins along);
}

-- texts that answer scripts within their limit from a log's book on, all written, each behind its head line, are a result for the scripts
-- side by side
pub shared_written : {X : Type 0} (x : X) (A : Type 0) (log : List ℕ) (procs : Option ℕ) (spacing : ℕ) (held shown : List (List ℕ)) (book : BookView) (scripts texts : List (List ℕ)) (old new : Option (List ℕ)) → IsBookOf log procs spacing held book → shown ≡ held → AreWithin scripts → AreAnsweredAlong A shown (machine_of book) scripts texts → Appends old new (headed 1 texts) → RunsShared A log procs scripts old new (Ok x)
shared_written x A log procs spacing held shown book scripts texts old new b same within along wrote = (within, (texts, answers_of A log procs spacing held shown book scripts texts b same along, wrote))

-- where the writer failed, a beginning of texts that answer scripts within their limit from a log's book on is what was written of the
-- scripts side by side
pub shared_stopped : {X : Type 0} (outcome : Result X ProgramFault) (A : Type 0) (log : List ℕ) (procs : Option ℕ) (spacing : ℕ) (held shown : List (List ℕ)) (book : BookView) (scripts texts : List (List ℕ)) (old new : Option (List ℕ)) → outcome ≡ Err faults.Write → IsBookOf log procs spacing held book → shown ≡ held → AreWithin scripts → AreAnsweredAlong A shown (machine_of book) scripts texts → (n : ℕ) × Appends old new (take n (headed 1 texts)) → RunsShared A log procs scripts old new outcome
shared_stopped {X} outcome A log procs spacing held shown book scripts texts old new is b same within along wrote =
    let stopped : RunsShared {X = X} A log procs scripts old new (Err faults.Write) = (within, (texts, answers_of A log procs spacing held shown book scripts texts b same along, wrote)) in
    subst (λ (r : Result X ProgramFault). RunsShared A log procs scripts old new r) (sym is) stopped

-- where one of the scripts has too many bytes, that, with nothing written, is a result for scripts side by side
pub shared_long_script : (X A : Type 0) (log : List ℕ) (procs : Option ℕ) (scripts : List (List ℕ)) (old : Option (List ℕ)) → (AreWithin scripts → ⊥) → RunsShared {X = X} A log procs scripts old old (Err faults.TooLong)
shared_long_script X A log procs scripts old long = (inr long, keeps old)

-- a fault of a log that is not opened, with nothing written, is a result for scripts within their limit
pub shared_unopened : {X : Type 0} (outcome : Result X ProgramFault) (A : Type 0) (log : List ℕ) (procs : Option ℕ) (scripts : List (List ℕ)) (old : Option (List ℕ)) (fault : ProgramFault) → outcome ≡ Err fault → AreWithin scripts → IsFaultOf log procs fault → RunsShared A log procs scripts old old outcome
shared_unopened {X} outcome A log procs scripts old fault is within h = subst (λ (r : Result X ProgramFault). RunsShared A log procs scripts old old r) (sym is) (go fault h) where
  go : (f : ProgramFault) → IsFaultOf log procs f → RunsShared {X = X} A log procs scripts old old (Err f)
  go faults.TooLong h = (inl h, keeps old)
  go (faults.Log f) h = (within, h, keeps old)
  go faults.NoMachine h = (within, h, keeps old)
  go faults.BadMachine h = (within, h, keeps old)
  go faults.Memory h = keeps old
  go faults.Read h = absurd h
  go faults.Write h = absurd h
  go (faults.Close f) h = absurd h

-- why scripts side by side end without their texts, with nothing written, is a result for them
pub shared_failed : {X : Type 0} (outcome : Result X ProgramFault) (A : Type 0) (log : List ℕ) (procs : Option ℕ) (scripts : List (List ℕ)) (old : Option (List ℕ)) (fault : ProgramFault) → outcome ≡ Err fault → IsSharedFault fault → RunsShared A log procs scripts old old outcome
shared_failed {X} outcome A log procs scripts old fault is h = subst (λ (r : Result X ProgramFault). RunsShared A log procs scripts old old r) (sym is) (go fault h) where
  go : (f : ProgramFault) → IsSharedFault f → RunsShared {X = X} A log procs scripts old old (Err f)
  go (faults.Close f) h = keeps old
  go faults.Memory h = keeps old
  go faults.TooLong h = absurd h
  go (faults.Log f) h = absurd h
  go faults.NoMachine h = absurd h
  go faults.BadMachine h = absurd h
  go faults.Read h = absurd h
  go faults.Write h = absurd h

-- where scripts are named, a result for them side by side is one for what the words choose
pub ends_with : {X : Type 0} (sources : Sources) (scripts : List Text) (log : Option Text) (live : Bool) (procs : Option ℕ) (known old new : Option (List ℕ)) (result : Result X ProgramFault) → 0 < length scripts → EndsOnScripts sources scripts procs (log_known sources log known) old new result → EndsWith sources scripts log live procs known old new result
ends_with sources [] log live procs known old new result some h = absurd (omega (arith, some))
ends_with sources (s ∷ ss) log live procs known old new result some h = h

-- where words are taken and what they choose ends by a fault, the program ends by that fault
pub ends_so : {X : Type 0} (sources : Sources) (outcome : Result X Stop) (words : List Text) (choice : Choice) (fault : ProgramFault) (known old new : Option (List ℕ)) → outcome ≡ Err (Fault fault) → chosen words ≡ Some choice → EndsWith {X = X} sources choice.scripts choice.log choice.live choice.procs known old new (Err fault) → Ends sources words known old new outcome
ends_so {X} sources outcome words choice fault known old new is taken h =
    let stops : Ends {X = X} sources words known old new (Err (Fault fault)) = (choice, taken, h) in
    subst (λ (r : Result X Stop). Ends sources words known old new r) (sym is) stops
