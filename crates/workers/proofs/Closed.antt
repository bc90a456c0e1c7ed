-- What a closed desk says, by what speaks against closing.
use Rattle.std.proofs.Common.{◌≡◌, ◌∙◌, ℕ, Bool, List, drop, sym, ap, subst}
use Rattle.std.specs.Prelude.{Option}
use Rattle.book_machine.specs.History.{Noted}
use Rattle.book_machine.specs.Machine.{Machine}
use Rattle.chronicle.specs.Events.{IsLegalFrom}
use Rattle.chronicle.specs.Fronts.{Seen}
use Rattle.version_book.specs.Book.{BookView, machine_of}
use Rattle.workers.specs.Callers.{SessionView, WorkerView}
use Rattle.workers.specs.Closing.{AreAll, AreOpened, IsTheirs, IsAnswered, SpeaksAgainst, StandInOne}
use Rattle.workers.specs.declared.close_fault.CloseFault.{CloseFault}
use Rattle.workers.specs.Tied.{IsTied}
use Rattle.workers.proofs.Tying.{lain}

-- callers are all of those opened by one count exactly where they are by an equal count
pub opened_all : (sessions : List SessionView) (workers : List WorkerView) (m n m' n' : ℕ) → m ≡ m' → n ≡ n' → (AreAll m n sessions workers → AreAll m' n' sessions workers) × (AreAll m' n' sessions workers → AreAll m n sessions workers)
opened_all sessions workers m n m' n' s w = (
  (λ a. subst (λ (k : ℕ). AreAll m' k sessions workers) w (subst (λ (k : ℕ). AreAll k n sessions workers) s a)),
  (λ a. subst (λ (k : ℕ). AreAll m k sessions workers) (sym w) (subst (λ (k : ℕ). AreAll k n' sessions workers) (sym s) a)),
)

-- where the history is tied to the book and is the callers', their lists are the notes after the opening ones
pub outcome_in : (opening : Machine) (n : ℕ) (book : BookView) (all : Seen) (s w : ℕ) (stopped : Bool) (sessions : List SessionView) (workers : List WorkerView)
    → n ≡ opening.notes → IsTied opening (lain book all s w stopped) → IsTheirs all sessions workers → IsAnswered sessions workers (drop n book.journal)
outcome_in opening n book all s w stopped sessions workers at tied theirs =
    subst (λ (ns : List Noted). IsAnswered sessions workers ns) ((tied theirs.kept).notes ∙ ap (λ (k : ℕ). drop k book.journal) (sym at)) theirs.lists

-- where the history is tied to the book, legal and the callers', who are all that were opened in it, all callers stand in it, its calls are the
-- notes after the opening ones, and it leads to where the book stands
pub stand_in : (opening : Machine) (n : ℕ) (book : BookView) (all : Seen) (s w : ℕ) (stopped : Bool) (sessions : List SessionView) (workers : List WorkerView)
    → n ≡ opening.notes → IsTied opening (lain book all s w stopped) → IsLegalFrom opening all.events → AreOpened all sessions workers → IsTheirs all sessions workers → StandInOne opening sessions workers (drop n book.journal) (machine_of book)
stand_in opening n book all s w stopped sessions workers at tied legal opened theirs = record {
  events = all.events;
  legal = legal;
  calls = (tied theirs.kept).notes ∙ ap (λ (k : ℕ). drop k book.journal) (sym at);
  leads = (tied theirs.kept).machine;
  callers = opened theirs.kept;
  by_sessions = λ k d lt. let b = theirs.sessions_begin k d lt in (b.0, b.2);
  by_workers = λ k d lt. let b = theirs.workers_begin k d lt in (b.0, b.2);
}

-- what speaks against closing speaks against it with the same callers and the same fault
pub against : (all : Seen) (sessions sessions' : List SessionView) (workers workers' : List WorkerView) (found found' : Option CloseFault) → sessions ≡ sessions' → workers ≡ workers' → found ≡ found'
    → SpeaksAgainst (AreOpened all sessions workers) (IsTheirs all sessions workers) found → SpeaksAgainst (AreOpened all sessions' workers') (IsTheirs all sessions' workers') found'
against all sessions sessions' workers workers' found found' s w f speaks =
    subst (λ (o : Option CloseFault). SpeaksAgainst (AreOpened all sessions' workers') (IsTheirs all sessions' workers') o) f
    (subst (λ (ws : List WorkerView). SpeaksAgainst (AreOpened all sessions' ws) (IsTheirs all sessions' ws) found) w
    (subst (λ (ss : List SessionView). SpeaksAgainst (AreOpened all ss workers) (IsTheirs all ss workers) found) s speaks))
