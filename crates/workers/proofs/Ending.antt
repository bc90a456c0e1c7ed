-- Where the history of a desk went on for a worker, and ended with it.
use Rattle.std.proofs.Common.{◌≡◌, true, ℕ, List, [], ◌∷◌, ◌++◌, refl, sym, ◌∙◌, ap, subst, append_assoc, append-nil}
use Rattle.std.specs.Prelude.{Some, IfErr, Result, Ok, Err}
use mathlib.Core.List.{IsPrefix}
use Rattle.book_machine.specs.declared.caller.Caller.{Caller}
use Rattle.book_machine.specs.Call.{BookCall, Claim}
use Rattle.book_machine.specs.Machine.{Machine, note_limit}
use Rattle.chronicle.specs.Events.{Happened, Called, state_after}
use Rattle.chronicle.specs.Fronts.{Seen}
use Rattle.tasks.specs.Tasks.{TaskView}
use Rattle.version_book.specs.Answers.{claim_answer, finish_answer, give_up_answer}
use Rattle.version_book.specs.Steps.{Answer, full, memory, outcome, note_of}
use Rattle.version_book.specs.declared.faults.FinishFault.{FinishFault}
use Rattle.version_book.specs.declared.faults.UnknownTicket.{UnknownTicket}
use Rattle.version_book.specs.declared.refusal.Refusal.{Refusal}
use Rattle.version_book.specs.declared.refusal.Refusal.TheVariants as why
use Rattle.workers.specs.History.{Calls, CalledAt, Leaves, MayEndAt, Stops, Works}
use Rattle.workers.specs.Settling.{has_stopped}
use Rattle.workers.specs.Work.{end_of}
use Rattle.workers.specs.declared.worker.WorkerEnd.{WorkerEnd}
use Rattle.workers.specs.declared.worker.WorkerEnd.TheVariants as ends
use Rattle.workers.proofs.Tying.{prefix_self}

abbrev pub end_at : Answer → Result (Unit {0}) WorkerEnd
end_at full = Err ends.Full
end_at memory = Err ends.Memory
end_at (outcome reply) = Ok tt

goes_beyond : {A : Type 0} (xs ys zs more : List A) → IsPrefix xs ys → zs ≡ ys ++ more → IsPrefix xs zs
goes_beyond {A} xs ys zs more p is = (p.0 ++ more, sym (append_assoc xs p.0 more) ∙ (ap (λ (l : List A). l ++ more) p.1 ∙ sym is))

ended_at : (opening : Machine) (old : Seen) (before after : List Happened) (who : Caller) (call : BookCall) (answer : Answer)
    → IsPrefix old.events before → CalledAt opening before who call answer after → IsPrefix old.events after × IfErr (end_at answer) (MayEndAt opening after)
ended_at opening old before after who call full p at =
    (goes_beyond old.events before after [] p (at.1 ∙ sym (append-nil before)), subst (λ (es : List Happened). (state_after opening es).notes ≡ note_limit) (sym at.1) at.0)
ended_at opening old before after who call memory p at = (goes_beyond old.events before after [] p (at ∙ sym (append-nil before)), tt)
ended_at opening old before after who call (outcome reply) p at = (goes_beyond old.events before after (Called (note_of who call reply) ∷ []) p at.2, tt)

-- where the history went on and then a call was made, the worker goes on, or ends by the answer
pub works_called : (opening : Machine) (old : Seen) (who : Caller) (call : BookCall) (answer : Answer) (new : Seen) (end : Result (Unit {0}) WorkerEnd)
    → Calls opening old who call answer new → end ≡ end_at answer → Works opening old end new
works_called opening old who call answer new end calls is = λ kept.
    let c = calls kept in
    let e = ended_at opening old c.1.0 new.events who call answer c.1.1 c.1.2 in
    (c.0, e.0, subst (λ (o : Result (Unit {0}) WorkerEnd). IfErr o (MayEndAt opening new.events)) (sym is) e.1)

-- a hand-in ends the worker as its answer does
pub finish_ends : (answer : Result ℕ (Refusal FinishFault)) → end_of answer ≡ end_at (finish_answer answer)
finish_ends (Ok v) = refl
finish_ends (Err why.JournalFull) = refl
finish_ends (Err (why.Fault fault)) = refl
finish_ends (Err why.Memory) = refl

-- a give-up ends the worker as its answer does
pub give_up_ends : (answer : Result (Unit {0}) (Refusal UnknownTicket)) → end_of answer ≡ end_at (give_up_answer answer)
give_up_ends (Ok u) = refl
give_up_ends (Err why.JournalFull) = refl
give_up_ends (Err (why.Fault fault)) = refl
give_up_ends (Err why.Memory) = refl

-- out of memory before the lock leaves the front as it was
pub works_nothing : (opening : Machine) (front : Seen) → Works opening front (Err ends.Memory) front
works_nothing opening front = λ kept. (kept, prefix_self front.events, tt)

-- a front that was left as it was has gone on
pub works_same : (opening : Machine) (front : Seen) → Works opening front (Ok tt) front
works_same opening front = λ kept. (kept, prefix_self front.events, tt)

-- the history went on, and then went on once more
pub works_on : (opening : Machine) (old mid new : Seen) (end : Result (Unit {0}) WorkerEnd) → Works opening old (Ok tt) mid → Works opening mid end new → Works opening old end new
works_on opening old mid new end first second = λ kept.
    let two = second kept in
    let one = first two.0 in
    (one.0, goes_beyond old.events mid.events new.events two.1.0 one.1 (sym two.1.1), two.2)

-- where a task was claimed and then handed in or given up, the history went on, and the worker ends as by that
pub works_round : (opening : Machine) (old mid new : Seen) (who : Caller) (task : TaskView) (end : Result (Unit {0}) WorkerEnd)
    → Calls opening old who Claim (claim_answer (Ok (Some task))) mid → Works opening mid end new → Works opening old end new
works_round opening old mid new who task end claims works =
    works_on opening old mid new end (works_called opening old who Claim (claim_answer (Ok (Some task))) mid (Ok tt) claims refl) works

-- a worker that ended at a stop has left
pub leaves_stopped : (opening : Machine) (old new : Seen) → Works opening old (Err ends.Stopped) new → Leaves opening old ends.Stopped new
leaves_stopped opening old new works = (λ kept. let w = works kept in (w.0, w.1, w.2), λ kept. let w = works kept in (new.events, w.1, w.2, prefix_self new.events))

-- a worker that ended has left once it has stopped the desk
pub leaves : (opening : Machine) (old mid new : Seen) (end : WorkerEnd) → Works opening old (Err end) mid → Stops mid new → Leaves opening old end new
leaves opening old mid new end works stops =
    let both : new.kept ≡ true → (old.kept ≡ true) × IsPrefix old.events mid.events × MayEndAt opening mid.events end × IsPrefix mid.events new.events × (has_stopped new.events ≡ true) =
    λ kept. let s = stops kept in let w = works s.0 in (w.0, w.1, w.2, s.1, s.2) in
    (λ kept. let b = both kept in (b.0, goes_beyond old.events mid.events new.events b.3.0 b.1 (sym b.3.1), b.4), λ kept. let b = both kept in (mid.events, b.1, b.2, b.3))
