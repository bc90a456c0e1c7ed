-- How a worker's list goes on in a round. It works through with claims, each of a ticket that is then finished or given up, unless the worker
-- ends at a full journal or out of memory: then it works on, and the last ticket may be left.
use Rattle.std.proofs.Common.{◌≡◌, ◌==◌, ℕ, List, [], ◌∷◌, ◌++◌, refl, sym, ◌∙◌, ap, append_assoc, append-nil, arith, subst, inl, inr}
use Rattle.std.specs.Prelude.{Option, None, Some, Result, Ok, Err, IfOk, Bool, true, false}
use Rattle.std.proofs.lemmas.Bool.Decides.{nat_tests}
use Rattle.book_machine.specs.Call.{BookCall, Claim, Finish, GiveUp}
use Rattle.book_machine.specs.declared.reply.Reply.{Reply}
use Rattle.book_machine.specs.declared.reply.Reply.TheVariants as reply
use Rattle.checkpoints.specs.RunView.{RunView}
use Rattle.version_book.specs.Answers.{finish_answer, fitted, give_up_answer}
use Rattle.version_book.specs.declared.faults.FinishFault.{FinishFault}
use Rattle.version_book.specs.declared.faults.FinishFault.TheVariants as finish
use Rattle.version_book.specs.declared.faults.UnknownTicket.{UnknownTicket}
use Rattle.version_book.specs.declared.refusal.Refusal.{Refusal}
use Rattle.version_book.specs.declared.refusal.Refusal.TheVariants as why
use Rattle.workers.specs.declared.worker.WorkerEnd.{WorkerEnd}
use Rattle.workers.specs.declared.worker.WorkerEnd.TheVariants as ends
use Rattle.workers.specs.Lists.{ListedView, listed_view, Gains}
use Rattle.workers.specs.Work.{HandsIn, HandsInWhat, held_after, held_after_call, HandsInOnce, WorksOn, WorksThrough, end_of}

-- a list that stays works through
pub through_stays : (old new : List ListedView) → new ≡ old → WorksThrough old new
through_stays old new is = ([], is ∙ sym (append-nil old), refl)

pub on_through : (old new : List ListedView) → WorksThrough old new → WorksOn old new
on_through old new h = (h.0, None, h.1, h.2)

-- a list that stays works on
pub on_stays : (old new : List ListedView) → new ≡ old → WorksOn old new
on_stays old new is = on_through old new (through_stays old new is)

held_after-append : (xs ys : List ListedView) (h k : Option ℕ) → held_after h xs ≡ Some k → held_after h (xs ++ ys) ≡ held_after k ys
held_after-append [] ys h k is = let e : h ≡ k = cc in ap (λ (q : Option ℕ). held_after q ys) e
held_after-append (x ∷ xs) ys h k is =
    (elim (held_after_call h x.call x.reply) as (λ (o : Option (Option ℕ)). (elim o [ None ↦ None | Some q ↦ held_after q xs ]) ≡ Some k → (elim o [ None ↦ None | Some q ↦ held_after q (xs ++ ys) ]) ≡ held_after k ys) [
      | None ↦ (λ e. cc)
      | Some q ↦ held_after-append xs ys q k
    ]) is

-- a list that works through and then works on, works on in all
pub on_after_through : (a b d : List ListedView) → WorksThrough a b → WorksOn b d → WorksOn a d
on_after_through a b d h g =
    (h.0 ++ g.0, g.1, g.2 ∙ (ap (λ (xs : List ListedView). xs ++ g.0) h.1 ∙ append_assoc a h.0 g.0), held_after-append h.0 g.0 None None h.2 ∙ g.3)

-- a list that works through and then works through again, does so in all
pub through_after_through : (a b d : List ListedView) → WorksThrough a b → WorksThrough b d → WorksThrough a d
through_after_through a b d h g =
    (h.0 ++ g.0, g.1 ∙ (ap (λ (xs : List ListedView). xs ++ g.0) h.1 ∙ append_assoc a h.0 g.0), held_after-append h.0 g.0 None None h.2 ∙ g.2)

abbrev Held : List ListedView → List ListedView → ℕ → Type 0
Held old mid t = (added : List ListedView) × (mid ≡ old ++ added) × (held_after None added ≡ Some (Some t))

pub held_claimed : (old mid : List ListedView) (t id v : ℕ) (base : Option ℕ) → mid ≡ old ++ listed_view Claim (reply.Claimed t id v base) ∷ [] → Held old mid t
held_claimed old mid t id v base is = (listed_view Claim (reply.Claimed t id v base) ∷ [], is, refl)

on_held : (old mid new : List ListedView) (t : ℕ) → Held old mid t → new ≡ mid → WorksOn old new
on_held old mid new t h is = (h.0, Some t, is ∙ h.1, h.2)

let_go : (t : ℕ) (r : Reply) (call : BookCall) → held_after_call (Some t) call r ≡ Some None → held_after (Some t) (listed_view call r ∷ []) ≡ Some None
let_go t r call is = ap (λ (o : Option (Option ℕ)). elim o [ None ↦ None | Some now ↦ held_after now [] ]) is

through_held : (old mid new : List ListedView) (t : ℕ) (call : BookCall) (r : Reply) → Held old mid t → held_after_call (Some t) call r ≡ Some None → new ≡ mid ++ listed_view call r ∷ [] → WorksThrough old new
through_held old mid new t call r h lets is =
    let e : List ListedView = listed_view call r ∷ [] in
    (h.0 ++ e, is ∙ (ap (λ (xs : List ListedView). xs ++ e) h.1 ∙ append_assoc old h.0 e), held_after-append h.0 e None (Some t) h.2 ∙ let_go t r call lets)

abbrev ending : WorkerEnd → Result (Unit {0}) WorkerEnd
ending end = Err end

abbrev pub GoesOn : List ListedView → List ListedView → Result (Unit {0}) WorkerEnd → Type 0
GoesOn old new end = WorksOn old new × IfOk end (λ _. WorksThrough old new) × (end ≡ Err ends.Stopped → WorksThrough old new)

goes_through : (old new : List ListedView) (end : Result (Unit {0}) WorkerEnd) → end ≡ Ok tt → WorksThrough old new → GoesOn old new end
goes_through old new end is h = (on_through old new h, rw is h, λ e. h)

goes_out : (old new : List ListedView) (end : Result (Unit {0}) WorkerEnd) (w : WorkerEnd) → end ≡ Err w → (ending w ≡ ending ends.Stopped → ⊥) → WorksOn old new → GoesOn old new end
goes_out old new end w is other h = (h, rw is tt, λ e. absurd (other (sym is ∙ e)))

same_ticket : (t : ℕ) → (t == t) ≡ true
same_ticket t = grind (arith, nat_tests)

finish_lets : (t : ℕ) (fits : Bool) (r : Reply) → held_after_call (Some t) (Finish t fits) r ≡ Some None
finish_lets t fits r = rw (same_ticket t) refl

give_up_lets : (t : ℕ) (r : Reply) → held_after_call (Some t) (GiveUp t) r ≡ Some None
give_up_lets t r = rw (same_ticket t) refl

through_finish : (old mid new : List ListedView) (t : ℕ) (fits : Bool) (r : Reply) → Held old mid t → new ≡ mid ++ listed_view (Finish t fits) r ∷ [] → WorksThrough old new
through_finish old mid new t fits r h is = through_held old mid new t (Finish t fits) r h (finish_lets t fits r) is

through_give_up : (old mid new : List ListedView) (t : ℕ) (r : Reply) → Held old mid t → new ≡ mid ++ listed_view (GiveUp t) r ∷ [] → WorksThrough old new
through_give_up old mid new t r h is = through_held old mid new t (GiveUp t) r h (give_up_lets t r) is

finished : (old mid new : List ListedView) (t : ℕ) (end : Result (Unit {0}) WorkerEnd) → Held old mid t → (answer : Result ℕ (Refusal FinishFault)) → Gains mid new (Finish t (fitted answer)) (finish_answer answer) → end ≡ end_of answer → GoesOn old new end
finished old mid new t end h (Ok v) g is = goes_through old new end is (through_finish old mid new t true (reply.Finished v) h g)
finished old mid new t end h (Err why.JournalFull) g is = goes_out old new end _ is (λ e. cc) (on_held old mid new t h g)
finished old mid new t end h (Err (why.Fault finish.UnknownTicket)) g is = goes_through old new end is (through_finish old mid new t false reply.UnknownTicket h g)
finished old mid new t end h (Err (why.Fault finish.Stranger)) g is = goes_through old new end is (through_finish old mid new t false reply.Stranger h g)
finished old mid new t end h (Err (why.Fault (finish.Stale p))) g is = goes_through old new end is (through_finish old mid new t true (reply.Stale p) h g)
finished old mid new t end h (Err why.Memory) g is = goes_out old new end _ is (λ e. cc) (on_held old mid new t h g)

given_up : (old mid new : List ListedView) (t : ℕ) (end : Result (Unit {0}) WorkerEnd) → Held old mid t → (answer : Result (Unit {0}) (Refusal UnknownTicket)) → Gains mid new (GiveUp t) (give_up_answer answer) → end ≡ end_of answer → GoesOn old new end
given_up old mid new t end h (Ok u) g is = goes_through old new end is (through_give_up old mid new t reply.GivenUp h g)
given_up old mid new t end h (Err why.JournalFull) g is = goes_out old new end _ is (λ e. cc) (on_held old mid new t h g)
given_up old mid new t end h (Err (why.Fault fault)) g is = goes_through old new end is (through_give_up old mid new t reply.UnknownTicket h g)
given_up old mid new t end h (Err why.Memory) g is = goes_out old new end _ is (λ e. cc) (on_held old mid new t h g)

-- where a ticket was claimed and then handed in or given up, the list works on, and through where the worker does not end or ends at a stop
pub goes_on : (old mid new : List ListedView) (t id v : ℕ) (base : Option ℕ) (end : Result (Unit {0}) WorkerEnd) → mid ≡ old ++ listed_view Claim (reply.Claimed t id v base) ∷ [] → HandsInOnce t mid new end → GoesOn old new end
goes_on old mid new t id v base end is (inl f) = finished old mid new t end (held_claimed old mid t id v base is) f.0 f.1 f.2
goes_on old mid new t id v base end is (inr g) = given_up old mid new t end (held_claimed old mid t id v base is) g.0 g.1 g.2

handed_in : (t : ℕ) (made : Option RunView) (old new : List ListedView) (end : Result (Unit {0}) WorkerEnd) → HandsIn t made old new end → HandsInOnce t old new end
handed_in t (Some run) old new end h = inl h
handed_in t None old new end h = inr h

-- where what came of a task's work was handed in for its ticket, the ticket was handed in or given up
pub hands_in : (gives : Option RunView → Type 0) (t of : ℕ) (old new : List ListedView) (end : Result (Unit {0}) WorkerEnd) → t ≡ of → HandsInWhat gives t old new end → HandsInOnce of old new end
hands_in gives t of old new end is h = subst (λ (n : ℕ). HandsInOnce n old new end) is (handed_in t h.0 old new end h.2)
