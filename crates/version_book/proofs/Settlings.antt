-- The work of what is due, task after task: what a claim finds, how the ticket of a claim ends, and where the work ends.
use Rattle.std.proofs.Common.{◌≡◌, ℕ, ◌+◌, ◌<◌, ◌==◌, List, [], ◌∷◌, ◌++◌, refl, sym, ◌∙◌, ap, subst, Bool, true, false, cond, inl, inr, ◌⊎◌, arith}
use Rattle.std.specs.Prelude.{Option, None, Some, Ok, find, is_some}
use Rattle.std.specs.Option.{option_map}
use Rattle.book_machine.specs.declared.caller.Caller.{Caller}
use Rattle.version_book.specs.Answers.{claim_answer}
use Rattle.version_book.specs.Steps.{Answers as Answered}
use Rattle.book_machine.specs.Call.{Claim}
use Rattle.book_machine.specs.Machine.{Machine, Progress, version, due, are_all_out, is_due, after, note_limit}
use Rattle.checkpoints.specs.RunView.{RunView}
use Rattle.tasks.specs.Tasks.{TaskView, ticket_for}
use Rattle.tasks.specs.Tickets.{HasThoseOf, TicketView}
use Rattle.version_book.specs.Book.{BookView, StateView, ShownView, machine_of, progress_of_shown}
use Rattle.version_book.specs.Tasks.{Fits, IsOut, due_shown, free_due, task_for}
use Rattle.version_book.proofs.Lists.{find-map}
use Rattle.version_book.specs.declared.settling.Turn.{Turn}
use Rattle.version_book.specs.declared.settling.Turn.TheVariants as turn
use Rattle.version_book.specs.Settling.{Ended, Published, GivenUp, after_task, AreWorked, CanClaim, Halts, IsAtRest, IsTurn, IsUnnoted, IsWorked, MayEnd, Settles, TicketEnds}

pub due-of : (b : BookView) → due (machine_of b) ≡ option_map progress_of_shown (due_shown b.state)
due-of b = find-map progress_of_shown (is_due (machine_of b)) b.state.shown

abbrev free : Bool → Option ShownView → Option ℕ
free out o = cond out None (option_map (λ (x : ShownView). x.id) o)

rests : (out : Bool) (o : Option ShownView) → free out o ≡ None → (out ≡ true) ⊎ (o ≡ None)
rests true o is = inl refl
rests false None is = inr refl
rests false (Some x) is = cc

-- where no scenario is due, or as many tickets stand as may, nothing is left to claim
pub at-rest : (b : BookView) → free_due b.state ≡ None → IsAtRest (machine_of b)
at-rest b is = elim (rests (are_all_out (machine_of b)) (due_shown b.state) is) [
  | inl out ↦ inr out
  | inr none ↦ inl (due-of b ∙ ap (option_map progress_of_shown) none)
]

goes : (out : Bool) (o : Option ShownView) → is_some (free out o) ≡ true → (out ≡ false) × ((x : ShownView) × (o ≡ Some x))
goes true o is = cc
goes false None is = cc
goes false (Some x) is = (refl, (x, refl))

pub record IsFree (b : BookView) : Type 0 where
  pub tickets : are_all_out (machine_of b) ≡ false
  pub scenario : ShownView
  pub shown : due_shown b.state ≡ Some scenario
  pub due : due (machine_of b) ≡ Some (progress_of_shown scenario)

pub is-free : (b : BookView) → is_some (free_due b.state) ≡ true → IsFree b
is-free b is =
    let h = goes (are_all_out (machine_of b)) (due_shown b.state) is in
    record { tickets = h.0; scenario = h.1.0; shown = h.1.1; due = due-of b ∙ ap (option_map progress_of_shown) h.1.1 }

pub can-claim : (b : BookView) → is_some (free_due b.state) ≡ true → CanClaim (machine_of b)
can-claim b is = let h = is-free b is in record { some_due = ap is_some h.due; free = h.tickets }

-- a run of the task's log and scenario fits its ticket
pub fits-out : (s : StateView) (t : TaskView) (n : ℕ) (run : RunView) → IsOut s t → n ≡ t.ticket → run.log ≡ t.log → run.scenario ≡ t.scenario → Fits s n run
fits-out s t n run out is log scenario =
    let found : find (λ (it : TicketView). it.number == n) s.tickets ≡ Some (ticket_for t) = ap (λ (k : ℕ). find (λ (it : TicketView). it.number == k) s.tickets) is ∙ out in
    subst (λ (o : Option TicketView). HasThoseOf o run) (sym found) (log, scenario)

abbrev claimed_by : Machine → Option Progress → Machine
claimed_by m o = elim o [
  | None ↦ m
  | Some p ↦ cond (are_all_out m) m (record m { tickets = m.tickets ++ record { number = m.next_ticket; id = p.id; version = version m } ∷ []; next_ticket = m.next_ticket + 1 })
]

kept : (b : Bool) (m k : Machine) → k.notes ≡ m.notes → (cond b m k).notes ≡ m.notes
kept true m k is = refl
kept false m k is = is

-- what a claim changes, before it is noted itself, leaves the number of notes as it was
pub claim-notes : (m : Machine) (o : Option Progress) → (claimed_by m o).notes ≡ m.notes
claim-notes m None = refl
claim-notes m (Some p) = kept (are_all_out m) m (record m { tickets = m.tickets ++ record { number = m.next_ticket; id = p.id; version = version m } ∷ []; next_ticket = m.next_ticket + 1 }) refl

ticket-of : (s : StateView) (t : TaskView) (o : Option ShownView) → Some t ≡ option_map (task_for s) o → t.ticket ≡ s.next_ticket
ticket-of s t None is = cc
ticket-of s t (Some x) is = let same : t ≡ task_for s x = cc in ap (λ (k : TaskView). k.ticket) same

claimed-ends : (short : Bool) (old mid new : Machine) (ended : Ended) (ticket : ℕ) → CanClaim old → MayEnd short ended → ticket ≡ old.next_ticket → mid ≡ after Claim old → (mid.notes < note_limit) × (new ≡ after_task ticket ended mid) → IsWorked short old ended new
claimed-ends short old mid new ended ticket claims cause is mid_is ends = record {
  claims = claims;
  capacity = omega (arith, claim-notes old (due old), ap (λ (m : Machine). m.notes) mid_is, ends.0);
  cause = cause;
  made = ends.1 ∙ ap (after_task ticket ended) mid_is ∙ ap (λ (t : ℕ). after_task t ended (after Claim old)) is;
}

claimed-stands : (short : Bool) (old mid new : Machine) → CanClaim old → old.notes < note_limit → mid ≡ after Claim old → IsUnnoted short mid → new ≡ mid → Halts short old new
claimed-stands short old mid new claims capacity mid_is unnoted is = inr (inr (claims, capacity, subst (IsUnnoted short) mid_is unnoted, is ∙ mid_is))

-- a turn, by how the claimed ticket ended
pub turn-of : (old mid : BookView) (who : Caller) (task : TaskView) (r : Turn) (new : Machine) → is_some (free_due old.state) ≡ true → Answered old mid who Claim (claim_answer (Ok (Some task))) → Some task ≡ option_map (task_for old.state) (due_shown old.state) → TicketEnds r task.ticket (machine_of mid) new → IsTurn r (machine_of old) new
turn-of old mid who task turn.Worked new may h is ends =
    claimed-ends false (machine_of old) (machine_of mid) new Published task.ticket (can-claim old may) tt (ticket-of old.state task (due_shown old.state) is) h.2 ends
turn-of old mid who task turn.GivenUp new may h is ends =
    claimed-ends true (machine_of old) (machine_of mid) new GivenUp task.ticket (can-claim old may) refl (ticket-of old.state task (due_shown old.state) is) h.2 ends
turn-of old mid who task turn.Ended new may h is ends =
    claimed-stands false (machine_of old) (machine_of mid) new (can-claim old may) h.0 h.2 (inl ends.0) ends.1
turn-of old mid who task turn.Short new may h is ends =
    claimed-stands true (machine_of old) (machine_of mid) new (can-claim old may) h.0 h.2 (inr refl) ends

-- an option found to be without a value is None
pub is-none : {X : Type 0} (o : Option X) → is_some o ≡ false → o ≡ None
is-none None is = refl
is-none (Some x) is = cc

-- so far, ticket after ticket was worked
abbrev pub HaveWorked : Bool → Machine → Machine → Type 0
HaveWorked short old now = (ends : List Ended) × AreWorked short old ends now

worked-short : (short : Bool) (old new : Machine) (ended : Ended) → IsWorked short old ended new → IsWorked true old ended new
worked-short short old new Published one = record { claims = one.claims; capacity = one.capacity; cause = tt; made = one.made }
worked-short short old new GivenUp one = record { claims = one.claims; capacity = one.capacity; cause = refl; made = one.made }

pub are-short : (short : Bool) (old new : Machine) (ends : List Ended) → AreWorked short old ends new → AreWorked true old ends new
are-short short old new [] h = h
are-short short old new (ended ∷ ends) h = (h.0, worked-short short old h.0 ended h.1, are-short short h.0 new ends h.2)

one-more : (short : Bool) (old mid new : Machine) (ends : List Ended) (ended : Ended) → AreWorked short old ends mid → IsWorked short mid ended new → AreWorked short old (ends ++ ended ∷ []) new
one-more short old mid new [] ended h one = (new, subst (λ (m : Machine). IsWorked short m ended new) h one, refl)
one-more short old mid new (e ∷ ends) ended h one = (h.0, h.1, one-more short h.0 mid new ends ended h.2 one)

-- where ticket after ticket was worked, one more was, if its run was published
pub published-more : (short : Bool) (old mid new : Machine) → HaveWorked short old mid → IsWorked false mid Published new → HaveWorked short old new
published-more short old mid new h one =
    (h.0 ++ Published ∷ [], one-more short old mid new h.0 Published h.1 (record { claims = one.claims; capacity = one.capacity; cause = tt; made = one.made }))

-- where ticket after ticket was worked, one more was, if it was given up, which is for lack of memory
pub given_up-more : (short : Bool) (old mid new : Machine) → HaveWorked short old mid → IsWorked true mid GivenUp new → HaveWorked true old new
given_up-more short old mid new h one = (h.0 ++ GivenUp ∷ [], one-more true old mid new h.0 GivenUp (are-short short old mid h.0 h.1) one)

unnoted : (short : Bool) (m : Machine) → IsUnnoted false m → IsUnnoted short m
unnoted short m (inl full) = inl full
unnoted short m (inr none) = cc

halted : (short : Bool) (old new : Machine) → Halts false old new → Halts short old new
halted short old new (inl rest) = inl rest
halted short old new (inr (inl h)) = inr (inl (h.0, unnoted short old h.1, h.2))
halted short old new (inr (inr h)) = inr (inr (h.0, h.1, unnoted short (after Claim old) h.2, h.3))

-- ticket after ticket was worked, and the work ended for another reason than lack of memory
pub all-ended : (short : Bool) (old mid new : Machine) → HaveWorked short old mid → Halts false mid new → Settles short old new
all-ended short old mid new h last = (h.0, mid, h.1, halted short mid new last)

-- ticket after ticket was worked, and the work ended for lack of memory
pub all-short : (short : Bool) (old mid new : Machine) → HaveWorked short old mid → Halts true mid new → Settles true old new
all-short short old mid new h last = (h.0, mid, are-short short old mid h.0 h.1, last)

-- the work may end at once for lack of memory
pub stops : (m : Machine) → Settles true m m
stops m = go (due m) refl (are_all_out m) refl
  where
    go : (o : Option Progress) → due m ≡ o → (out : Bool) → are_all_out m ≡ out → Settles true m m
    go None none out is = ([], m, refl, inl (inl none, refl))
    go (Some p) some true is = ([], m, refl, inl (inr is, refl))
    go (Some p) some false is = ([], m, refl, inr (inl (record { some_due = ap is_some some; free = is }, inr refl, refl)))
