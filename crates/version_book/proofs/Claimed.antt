-- A ticket that was just claimed stands.
use Rattle.std.proofs.Common.{◌≡◌, ℕ, ◌≤◌, List, [], ◌∷◌, ◌++◌, map, refl, sym, ◌∙◌, ap, subst, Bool, true, false, cond, arith}
use Rattle.std.specs.Prelude.{Option, None, Some, Result, Ok, Err, IfOk, IfSome, find}
use Rattle.std.specs.Option.{option_map}
use Rattle.std.specs.List.{AllByRecursion}
use Rattle.std.proofs.lemmas.Bool.{eq-eqb, ne_eqb}
use Rattle.book_machine.specs.Machine.{Machine, opened}
use Rattle.book_machine.specs.Sound.{IsClaim, IsSound as IsSoundMachine}
use Rattle.book_machine.proofs.Lemmas.{sound-opened, sound_after}
use Rattle.tasks.specs.Tasks.{TaskView, ticket_for}
use Rattle.tasks.specs.Tickets.{TicketView, has_number}
use Rattle.version_book.specs.declared.faults.TooManyTickets.{TooManyTickets}
use Rattle.version_book.specs.declared.refusal.Refusal.{Refusal}
use Rattle.version_book.specs.Book.{BookView, StateView, ShownView, ticket_of_view, machine_of}
use Rattle.version_book.specs.Sound.{IsBook}
use Rattle.version_book.specs.Tasks.{IsOut, due_shown, task_for}

none-from : (m : Machine) (n : ℕ) (ts : List TicketView) → AllByRecursion (IsClaim m) (map ticket_of_view ts) → m.next_ticket ≤ n → find (has_number n) ts ≡ None
none-from m n [] all le = refl
none-from m n (t ∷ ts) all le =
    ap (λ (b : Bool). cond b (Some t) (find (has_number n) ts)) (ne_eqb t.number n (λ e. omega (arith, all.0.number))) ∙ none-from m n ts all.1 le

machine-sound : (b : BookView) → IsBook b → IsSoundMachine (machine_of b)
machine-sound b h = subst IsSoundMachine h.led (sound_after (opened b.state.opening) b.journal (sound-opened b.state.opening) h.legal)

-- no standing ticket of a book has the next number
pub next-unused : (b : BookView) → IsBook b → find (has_number b.state.next_ticket) b.state.tickets ≡ None
next-unused b h = none-from (machine_of b) b.state.next_ticket b.state.tickets (machine-sound b h).tickets (omega arith)

last-here : (n : ℕ) (u t : TicketView) (ts : List TicketView) (b : Bool) → cond b (Some u) (find (has_number n) ts) ≡ None → (find (has_number n) ts ≡ None → find (has_number n) (ts ++ t ∷ []) ≡ Some t) → cond b (Some u) (find (has_number n) (ts ++ t ∷ [])) ≡ Some t
last-here n u t ts true none later = cc
last-here n u t ts false none later = later none

found-last : (n : ℕ) (ts : List TicketView) (t : TicketView) → find (has_number n) ts ≡ None → t.number ≡ n → find (has_number n) (ts ++ t ∷ []) ≡ Some t
found-last n [] t none is = ap (λ (b : Bool). cond b (Some t) None) (eq-eqb t.number n is)
found-last n (u ∷ ts) t none is = last-here n u t ts (has_number n u) none (λ later. found-last n ts t later is)

ticket-is : (s : StateView) (t : TaskView) (o : Option ShownView) → Some t ≡ option_map (task_for s) o → t.ticket ≡ s.next_ticket
ticket-is s t None is = cc
ticket-is s t (Some x) is = let same : t ≡ task_for s x = cc in ap (λ (k : TaskView). k.ticket) same

-- the ticket of a claimed task, put at the end under a number that no ticket had, is the one that stands under it
pub out-of : (s new : StateView) (r : Result (Option TaskView) (Refusal TooManyTickets)) → find (has_number s.next_ticket) s.tickets ≡ None → IfOk r (λ task. task ≡ option_map (task_for s) (due_shown s)) → IfOk r (λ task. IfSome task (λ t. new.tickets ≡ s.tickets ++ ticket_for t ∷ [])) → IfOk r (λ task. IfSome task (IsOut new))
out-of s new (Err e) none task tickets = tt
out-of s new (Ok None) none task tickets = tt
out-of s new (Ok (Some t)) none task tickets =
    let is = ticket-is s t (due_shown s) task in
    ap (find (has_number t.ticket)) tickets ∙ found-last t.ticket s.tickets (ticket_for t) (subst (λ (n : ℕ). find (has_number n) s.tickets ≡ None) (sym is) none) refl
