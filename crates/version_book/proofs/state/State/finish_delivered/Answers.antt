use Rattle.std.proofs.Common.{rules, ◌≡◌, List, find, map, sym, ◌∙◌, ap, subst}
use Rattle.std.specs.Prelude.{None, true, false, is_none, option_copied}
use Rattle.std.specs.Arc.{arc_value}
use Rattle.book_machine.specs.Noted.{noted_edit_of}
use Rattle.tasks.specs.Tickets.{HasThoseOf, TicketView, has_number}
use Rattle.version_book.specs.Answers.{TellsStanding}
use Rattle.version_book.specs.Book.{StateView}
use Rattle.version_book.specs.Tasks.{Stands}
use Rattle.version_book.proofs.Stepping.{still-as}
use Rattle.version_book.proofs.WorkerSteps.{finish-unknown, fitting-some, none-found, none-stands, some-found, stands-as, stands-outcome}
use Rattle.version_book.proofs.state.State.finish_delivered.Goals as goal

pub returns-then-is_none-clause-does : goal.returns-then-is_none-clause-does
returns-then-is_none-clause-does g c =
    let test : is_none c.ticket_of.result ≡ true = search rules in
    let is : option_copied c.ticket_of.result ≡ find (has_number c.args.number) c.self.inside.tickets.items = search rules in
    let none = none-found c.ticket_of.result _ test is in
    still-as c.self.view_is (finish-unknown _ c.args.number c.self.invariant.0 none)

pub returns-then-is_none-clause-stands : goal.returns-then-is_none-clause-stands
returns-then-is_none-clause-stands g c stands =
    let test : is_none c.ticket_of.result ≡ true = search rules in
    let is : option_copied c.ticket_of.result ≡ find (has_number c.args.number) c.self.inside.tickets.items = search rules in
    let none = none-found c.ticket_of.result _ test is in
    none-stands c.args.number c.self.view_is none stands

pub returns-in_err-run-clause-stands : goal.returns-in_err-run-clause-stands
returns-in_err-run-clause-stands g c =
    let test : is_none c.ticket_of.result ≡ false = search rules in
    let is : option_copied c.ticket_of.result ≡ find (has_number c.args.number) c.self.inside.tickets.items = search rules in
    let some = some-found c.ticket_of.result _ test is in
    let outcome : c.from_residual.result ≡ None = search rules in
    subst (TellsStanding (Stands c.args.self.now c.args.number)) (sym outcome) (stands-as c.args.number c.self.view_is some)

pub accept-requires : goal.accept-requires
accept-requires g c = subst (λ (ts : List TicketView). HasThoseOf (find (has_number c.args.number) ts) (arc_value c.in_ok-run.run')) (sym c.in_ok-run.ensures.tickets) c.in_ok-run.ensures.run

pub returns-clause-stands : goal.returns-clause-stands
returns-clause-stands g c =
    let test : is_none c.ticket_of.result ≡ false = search rules in
    let is : option_copied c.ticket_of.result ≡ find (has_number c.args.number) c.self.inside.tickets.items = search rules in
    let some = some-found c.ticket_of.result _ test is in
    stands-outcome _ c.accept.result (stands-as c.args.number c.self.view_is some) c.accept.ensures.fits

pub returns-clause-published : goal.returns-clause-published
returns-clause-published g c =
    let is = ap (λ (ts : List TicketView). let s : StateView = record { spacing = c.self.inside.spacing; opening = arc_value c.self.inside.opening; current = arc_value c.self.inside.current; edits = map noted_edit_of c.self.inside.edits.items; listing = c.self.inside.scenarios; shown = c.self.inside.shown.items; tickets = ts; next_ticket = c.self.inside.next_ticket } in s) c.in_ok-run.ensures.tickets ∙ c.self.view_is in
    let fits = subst (λ (ts : List TicketView). HasThoseOf (find (has_number c.args.number) ts) (arc_value c.in_ok-run.run')) (sym c.in_ok-run.ensures.tickets) c.in_ok-run.ensures.run in
    fitting-some _ c.args.number (arc_value c.in_ok-run.run') c.accept.result is fits c.accept.ensures.published
