use Rattle.std.proofs.Common.{rules, ◌≡◌, find, get_or, sym, subst}
use Rattle.std.specs.List.{position}
use Rattle.std.specs.Prelude.{Option, Some, IfSome}
use Rattle.std.specs.Arc.{arc_value}
use Rattle.tasks.specs.Tickets.{HasThoseOf, TicketView, has_number}
use Rattle.tasks.proofs.Lists.{found-at}
use Rattle.tasks.proofs.tickets.take_run.Goals as goal

pub returns-clause-run : goal.returns-clause-run
returns-clause-run g c =
    let at : position (has_number c.args.number) c.args.tickets.now.items ≡ Some c.in_ok-place.place = search rules in
    let is : c.index_mut.result.now ≡ get_or c.args.tickets.now.items c.in_ok-place.place c.index_mut.result.now = search rules in
    let found : find (has_number c.args.number) c.args.tickets.now.items ≡ Some c.index_mut.result.now = found-at (has_number c.args.number) c.args.tickets.now.items c.in_ok-place.place c.index_mut.result.now at is in
    subst (λ (o : Option TicketView). IfSome c.take_run.result (λ run. HasThoseOf o (arc_value run))) (sym found) c.take_run.ensures.run
