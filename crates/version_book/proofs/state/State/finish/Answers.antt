use Rattle.std.proofs.Common.{rules, ◌≡◌, find, sym, subst}
use Rattle.std.specs.Prelude.{None, Some}
use Rattle.std.specs.Arc.{arc_value}
use Rattle.tasks.specs.Tickets.{HasThoseOf, has_number}
use Rattle.version_book.proofs.Stepping.{not-both, still-as}
use Rattle.version_book.proofs.WorkerSteps.{does-fitted, finish-stranger, finish-unknown, fits-of, none-fits, tells-fit, those-of}
use Rattle.version_book.proofs.state.State.finish.Goals as goal

pub returns-in_default-clause-does : goal.returns-in_default-clause-does
returns-in_default-clause-does g c =
    let none : find (has_number c.args.number) c.self.inside.tickets.items ≡ None = search rules in
    still-as c.self.view_is (finish-unknown _ c.args.number c.self.invariant.0 none)

pub returns-then-not-fits-clause-does : goal.returns-then-not-fits-clause-does
returns-then-not-fits-clause-does g c =
    let some : find (has_number c.args.number) c.self.inside.tickets.items ≡ Some c.in-Some.ticket.now = search rules in
    still-as c.self.view_is (finish-stranger _ c.args.number _ c.self.invariant.0 some)

pub returns-in_default-clause-fits : goal.returns-in_default-clause-fits
returns-in_default-clause-fits g c fits =
    let none : find (has_number c.args.number) c.self.inside.tickets.items ≡ None = search rules in
    none-fits c.args.number (arc_value c.args.run) c.self.view_is none fits

pub returns-then-not-fits-clause-fits : goal.returns-then-not-fits-clause-fits
returns-then-not-fits-clause-fits g c fits =
    let some : find (has_number c.args.number) c.self.inside.tickets.items ≡ Some c.in-Some.ticket.now = search rules in
    let those = those-of c.args.number c.in-Some.ticket.now (arc_value c.args.run) c.self.view_is some fits in
    not-both c.fits.result c.if-not-fits.true (c.fits.ensures.1 (subst (HasThoseOf (Some c.in-Some.ticket.now)) (sym c.deref.ensures) those))

pub accept-requires : goal.accept-requires
accept-requires g c =
    let some : find (has_number c.args.number) c.self.inside.tickets.items ≡ Some c.in-Some.ticket.now = search rules in
    let those = subst (HasThoseOf (Some c.in-Some.ticket.now)) c.deref.ensures (c.fits.ensures.0 c.if-not-fits.false) in
    fits-of c.args.number c.in-Some.ticket.now (arc_value c.args.run) c.self.view_is some those.0 those.1

pub returns-clause-does : goal.returns-clause-does
returns-clause-does g c = does-fitted _ _ c.args.number _ c.accept.ensures.fits c.accept.ensures.does

pub returns-clause-fits : goal.returns-clause-fits
returns-clause-fits g c =
    let some : find (has_number c.args.number) c.self.inside.tickets.items ≡ Some c.in-Some.ticket.now = search rules in
    let those = subst (HasThoseOf (Some c.in-Some.ticket.now)) c.deref.ensures (c.fits.ensures.0 c.if-not-fits.false) in
    tells-fit _ _ (fits-of c.args.number c.in-Some.ticket.now (arc_value c.args.run) c.self.view_is some those.0 those.1) c.accept.ensures.fits

pub returns-clause-published : goal.returns-clause-published
returns-clause-published g c = c.accept.ensures.published
