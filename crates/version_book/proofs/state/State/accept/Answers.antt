use Rattle.std.proofs.Common.{rules, ◌≡◌, find, refl, ◌∙◌, ap, arith}
use Rattle.std.specs.Prelude.{None, Some, true, false, unwrap_or}
use Rattle.std.specs.Arc.{arc_value}
use Rattle.checkpoints.specs.RunView.{IsRun}
use Rattle.book_machine.specs.Machine.{is_below}
use Rattle.tasks.specs.Published.{PublishedView}
use Rattle.tasks.specs.Tickets.{has_number}
use Rattle.version_book.specs.Lookups.{publishing, version_shown, with_change}
use Rattle.version_book.proofs.Ids.{ids-apart}
use Rattle.version_book.proofs.Stepping.{seen-as}
use Rattle.version_book.proofs.WorkerSteps.{finish-with, publishes, stale-with, none-fits, those-of}
use Rattle.version_book.proofs.state.State.accept.Goals as goal

pub unreachable-requires : goal.unreachable-requires
unreachable-requires g c =
    let none : find (has_number c.args.number) c.self.inside.tickets.items ≡ None = search rules in
    none-fits c.args.number (arc_value c.args.run) c.self.view_is none c.requires

pub publish-requires : goal.publish-requires
publish-requires g c = ids-apart _ _ c.self.invariant.0.listed c.self.invariant.0.ids

pub invariant_of-self : goal.invariant_of-self
invariant_of-self g c =
    let some : find (has_number c.args.number) c.self.inside.tickets.items ≡ Some c.in-Some.ticket.now = search rules in
    let those = those-of c.args.number _ (arc_value c.args.run) c.self.view_is some c.requires in
    let found : c.published_version-found.result ≡ version_shown c.id-id.result c.self.inside.shown.items = search rules in
    let below : is_below c.published_version-found.result c.version-version.result ≡ true = search rules in
    let run : IsRun (arc_value c.args.run) = search rules in
    let shown = c.publish.ensures.shown ∙ ap (λ (p : PublishedView). with_change c.id-id.result (publishing p) c.self.inside.shown.items) c.new.ensures in
    ((finish-with _ c.args.number _ _ _ _ _ _ _ c.self.invariant.0 some c.id-id.ensures c.version-version.ensures found below run those.0 those.1 shown c.close.ensures.tickets).sound, omega (arith, c.self.invariant.1, c.publish.ensures.capacity), omega (arith, c.self.invariant.2, c.close.ensures.capacity))

pub returns-then-is_below-clause-does : goal.returns-then-is_below-clause-does
returns-then-is_below-clause-does g c =
    let some : find (has_number c.args.number) c.self.inside.tickets.items ≡ Some c.in-Some.ticket.now = search rules in
    let those = those-of c.args.number _ (arc_value c.args.run) c.self.view_is some c.requires in
    let found : c.published_version-found.result ≡ version_shown c.id-id.result c.self.inside.shown.items = search rules in
    let below : is_below c.published_version-found.result c.version-version.result ≡ true = search rules in
    let run : IsRun (arc_value c.args.run) = search rules in
    let shown = c.publish.ensures.shown ∙ ap (λ (p : PublishedView). with_change c.id-id.result (publishing p) c.self.inside.shown.items) c.new.ensures in
    seen-as c.self.view_is (finish-with _ c.args.number _ _ _ _ _ _ _ c.self.invariant.0 some c.id-id.ensures c.version-version.ensures found below run those.0 those.1 shown c.close.ensures.tickets)

pub invariant_of-self-else-is_below : goal.invariant_of-self-else-is_below
invariant_of-self-else-is_below g c =
    let some : find (has_number c.args.number) c.self.inside.tickets.items ≡ Some c.in-Some.ticket.now = search rules in
    let found : c.published_version-found.result ≡ version_shown c.id-id.result c.self.inside.shown.items = search rules in
    let above : is_below c.published_version-found.result c.version-version.result ≡ false = search rules in
    ((stale-with _ c.args.number _ _ _ _ _ (unwrap_or c.published_version-found.result 0) c.self.invariant.0 some c.id-id.ensures c.version-version.ensures found above c.close.ensures.tickets refl).sound, c.self.invariant.1, omega (arith, c.self.invariant.2, c.close.ensures.capacity))

pub returns-clause-does : goal.returns-clause-does
returns-clause-does g c =
    let some : find (has_number c.args.number) c.self.inside.tickets.items ≡ Some c.in-Some.ticket.now = search rules in
    let found : c.published_version-found.result ≡ version_shown c.id-id.result c.self.inside.shown.items = search rules in
    let above : is_below c.published_version-found.result c.version-version.result ≡ false = search rules in
    seen-as c.self.view_is (stale-with _ c.args.number _ _ _ _ _ _ c.self.invariant.0 some c.id-id.ensures c.version-version.ensures found above c.close.ensures.tickets c.unwrap_or.ensures)

pub returns-then-is_below-clause-published : goal.returns-then-is_below-clause-published
returns-then-is_below-clause-published g c =
    let some : find (has_number c.args.number) c.self.inside.tickets.items ≡ Some c.in-Some.ticket.now = search rules in
    let shown = c.publish.ensures.shown ∙ ap (λ (p : PublishedView). with_change c.id-id.result (publishing p) c.self.inside.shown.items) c.new.ensures in
    publishes _ c.args.number c.in-Some.ticket.now c.id-id.result c.version-version.result (arc_value c.args.run) c.self.view_is some c.id-id.ensures shown
