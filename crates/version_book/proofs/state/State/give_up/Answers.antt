use Rattle.std.proofs.Common.{rules, ◌≡◌, length, map, find, arith}
use Rattle.std.specs.Prelude.{None, Some}
use Rattle.book_machine.specs.Noted.{noted_edit_of}
use Rattle.std.proofs.lemmas.List.{length-map}
use Rattle.tasks.specs.Tickets.{has_number}
use Rattle.version_book.proofs.Ids.{ids-apart}
use Rattle.version_book.proofs.Stepping.{seen-as, still-as}
use Rattle.version_book.proofs.WorkerSteps.{give_up-unknown, now-with, other-with}
use Rattle.version_book.proofs.state.State.give_up.Goals as goal

pub returns-in_default : goal.returns-in_default
returns-in_default g c =
    let none : find (has_number c.args.number) c.self.inside.tickets.items ≡ None = search rules in
    still-as c.self.view_is (give_up-unknown _ c.args.number c.self.invariant.0 none)

pub mark-requires : goal.mark-requires
mark-requires g c = ids-apart _ _ c.self.invariant.0.listed c.self.invariant.0.ids

pub invariant_of-self : goal.invariant_of-self
invariant_of-self g c =
    let some : find (has_number c.args.number) c.self.inside.tickets.items ≡ Some c.in-Some.ticket.now = search rules in
    let count : c.len.result ≡ length c.self.inside.edits.items = search rules in
    let same = length-map c.self.inside.edits.items (noted_edit_of) in
    let now : c.version-version.result ≡ length (map noted_edit_of c.self.inside.edits.items) = omega arith in
    ((now-with _ c.args.number _ _ _ _ _ c.self.invariant.0 some c.id-id.ensures c.version-version.ensures now c.mark.ensures.shown c.close.ensures.tickets).sound, omega (arith, c.self.invariant.1, c.mark.ensures.capacity), omega (arith, c.self.invariant.2, c.close.ensures.capacity))

pub invariant_of-self-else-version-len : goal.invariant_of-self-else-version-len
invariant_of-self-else-version-len g c =
    let some : find (has_number c.args.number) c.self.inside.tickets.items ≡ Some c.in-Some.ticket.now = search rules in
    let count : c.len.result ≡ length c.self.inside.edits.items = search rules in
    let same = length-map c.self.inside.edits.items (noted_edit_of) in
    let other : c.version-version.result ≡ length (map noted_edit_of c.self.inside.edits.items) → ⊥ = λ e. c.if-version-len.false (omega arith) in
    ((other-with _ c.args.number _ _ _ c.self.invariant.0 some c.version-version.ensures other c.close.ensures.tickets).sound, c.self.invariant.1, omega (arith, c.self.invariant.2, c.close.ensures.capacity))

pub returns-then-version-len : goal.returns-then-version-len
returns-then-version-len g c =
    let some : find (has_number c.args.number) c.self.inside.tickets.items ≡ Some c.in-Some.ticket.now = search rules in
    let count : c.len.result ≡ length c.self.inside.edits.items = search rules in
    let same = length-map c.self.inside.edits.items (noted_edit_of) in
    let now : c.version-version.result ≡ length (map noted_edit_of c.self.inside.edits.items) = omega arith in
    seen-as c.self.view_is (now-with _ c.args.number _ _ _ _ _ c.self.invariant.0 some c.id-id.ensures c.version-version.ensures now c.mark.ensures.shown c.close.ensures.tickets)

pub returns-else-version-len : goal.returns-else-version-len
returns-else-version-len g c =
    let some : find (has_number c.args.number) c.self.inside.tickets.items ≡ Some c.in-Some.ticket.now = search rules in
    let count : c.len.result ≡ length c.self.inside.edits.items = search rules in
    let same = length-map c.self.inside.edits.items (noted_edit_of) in
    let other : c.version-version.result ≡ length (map noted_edit_of c.self.inside.edits.items) → ⊥ = λ e. c.if-version-len.false (omega arith) in
    seen-as c.self.view_is (other-with _ c.args.number _ _ _ c.self.invariant.0 some c.version-version.ensures other c.close.ensures.tickets)
