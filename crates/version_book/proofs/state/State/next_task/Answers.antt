use Rattle.std.proofs.Common.{rules, ◌≡◌, ◌<◌, ◌≤◌, length, map, find, sym, ◌∙◌}
use Rattle.std.specs.Prelude.{None, Some}
use Rattle.std.proofs.lemmas.List.{length-map}
use Rattle.book_machine.specs.Noted.{noted_edit_of}
use Rattle.version_book.specs.Lookups.{is_due_at}
use Rattle.version_book.proofs.Readings.{next-none, next-busy, next-run, next-given}
use Rattle.version_book.proofs.state.State.next_task.Goals as goal

pub returns-in_default : goal.returns-in_default
returns-in_default g c =
    let count : c.len-version.result ≡ length c.self.inside.edits.items = search rules in
    let v : c.len-version.result ≡ length (map noted_edit_of c.self.inside.edits.items) = count ∙ sym (length-map c.self.inside.edits.items noted_edit_of) in
    let is : find (is_due_at c.len-version.result c.self.inside.tickets.items) c.self.inside.shown.items ≡ None = search rules in
    next-none c.len-version.result c.self.view_is v is

pub returns-then-len-ge-TICKET_LIMIT : goal.returns-then-len-ge-TICKET_LIMIT
returns-then-len-ge-TICKET_LIMIT g c =
    let count : c.len-version.result ≡ length c.self.inside.edits.items = search rules in
    let v : c.len-version.result ≡ length (map noted_edit_of c.self.inside.edits.items) = count ∙ sym (length-map c.self.inside.edits.items noted_edit_of) in
    let is : find (is_due_at c.len-version.result c.self.inside.tickets.items) c.self.inside.shown.items ≡ Some c.in-Some.shown.now = search rules in
    let le : 256 ≤ length c.self.inside.tickets.items = search rules in
    next-busy c.len-version.result c.in-Some.shown.now c.self.view_is v is le

pub task_for-requires : goal.task_for-requires
task_for-requires g c =
    let is : find (is_due_at c.len-version.result c.self.inside.tickets.items) c.self.inside.shown.items ≡ Some c.in-Some.shown.now = search rules in
    next-run c.len-version.result c.in-Some.shown.now c.self.view_is c.self.invariant.0 is

pub returns : goal.returns
returns g c =
    let count : c.len-version.result ≡ length c.self.inside.edits.items = search rules in
    let v : c.len-version.result ≡ length (map noted_edit_of c.self.inside.edits.items) = count ∙ sym (length-map c.self.inside.edits.items noted_edit_of) in
    let is : find (is_due_at c.len-version.result c.self.inside.tickets.items) c.self.inside.shown.items ≡ Some c.in-Some.shown.now = search rules in
    let lt : length c.self.inside.tickets.items < 256 = search rules in
    next-given c.len-version.result c.in-Some.shown.now c.in_ok-task_for.field-0 c.self.view_is v is lt c.in_ok-task_for.ensures
