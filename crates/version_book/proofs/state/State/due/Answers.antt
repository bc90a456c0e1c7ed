use Rattle.std.proofs.Common.{rules, ◌≡◌, ◌<◌, length, map, find, refl, sym, ◌∙◌, ap}
use Rattle.std.specs.Prelude.{None, Some}
use Rattle.std.proofs.lemmas.List.{length-map}
use Rattle.book_machine.specs.Noted.{noted_edit_of}
use Rattle.version_book.specs.Lookups.{is_due_at}
use Rattle.version_book.proofs.Readings.{free-with}
use Rattle.version_book.proofs.state.State.due.Goals as goal

pub returns-in-Some : goal.returns-in-Some
returns-in-Some g c =
    let count : c.len-version.result ≡ length c.self.inside.edits.items = search rules in
    let v : c.len-version.result ≡ length (map noted_edit_of c.self.inside.edits.items) = count ∙ sym (length-map c.self.inside.edits.items noted_edit_of) in
    let lt : length c.self.inside.tickets.items < 256 = search rules in
    let is : find (is_due_at c.len-version.result c.self.inside.tickets.items) c.self.inside.shown.items ≡ Some c.in-Some.shown.now = search rules in
    free-with c.len-version.result (Some c.in-Some.shown.now) (Some c.id.result) c.self.view_is lt v is (ap (λ n. Some n) c.id.ensures)

pub returns-in-None : goal.returns-in-None
returns-in-None g c =
    let count : c.len-version.result ≡ length c.self.inside.edits.items = search rules in
    let v : c.len-version.result ≡ length (map noted_edit_of c.self.inside.edits.items) = count ∙ sym (length-map c.self.inside.edits.items noted_edit_of) in
    let lt : length c.self.inside.tickets.items < 256 = search rules in
    let is : find (is_due_at c.len-version.result c.self.inside.tickets.items) c.self.inside.shown.items ≡ None = search rules in
    free-with c.len-version.result None None c.self.view_is lt v is refl
