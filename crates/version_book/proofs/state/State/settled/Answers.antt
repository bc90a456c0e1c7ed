use Rattle.std.proofs.Common.{rules, ◌≡◌, length, map, sym, ◌∙◌}
use Rattle.std.proofs.lemmas.List.{length-map}
use Rattle.book_machine.specs.Noted.{noted_edit_of}
use Rattle.version_book.proofs.Readings.{settled-with}
use Rattle.version_book.proofs.state.State.settled.Goals as goal

pub returns : goal.returns
returns g c =
    let count : c.len.result ≡ length c.self.inside.edits.items = search rules in
    let v : c.len.result ≡ length (map noted_edit_of c.self.inside.edits.items) = count ∙ sym (length-map c.self.inside.edits.items noted_edit_of) in
    settled-with c.args.seen _ _ _ c.self.view_is v c.as_slice.ensures.value c.settled.ensures
