use Rattle.std.proofs.Common.{rules, ◌≡◌, ◌+◌, length, map, refl, ◌∙◌, ap}
use Rattle.std.specs.Prelude.{None}
use Rattle.std.proofs.lemmas.List.{length_push}
use Rattle.std.specs.Arc.{arc_value}
use Rattle.job_table.specs.Edit.{applied, edit_of, fault_of}
use Rattle.book_machine.specs.Noted.{noted_edit_of}
use Rattle.version_book.proofs.Stepping.{seen-as, map-push}
use Rattle.version_book.proofs.SessionSteps.{edit-accepted}
use Rattle.version_book.proofs.state.State.edit.Goals as goal

pub invariant_of-self-2 : goal.invariant_of-self-2
invariant_of-self-2 g c =
    let none : fault_of (edit_of c.args.edit.now) (arc_value c.self.inside.current) ≡ None = search rules in
    let log : arc_value c.put_edit.new.table ≡ applied (edit_of c.args.edit.now) (arc_value c.self.inside.current) = search rules in
    let es = map-push noted_edit_of c.self.inside.edits.items _ _ _ _ c.push_reserved.ensures.items c.kept_edit.ensures.items c.in_ok-kept.ensures.kept in
    ((edit-accepted _ (edit_of c.args.edit.now) _ _ _ c.self.invariant.0 c.in_ok-put_edit.ensures.edit none es log refl).sound, c.self.invariant.1, c.self.invariant.2)

pub returns : goal.returns
returns g c =
    let none : fault_of (edit_of c.args.edit.now) (arc_value c.self.inside.current) ≡ None = search rules in
    let log : arc_value c.put_edit.new.table ≡ applied (edit_of c.args.edit.now) (arc_value c.self.inside.current) = search rules in
    let es = map-push noted_edit_of c.self.inside.edits.items _ _ _ _ c.push_reserved.ensures.items c.kept_edit.ensures.items c.in_ok-kept.ensures.kept in
    let v : c.version.result ≡ length (map noted_edit_of c.self.inside.edits.items) + 1 = c.version.ensures.version ∙ (ap length es ∙ length_push (map noted_edit_of c.self.inside.edits.items) (edit_of c.args.edit.now)) in
    seen-as c.self.view_is (edit-accepted _ (edit_of c.args.edit.now) _ _ _ c.self.invariant.0 c.in_ok-put_edit.ensures.edit none es log v)
