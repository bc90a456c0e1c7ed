use Rattle.std.proofs.Common.{rules, ◌≡◌, length, map, refl, sym, ◌∙◌}
use Rattle.std.proofs.lemmas.List.{length-map}
use Rattle.std.specs.Arc.{arc_value}
use Rattle.book_machine.specs.Noted.{noted_edit_of}
use Rattle.tasks.specs.Tasks.{bases_since}
use Rattle.version_book.proofs.Readings.{task-sound, task-is}
use Rattle.version_book.proofs.state.State.task_for.Goals as goal

pub new-requires : goal.new-requires
new-requires g c =
    let log : c.new-plan.result.log ≡ arc_value c.self.inside.current = search rules in
    let scenario : c.new-plan.result.scenario ≡ c.args.shown.now.scenario = search rules in
    let base : c.in_ok-base.base ≡ bases_since (map noted_edit_of c.self.inside.edits.items) c.args.shown.now.published = search rules in
    task-sound _ _ _ _ c.args.shown.now _ _ c.self.view_is c.self.invariant.0 c.requires log scenario base

pub returns : goal.returns
returns g c =
    let log : c.new-plan.result.log ≡ arc_value c.self.inside.current = search rules in
    let scenario : c.new-plan.result.scenario ≡ c.args.shown.now.scenario = search rules in
    let base : c.in_ok-base.base ≡ bases_since (map noted_edit_of c.self.inside.edits.items) c.args.shown.now.published = search rules in
    let count : c.len.result ≡ length c.self.inside.edits.items = search rules in
    let v : c.len.result ≡ length (map noted_edit_of c.self.inside.edits.items) = count ∙ sym (length-map c.self.inside.edits.items noted_edit_of) in
    c.new.ensures ∙ task-is _ _ _ _ c.args.shown.now _ _ _ c.self.view_is refl c.id.ensures v log scenario refl base
