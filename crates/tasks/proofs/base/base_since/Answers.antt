use Rattle.std.proofs.Common.{rules, ◌≡◌, map, drop, sym, ◌∙◌, ap}
use Rattle.std.specs.Arc.{arc_value}
use Rattle.job_table.specs.Edit.{edit_of}
use Rattle.book_machine.specs.Noted.{noted_edit_of}
use Rattle.tasks.proofs.Lists.{drop-map}
use Rattle.tasks.proofs.Making.{base-is}
use Rattle.tasks.proofs.base.base_since.Goals as goal

pub returns : goal.returns
returns g c =
    let since : map edit_of c.in_ok-since.since.items ≡ map noted_edit_of (drop c.version-version.result c.args.edits.now) = search rules in
    let run : arc_value c.in_ok-clone.field-0 ≡ c.args.published.now.run = search rules in
    let later : drop c.version-version.result (map noted_edit_of c.args.edits.now) ≡ drop c.args.published.now.version (map noted_edit_of c.args.edits.now) = ap (λ n. drop n (map noted_edit_of c.args.edits.now)) c.version-version.ensures in
    base-is c.args.published.now (map noted_edit_of c.args.edits.now) _ _ _ c.version-version.ensures run (since ∙ (sym (drop-map noted_edit_of c.version-version.result c.args.edits.now) ∙ later))
