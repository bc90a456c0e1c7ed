use Rattle.std.proofs.Common.{◌≡◌, ℕ, rules, ap, subst, ◌∙◌}
use Rattle.std.specs.Prelude.{IfOk}
use Rattle.swf_text.specs.Entry.{LogEntry, field_change}
use Rattle.job_table.specs.Edit.{with_field}
use Rattle.job_table.proofs.Edited.{change-taken}
use Rattle.job_table.proofs.rows.changed_entry.Goals as goal

pub unwrap-requires : goal.unwrap-requires
unwrap-requires g c =
    let taken = c.set_field.ensures.answer ∙ ap (λ (p : ℕ). field_change p c.args.value) c.from.ensures ∙ change-taken c.args.field c.args.value c.requires in
    rw taken (search rules)

pub returns : goal.returns
returns g c =
    let set = rw c.unwrap.ensures at c.set_field.ensures.changed in
    let is = set ∙ ap (λ (p : ℕ). with_field p c.args.value c.in_ok-lines.lines) c.from.ensures ∙ ap (with_field c.args.field c.args.value) c.in_ok-lines.ensures in
    subst (λ (e : LogEntry). IfOk c.of_lines.result (λ entry. entry ≡ e)) is c.of_lines.ensures
