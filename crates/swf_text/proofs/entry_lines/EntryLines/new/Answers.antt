use Rattle.std.proofs.Common.{sym, ◌∙◌, map, ap, arith}
use Rattle.std.specs.List.{list_all}
use Rattle.std.proofs.lemmas.List.Folds.{list_all-map}
use Rattle.swf_text.specs.Entry.{is_part, values}
use Rattle.swf_text.proofs.Entries.{entry_sound, made_bad, made_ok}
use Rattle.swf_text.proofs.entry_lines.EntryLines.new.Goals as goal

pub invariant_of-result : goal.invariant_of-result
invariant_of-result g c = entry_sound c.args.main.0 _ c.in-Some.number (omega arith) (sym c.in-Some.ensures.value) c.in-Some.ensures.limit (sym c.if-is_before_start.ensures.value) c.if-is_before_start.ensures.limit (sym c.if-is_partial_line.ensures) (list_all-map (is_part c.in-Some.number) values c.args.parts.items ∙ sym (c.if-not-are_parts.ensures ∙ ap (list_all (λ p. is_part c.in-Some.number (values p))) c.as_slice.ensures.value))

pub returns-then-not-are_parts : goal.returns-then-not-are_parts
returns-then-not-are_parts g c = made_bad c.args.main.0 (map values c.args.parts.items) c.in-Some.number (sym c.in-Some.ensures.value) (sym c.if-is_before_start.ensures.value) (sym c.if-is_partial_line.ensures) (list_all-map (is_part c.in-Some.number) values c.args.parts.items ∙ sym (c.if-not-are_parts.ensures ∙ ap (list_all (λ p. is_part c.in-Some.number (values p))) c.as_slice.ensures.value))

pub returns : goal.returns
returns g c = made_ok c.args.main.0 (map values c.args.parts.items) c.in-Some.number (sym c.in-Some.ensures.value) (sym c.if-is_before_start.ensures.value) (sym c.if-is_partial_line.ensures) (list_all-map (is_part c.in-Some.number) values c.args.parts.items ∙ sym (c.if-not-are_parts.ensures ∙ ap (list_all (λ p. is_part c.in-Some.number (values p))) c.as_slice.ensures.value))
