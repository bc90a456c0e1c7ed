use Rattle.std.proofs.Common.{◌≡◌, length, take, ap, subst, refl, sym, ◌∙◌, arith}
use Rattle.std.proofs.lemmas.List.{take_all}
use Rattle.swf_text.specs.Reading.{text_of}
use Rattle.parallel_reader.specs.Jobs.{Below}
use Rattle.parallel_reader.proofs.Fronts.{front_read, head_text}
use Rattle.parallel_reader.proofs.front.LogFront.of_head.Goals as goal

pub invariant_of-result : goal.invariant_of-result
invariant_of-result g c =
    let entries = c.reserve_ahead.new.entries.items in
    let whole : take c.len-headed.result entries ≡ entries = take_all c.len-headed.result entries (omega (arith, c.len-headed.ensures, ap length c.reserve_ahead.ensures)) in
    record {
      below = subst (Below c.number_behind-next.result) (c.as_slice.ensures.value ∙ sym c.reserve_ahead.ensures) c.number_behind-next.ensures;
      within = omega (arith, c.len-headed.ensures, ap length c.reserve_ahead.ensures);
      head = ap text_of c.in-Ok-from_slice.ensures.items ∙ (head_text c.args.head.now c.in-Ok.text _ (take c.len-headed.result entries) c.in-Ok.ensures.text c.into_parts-comments.ensures.comments (whole ∙ c.reserve_ahead.ensures ∙ c.into_parts-comments.ensures.entries));
    }

pub returns : goal.returns
returns g c = front_read c.args.head.now c.in-Ok.text _ c.requires c.in-Ok.ensures.text c.into_parts-comments.ensures.comments (c.reserve_ahead.ensures ∙ c.into_parts-comments.ensures.entries) c.count_lines.ensures refl
