use Rattle.std.proofs.Common.{◌<◌, length, map, [], ◌∙◌, arith, refl}
use Rattle.std.proofs.lemmas.List.{length-map}
use Rattle.std.proofs.lemmas.Option.{get_or_from_slice_get}
use Rattle.commands.specs.Opening.{comment_of}
use Rattle.commands.proofs.Declared.{item_text, within_map, text_pushed, taken_more, joined_more}
use Rattle.commands.proofs.saving.save_text.Goals as goal

pub loop-comment-preserved : goal.loop-comment-preserved
loop-comment-preserved g c =
    let items = c.args.comments.now in
    let lt : c.loop-comment.comment-index < length items = omega arith in
    let there = item_text (λ v. v.items) items c.loop-comment.comment-index c.comment-item.result lt c.comment-item.is in
    taken_more _ _ _ c.loop-comment.comment-index _ c.loop-comment.invariant (text_pushed (λ v. v.items) c.loop-comment.lines.items _ c.in_ok-from_slice.field-0 _ c.in_ok-push.ensures.items (c.in_ok-from_slice.ensures.items ∙ c.as_slice.ensures.value)) (within_map (λ v. v.items) items _ lt) there

pub loop-place-preserved : goal.loop-place-preserved
loop-place-preserved g c =
    let list = c.args.scenarios.now.scenarios in
    let lt : c.loop-place.place < length (map comment_of list) = omega (arith, length-map list comment_of, c.len-place-end.ensures.value) in
    joined_more _ _ _ (map comment_of list) c.loop-place.place _ c.loop-place.invariant (text_pushed (λ v. v.items) c.loop-place.lines.items _ c.in_ok-comment_at.field-0 _ c.in_ok-push-2.ensures.items refl) lt (get_or_from_slice_get (map comment_of list) c.loop-place.place c.in_ok-comment_at.field-0.items [] c.in_ok-comment_at.ensures)
