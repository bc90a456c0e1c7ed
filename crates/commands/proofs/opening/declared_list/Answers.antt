use Rattle.std.proofs.Common.{◌<◌, length, map, sym, ◌∙◌, arith, rules}
use Rattle.commands.proofs.Declared.{item_text, within_map, declared_some, declared_next}
use Rattle.commands.proofs.opening.declared_list.Goals as goal

pub returns-in_err-add_declared-clause-some : goal.returns-in_err-add_declared-clause-some
returns-in_err-add_declared-clause-some g c =
    let items = c.args.comments.now in
    let lt : c.loop-comment.comment-index < length items = omega arith in
    let there = item_text (λ v. v.items) items c.loop-comment.comment-index c.comment-item.result lt c.comment-item.is ∙ sym c.as_slice.ensures.value in
    let some = declared_some (map (λ v. v.items) items) c.loop-comment.comment-index c.as_slice.result.now c.loop-comment.list (within_map (λ v. v.items) items _ lt) there c.loop-comment.invariant c.in_err-add_declared.ensures.one_more in
    search (rules, some)

pub loop-comment-preserved : goal.loop-comment-preserved
loop-comment-preserved g c =
    let items = c.args.comments.now in
    let lt : c.loop-comment.comment-index < length items = omega arith in
    let there = item_text (λ v. v.items) items c.loop-comment.comment-index c.comment-item.result lt c.comment-item.is ∙ sym c.as_slice.ensures.value in
    c.in_ok-add_declared.ensures.added ∙ declared_next (map (λ v. v.items) items) c.loop-comment.comment-index c.as_slice.result.now c.loop-comment.list (within_map (λ v. v.items) items _ lt) there c.loop-comment.invariant
