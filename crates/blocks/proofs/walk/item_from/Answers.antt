use Rattle.std.proofs.Common.{◌≡◌, ◌+◌, ◌-◌, List, ap, drop, length, option_copied, rules, slice_get, ◌∙◌}
use Rattle.blocks.specs.Rows.{flat}
use Rattle.blocks.proofs.Found.{got_is, walk_ends, walk_on}
use Rattle.blocks.proofs.walk.item_from.Goals as goal

pub returns-then-left-items : goal.returns-then-left-items
returns-then-left-items g c =
    let got : option_copied c.get.result ≡ slice_get c.as_slice-items.result.now c.loop-number.left = got_is c.as_slice-items.result.now c.loop-number.left c.get.result c.get.ensures.lookup in
    got ∙ ap (λ (l : List g.row.T.Denot). slice_get l c.loop-number.left) c.as_slice-items.ensures.items ∙ walk_ends c.loop-number.number c.loop-number.left c.args.blocks.now c.index-blocks-number.result (search rules) c.index-blocks-number.is (search rules) ∙ c.loop-number.invariant

pub loop-number-preserved : goal.loop-number-preserved
loop-number-preserved g c =
    ap (λ (l : List g.row.T.Denot). slice_get (flat (drop (c.loop-number.number + 1) c.args.blocks.now)) (c.loop-number.left - length l)) c.as_slice-items.ensures.items
    ∙ walk_on c.loop-number.number c.loop-number.left c.args.blocks.now c.index-blocks-number.result (search rules) c.index-blocks-number.is (search rules) ∙ c.loop-number.invariant
