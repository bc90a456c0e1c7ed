use Rattle.std.proofs.Common.{sym, ◌∙◌}
use Rattle.blocks.specs.Rows.{flat}
use Rattle.blocks.proofs.Found.{met, missed}
use Rattle.blocks.proofs.Order.{parted}
use Rattle.blocks.proofs.search.place_with.Goals as goal

pub place_of-place-requires-clause-parted : goal.place_of-place-requires-clause-parted
place_of-place-requires-clause-parted g c = parted g.T.Ranked.major g.T.Ranked.minor c.args.major c.args.minor (flat c.args.blocks.now) c.requires.rises

pub returns-then-has_at-clause-block : goal.returns-then-has_at-clause-block
returns-then-has_at-clause-block g c =
    let m = met g.T.Ranked.major g.T.Ranked.minor c.args.major c.args.minor c.place_of-place.result.block c.place_of-place.result.at c.args.blocks.now c.items_of.result.now c.requires.rises c.place_of-place.ensures.there c.items_of.ensures.value c.place_of-place.ensures.place (sym c.has_at.ensures ∙ c.if-has_at.true) in m.block

pub returns-then-has_at-clause-at : goal.returns-then-has_at-clause-at
returns-then-has_at-clause-at g c =
    let m = met g.T.Ranked.major g.T.Ranked.minor c.args.major c.args.minor c.place_of-place.result.block c.place_of-place.result.at c.args.blocks.now c.items_of.result.now c.requires.rises c.place_of-place.ensures.there c.items_of.ensures.value c.place_of-place.ensures.place (sym c.has_at.ensures ∙ c.if-has_at.true) in m.within

pub returns-then-has_at-clause-item : goal.returns-then-has_at-clause-item
returns-then-has_at-clause-item g c =
    let m = met g.T.Ranked.major g.T.Ranked.minor c.args.major c.args.minor c.place_of-place.result.block c.place_of-place.result.at c.args.blocks.now c.items_of.result.now c.requires.rises c.place_of-place.ensures.there c.items_of.ensures.value c.place_of-place.ensures.place (sym c.has_at.ensures ∙ c.if-has_at.true) in m.item

pub returns-then-has_at-clause-left : goal.returns-then-has_at-clause-left
returns-then-has_at-clause-left g c =
    let m = met g.T.Ranked.major g.T.Ranked.minor c.args.major c.args.minor c.place_of-place.result.block c.place_of-place.result.at c.args.blocks.now c.items_of.result.now c.requires.rises c.place_of-place.ensures.there c.items_of.ensures.value c.place_of-place.ensures.place (sym c.has_at.ensures ∙ c.if-has_at.true) in m.left

pub returns-clause-item : goal.returns-clause-item
returns-clause-item g c =
    let m = missed g.T.Ranked.major g.T.Ranked.minor c.args.major c.args.minor c.place_of-place.result.block c.place_of-place.result.at c.args.blocks.now c.items_of.result.now c.requires.rises c.place_of-place.ensures.there c.items_of.ensures.value c.place_of-place.ensures.place (sym c.has_at.ensures ∙ c.if-has_at.false) in m.0

pub returns-clause-left : goal.returns-clause-left
returns-clause-left g c =
    let m = missed g.T.Ranked.major g.T.Ranked.minor c.args.major c.args.minor c.place_of-place.result.block c.place_of-place.result.at c.args.blocks.now c.items_of.result.now c.requires.rises c.place_of-place.ensures.there c.items_of.ensures.value c.place_of-place.ensures.place (sym c.has_at.ensures ∙ c.if-has_at.false) in m.1
