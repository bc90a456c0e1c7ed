use Rattle.std.proofs.Common.{arith}
use Rattle.blocks.specs.Rows.{flat, stands}
use Rattle.blocks.proofs.Halves.{place-within}
use Rattle.blocks.proofs.Order.{are_before, parted}
use Rattle.blocks.proofs.search.count_before.Goals as goal

pub place_of-place-requires-clause-parted : goal.place_of-place-requires-clause-parted
place_of-place-requires-clause-parted g c = parted g.T.Ranked.major g.T.Ranked.minor c.args.major c.args.minor (flat c.args.blocks.now) c.requires.rises

pub overflow_add-result : goal.overflow_add-result
overflow_add-result g c =
    let most = place-within (stands g.T.Ranked.major g.T.Ranked.minor c.args.major c.args.minor) (flat c.args.blocks.now) in
    omega (arith, most, c.start_of.ensures, c.place_of-place.ensures.place, c.requires.few)

pub returns : goal.returns
returns g c = are_before g.T.Ranked.major g.T.Ranked.minor c.args.major c.args.minor (flat c.args.blocks.now) _ c.requires.rises (omega (arith, c.start_of.ensures, c.place_of-place.ensures.place))
