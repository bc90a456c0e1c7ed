use Rattle.std.proofs.Common.{subst, sym}
use Rattle.std.specs.List.Sorted.{IsPartitionedBy}
use Rattle.blocks.specs.Rows.{stands}
use Rattle.blocks.proofs.Places.{parted-at, place_by, there_by}
use Rattle.blocks.proofs.search.place_of.Goals as goal

pub before-at-requires : goal.before-at-requires
before-at-requires g c =
    let test = stands g.T.Ranked.major g.T.Ranked.minor c.args.major c.args.minor in
    subst (IsPartitionedBy test) (sym c.items_of.ensures.value) (parted-at test c.block_before-block.result c.args.blocks.now c.requires.parted)

pub returns-clause-place : goal.returns-clause-place
returns-clause-place g c =
    let test = stands g.T.Ranked.major g.T.Ranked.minor c.args.major c.args.minor in
    place_by test c.args.blocks.now c.block_before-block.result c.before-at.result c.items_of.result.now c.requires.filled c.requires.parted c.block_before-block.ensures.place c.items_of.ensures.value c.before-at.ensures.place

pub returns-clause-there : goal.returns-clause-there
returns-clause-there g c =
    let test = stands g.T.Ranked.major g.T.Ranked.minor c.args.major c.args.minor in
    there_by test c.args.blocks.now c.block_before-block.result c.before-at.result c.items_of.result.now c.requires.filled c.block_before-block.ensures.place c.items_of.ensures.value c.before-at.ensures.place
