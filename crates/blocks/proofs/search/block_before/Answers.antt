use Rattle.std.proofs.Common.{◌+◌, ◌-◌, ◌/◌, ◌∙◌, ap, arith, sym}
use Rattle.blocks.specs.Rows.{ends_by, stands}
use Rattle.blocks.proofs.Places.{parted-ends}
use Rattle.blocks.proofs.Halves.{place-ahead, place-behind, place-within}
use Rattle.blocks.proofs.search.block_before.Goals as goal

pub halves-init : goal.halves-init
halves-init g c = record {
  low = omega arith;
  high = place-within (ends_by (stands g.T.Ranked.major g.T.Ranked.minor c.args.major c.args.minor)) c.args.blocks.now;
  within = omega arith;
}

pub halves-preserved-then-ends_before : goal.halves-preserved-then-ends_before
halves-preserved-then-ends_before g c =
    let test = stands g.T.Ranked.major g.T.Ranked.minor c.args.major c.args.minor in
    let middle = c.halves.low + (c.halves.high - c.halves.low) / 2 in
    record {
      low = place-behind (ends_by test) c.args.blocks.now middle c.index-blocks-middle.result (parted-ends test c.args.blocks.now c.requires.filled c.requires.parted) (omega (arith, c.halves-test.true, c.halves.invariant.within)) (ap (ends_by test) (sym c.index-blocks-middle.is) ∙ sym c.ends_before.ensures ∙ c.if-ends_before.true);
      high = c.halves.invariant.high;
      within = c.halves.invariant.within;
    }

pub halves-preserved : goal.halves-preserved
halves-preserved g c =
    let test = stands g.T.Ranked.major g.T.Ranked.minor c.args.major c.args.minor in
    let middle = c.halves.low + (c.halves.high - c.halves.low) / 2 in
    record {
      low = c.halves.invariant.low;
      high = place-ahead (ends_by test) c.args.blocks.now middle c.index-blocks-middle.result (omega (arith, c.halves-test.true, c.halves.invariant.within)) (ap (ends_by test) (sym c.index-blocks-middle.is) ∙ sym c.ends_before.ensures ∙ c.if-ends_before.false);
      within = omega (arith, c.halves-test.true, c.halves.invariant.within);
    }
