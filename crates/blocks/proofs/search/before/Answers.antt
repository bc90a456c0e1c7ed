use Rattle.std.proofs.Common.{◌+◌, ◌-◌, ◌/◌, ◌∙◌, ap, arith, sym}
use Rattle.blocks.specs.Rows.{stands}
use Rattle.blocks.proofs.Halves.{place-ahead, place-behind, place-within}
use Rattle.blocks.proofs.search.before.Goals as goal

pub halves-init : goal.halves-init
halves-init g c = record {
  low = omega arith;
  high = place-within (stands g.T.Ranked.major g.T.Ranked.minor c.args.major c.args.minor) c.args.items.now;
  within = omega arith;
}

pub halves-preserved-then-is_before : goal.halves-preserved-then-is_before
halves-preserved-then-is_before g c =
    let test = stands g.T.Ranked.major g.T.Ranked.minor c.args.major c.args.minor in
    let middle = c.halves.low + (c.halves.high - c.halves.low) / 2 in
    record {
      low = place-behind test c.args.items.now middle c.index-items-middle.result c.requires (omega (arith, c.halves-test.true, c.halves.invariant.within)) (ap test (sym c.index-items-middle.is) ∙ sym c.is_before.ensures ∙ c.if-is_before.true);
      high = c.halves.invariant.high;
      within = c.halves.invariant.within;
    }

pub halves-preserved : goal.halves-preserved
halves-preserved g c =
    let test = stands g.T.Ranked.major g.T.Ranked.minor c.args.major c.args.minor in
    let middle = c.halves.low + (c.halves.high - c.halves.low) / 2 in
    record {
      low = c.halves.invariant.low;
      high = place-ahead test c.args.items.now middle c.index-items-middle.result (omega (arith, c.halves-test.true, c.halves.invariant.within)) (ap test (sym c.index-items-middle.is) ∙ sym c.is_before.ensures ∙ c.if-is_before.false);
      within = omega (arith, c.halves-test.true, c.halves.invariant.within);
    }
