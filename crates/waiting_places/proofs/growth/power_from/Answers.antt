use Rattle.std.proofs.Common.{suc, arith}
use Rattle.std.proofs.Math.Nat.{pow-suc}
use Rattle.waiting_places.proofs.growth.power_from.Goals as goal

pub loop-power-preserved : goal.loop-power-preserved
loop-power-preserved c =
    let whole = c.loop-power.invariant.whole in
    let power = whole.power in
    let more = pow-suc 2 whole.height in
    record {
      whole = record { height = suc whole.height; power = omega (arith, power, more) };
      some = omega arith;
      few = omega arith;
    }
