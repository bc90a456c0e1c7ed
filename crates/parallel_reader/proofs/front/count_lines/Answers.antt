use Rattle.std.proofs.Common.{◌<◌, length, ap, arith, false-eqb}
use Rattle.swf_text.specs.Text.{lines}
use Rattle.swf_text.proofs.Lemmas.{after-shorter, lines-next}
use Rattle.parallel_reader.proofs.front.count_lines.Goals as goal

pub lines-preserved : goal.lines-preserved
lines-preserved c =
    let some : 0 < length c.lines.rest.now = omega (arith, false-eqb _ 0 c.lines-test.ensures) in
    record {
      counted = omega (arith, c.lines.invariant.counted, ap length (lines-next c.lines.rest.now some), ap (λ r. length (lines r)) c.split_line.ensures.rest);
      bound = omega (arith, c.lines.invariant.bound, ap length c.split_line.ensures.rest, after-shorter c.lines.rest.now some);
    }
