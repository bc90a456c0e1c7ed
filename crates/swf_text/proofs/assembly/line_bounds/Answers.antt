use Rattle.std.proofs.Common.{◌<◌, length, ap, arith, false-eqb, sym}
use Rattle.std.proofs.lemmas.Bool.{eqb-true}
use Rattle.swf_text.proofs.Bounds.{bounds_next, line_lengths, bounds_end}
use Rattle.swf_text.proofs.assembly.line_bounds.Goals as goal

pub loop-rest-preserved : goal.loop-rest-preserved
loop-rest-preserved g c =
    let some : 0 < length c.loop-rest.rest.now = omega (arith, false-eqb _ 0 c.loop-rest-test.ensures) in
    record {
      bounds = bounds_next c.loop-rest.bounds.items c.push.new.self.items c.loop-rest.start c.loop-rest.rest.now c.split_line.result.0.now c.split_line.result.1.now c.args.bytes.now some c.split_line.ensures.line c.split_line.ensures.rest c.in_ok-push.ensures.items c.loop-rest.invariant.bounds;
      left = omega (arith, line_lengths c.loop-rest.rest.now, ap length c.split_line.ensures.rest, ap length c.split_line.ensures.line);
      within = omega (arith, line_lengths c.loop-rest.rest.now, ap length c.split_line.ensures.rest, ap length c.split_line.ensures.line);
    }

pub returns-clause-lines : goal.returns-clause-lines
returns-clause-lines g c = bounds_end c.args.bytes.now c.loop-rest.rest.now c.loop-rest.bounds.items c.loop-rest.start (eqb-true _ 0 (sym c.loop-rest-test.ensures)) c.loop-rest.invariant.bounds
