use Rattle.std.proofs.Common.{ℕ, arith, length-set}
use Rattle.swf_text.proofs.Codes.{codes_more, codes_whole}
use Rattle.swf_text.proofs.packed.PackedLine.of.Goals as goal

pub loop-place-preserved : goal.loop-place-preserved
loop-place-preserved c =
    let h = c.loop-place.invariant in
    record {
      sized = omega (arith, length-set {A = ℕ});
      packed = codes_more c.loop-place.codes c.args.line.now.0 h.sized (omega arith) c.loop-place.place c.in-Some.code c.index-line-place.result (omega arith) h.packed c.in-Some.ensures;
    }

pub returns : goal.returns
returns c =
    let h = c.loop-place.invariant in
    codes_whole c.loop-place.codes c.args.line.now.0 h.sized (omega arith) c.loop-place.place (omega arith) h.packed
