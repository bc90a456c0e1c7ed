use Rattle.std.proofs.Common.{ℤ, arith, length-set}
use Rattle.swf_text.proofs.Codes.{values_more, values_whole}
use Rattle.swf_text.proofs.packed.PackedLine.fields.Goals as goal

pub loop-place-preserved : goal.loop-place-preserved
loop-place-preserved c =
    let h = c.loop-place.invariant in
    record {
      sized = omega (arith, length-set {A = ℤ});
      read = values_more c.args.self.now.0 c.loop-place.values (omega arith) h.sized c.loop-place.place c.value_of.result (omega arith) h.read c.value_of.ensures;
    }

pub returns : goal.returns
returns c =
    let h = c.loop-place.invariant in
    values_whole c.args.self.now.0 c.loop-place.values (omega arith) h.sized c.loop-place.place (omega arith) h.read
