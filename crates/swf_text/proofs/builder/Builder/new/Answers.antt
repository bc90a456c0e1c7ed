use Rattle.std.proofs.Common.{arith}
use Rattle.swf_text.proofs.builder.Builder.new.Goals as goal

pub invariant_of-result : goal.invariant_of-result
invariant_of-result g c = rw c.new-2.ensures.items (record {
  log = record { sound = tt; distinct = λ n. omega arith; capacity = omega arith };
  index = record { rise = c.new-3.ensures.rising; known = c.new-3.ensures.none };
})
