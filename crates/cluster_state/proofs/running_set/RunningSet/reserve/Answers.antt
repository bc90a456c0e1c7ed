use Rattle.cluster_state.proofs.running_set.RunningSet.reserve.Goals as goal

pub invariant_of-self : goal.invariant_of-self
invariant_of-self g c = record {
  once = rw c.reserve.ensures.blocks c.self.invariant.once;
  rises = rw c.reserve.ensures.blocks c.self.invariant.rises;
  heap = c.self.invariant.heap;
  kept_ends = rw c.reserve.ensures.blocks c.self.invariant.kept_ends;
}

pub invariant_of-self-in_err-reserve-2 : goal.invariant_of-self-in_err-reserve-2
invariant_of-self-in_err-reserve-2 g c = record {
  once = rw c.reserve.ensures.blocks c.self.invariant.once;
  rises = rw c.reserve.ensures.blocks c.self.invariant.rises;
  heap = rw c.reserve-2.ensures.items c.self.invariant.heap;
  kept_ends = rw (c.reserve.ensures.blocks, c.reserve-2.ensures.items) c.self.invariant.kept_ends;
}

pub invariant_of-self-2 : goal.invariant_of-self-2
invariant_of-self-2 g c = record {
  once = rw c.reserve.ensures.blocks c.self.invariant.once;
  rises = rw c.reserve.ensures.blocks c.self.invariant.rises;
  heap = rw c.reserve-2.ensures.items c.self.invariant.heap;
  kept_ends = rw (c.reserve.ensures.blocks, c.reserve-2.ensures.items) c.self.invariant.kept_ends;
}
