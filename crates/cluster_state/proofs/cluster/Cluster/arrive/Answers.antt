use Rattle.cluster_state.proofs.StateLemmas.{sound-arrived}
use Rattle.cluster_state.proofs.cluster.Cluster.arrive.Goals as goal

pub invariant_of-self-2 : goal.invariant_of-self-2
invariant_of-self-2 g c = record {
  accounted = c.self.invariant.accounted;
  sound = rw (c.push.ensures.order, c.in_ok-push.ensures.ok)
      (sound-arrived _ c.args.job c.self.invariant.sound (rw (← c.self.view_is) at c.requires.absent) (rw (← c.self.view_is) at c.requires.fits) c.push.ensures.limits);
}
