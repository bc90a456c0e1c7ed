use Rattle.cluster_state.proofs.Lemmas.{sound-arrived}
use Rattle.oracle_runs.proofs.state.PlainState.arrive.Goals as goal

pub invariant_of-self-2 : goal.invariant_of-self-2
invariant_of-self-2 g c = rw c.in_ok-push.ensures.items (sound-arrived _ c.args.job c.self.invariant (rw (← c.self.view_is) at c.requires.absent) (rw (← c.self.view_is) at c.requires.fits) c.size.ensures.limits)
