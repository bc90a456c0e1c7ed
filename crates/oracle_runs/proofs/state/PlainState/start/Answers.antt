use Rattle.cluster_state.proofs.Lemmas.{sound-started}
use Rattle.oracle_runs.proofs.state.PlainState.start.Goals as goal

pub invariant_of-self : goal.invariant_of-self
invariant_of-self g c = rw c.in_err-put_in.ensures.err c.self.invariant

pub invariant_of-self-2 : goal.invariant_of-self-2
invariant_of-self-2 g c = rw (c.take_out.ensures, c.number.ensures.value, c.in_ok-put_in.ensures.ok) (sound-started _ c.args.job c.args.now c.self.invariant (rw (← c.self.view_is) at c.requires.waits) (rw (← c.self.view_is) at c.requires.fits) c.requires.early)
