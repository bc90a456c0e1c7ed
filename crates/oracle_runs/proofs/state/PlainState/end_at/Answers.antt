use Rattle.oracle_runs.proofs.Ending.{sound-ended}
use Rattle.oracle_runs.proofs.state.PlainState.end_at.Goals as goal

pub invariant_of-self : goal.invariant_of-self
invariant_of-self g c = rw c.drop_at.ensures (sound-ended _ c.args.t c.self.invariant)
