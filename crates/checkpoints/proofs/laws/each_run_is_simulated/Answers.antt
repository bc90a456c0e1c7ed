use Rattle.checkpoints.proofs.Alike.{run-simulated}
use Rattle.checkpoints.proofs.laws.each_run_is_simulated.Goals as goal

pub returns : goal.returns
returns c = run-simulated
