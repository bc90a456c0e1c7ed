use Rattle.std.proofs.Common.{ap}
use Rattle.scripts.proofs.Starts.{built}
use Rattle.scripts.proofs.laws.each_scenario_is_added.Goals as goal

pub returns : goal.returns
returns c = λ log procs comments list is. ap (λ m. m.listing) (built log procs comments list is).begins
