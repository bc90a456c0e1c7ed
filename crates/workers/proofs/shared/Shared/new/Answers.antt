use Rattle.workers.proofs.Tying.{tied_first}
use Rattle.workers.proofs.shared.Shared.new.Goals as goal

pub invariant_of-result : goal.invariant_of-result
invariant_of-result g c = tied_first _ _ _ c.requires.opening c.requires.whole
