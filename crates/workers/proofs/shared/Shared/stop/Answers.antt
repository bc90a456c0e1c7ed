use Rattle.std.proofs.Common.{arith, refl}
use Rattle.chronicle.specs.Events.{Stopped}
use Rattle.workers.proofs.Tying.{or_true, tied_behind}
use Rattle.workers.proofs.shared.Shared.stop.Goals as goal

pub invariant_of-self : goal.invariant_of-self
invariant_of-self g c = tied_behind _ _ _ _ _ _ _ _ _ _ Stopped refl (omega arith) (omega arith) (or_true c.self.inside.stopped) c.self.invariant c.stop.ensures
