use Rattle.std.proofs.Common.{◌≤◌, IfSome}
use Rattle.checkpoints.proofs.Worked.{Working}
use Rattle.checkpoints.proofs.cutting.work.Given as goal

abbrev pub invariant-loop : goal.invariant-loop
invariant-loop g l = record {
  working : Working l.fn.engine l.engine l.starts.items l.placed.items l.counter;
  within : IfSome l.fn.end (λ e. l.engine.position ≤ e);
}
