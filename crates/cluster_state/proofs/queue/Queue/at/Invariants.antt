use Rattle.std.proofs.Common.{◌≡◌, slice_get}
use Rattle.cluster_state.proofs.queue.Queue.at.Given as goal

abbrev pub invariant-loop-job : goal.invariant-loop-job
invariant-loop-job g l = slice_get l.job-iterator l.before ≡ slice_get l.self.jobs l.place
