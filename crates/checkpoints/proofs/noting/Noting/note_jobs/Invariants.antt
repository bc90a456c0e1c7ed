use Rattle.std.proofs.Common.{◌≡◌, ℕ, map, take}
use Rattle.std.specs.Option.{option_or}
use Rattle.easy_rule.specs.Pass.{start_at}
use Rattle.easy_rule.specs.Simulation.{start_of}
use Rattle.checkpoints.specs.Starts.{known_start}
use Rattle.checkpoints.proofs.noting.Noting.note_jobs.Given as goal

abbrev pub invariant-loop-job : goal.invariant-loop-job
invariant-loop-job g l = (n : ℕ) → known_start l.self n ≡ option_or (known_start l.fn.self n) (start_of (map (start_at l.second) (take l.job-index l.jobs)) n)
