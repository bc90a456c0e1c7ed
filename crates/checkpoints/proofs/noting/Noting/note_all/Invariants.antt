use Rattle.std.proofs.Common.{◌≡◌, ℕ, take}
use Rattle.std.specs.Option.{option_or}
use Rattle.easy_rule.specs.Simulation.{start_of}
use Rattle.checkpoints.specs.Starts.{known_start}
use Rattle.checkpoints.proofs.noting.Noting.note_all.Given as goal

abbrev pub invariant-loop-start : goal.invariant-loop-start
invariant-loop-start g l = (n : ℕ) → known_start l.self n ≡ option_or (known_start l.fn.self n) (start_of (take l.start-index l.starts) n)
