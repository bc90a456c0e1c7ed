-- Runs of one table and scenario, however they are cut.
use Rattle.std.specs.Prelude.{◌≡◌}
use Rattle.checkpoints.specs.Cut.{all_starts}
use Rattle.checkpoints.specs.RunView.{RunView, IsRun}
use Rattle.checkpoints.specs.Simulated.{schedule_of}

-- what is equal in two runs, whose segments may differ
pub record AreAlike (a b : RunView) : Type 0 where
  pub starts : all_starts a.segments ≡ all_starts b.segments
  pub schedule : schedule_of a ≡ schedule_of b
  pub tables : a.tables ≡ b.tables

-- runs of one table and scenario have the same starts in the same order, the same schedule and the same tables
abbrev pub RunsOfOneTableAreAlike : Type 0
RunsOfOneTableAreAlike = (a b : RunView) → IsRun a → IsRun b → a.log ≡ b.log → a.scenario ≡ b.scenario → AreAlike a b
