-- A published run.
use Rattle.std.specs.Prelude.{ℕ}
use Rattle.checkpoints.specs.RunView.{RunView}

-- a run, and the version of whose log it is
pub record PublishedView : Type 0 where
  pub version : ℕ
  pub run : RunView
