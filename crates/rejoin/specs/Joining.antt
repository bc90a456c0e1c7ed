-- How far the new segments have come.
use Rattle.std.specs.Prelude.{◌≡◌, ℕ, ◌⊎◌, true, false}
use Rattle.checkpoints.specs.Nodes.{AreFrom}
use Rattle.checkpoints.specs.Pieces.{all_in}
use Rattle.rejoin.specs.Rejoining.{ChangeView, Stands}
use Rattle.rejoin.specs.Noted.{IsNoted}
use Rattle.rejoin.specs.declared.patch.Patch.{Patch}

-- The engine is at work before the old segments of a place on: behind the last new segment, with the starts of both
-- simulations noted; and the places tell where the new segments come from.
pub record IsWorking {A : Type 0} (c : ChangeView) (n at : ℕ) (patch : Patch A) : Type 0 where
  pub working : patch.last_reused ≡ false
  pub stands : Stands c n at false patch.engine (all_in c.is patch.segments) patch.handled patch.reused
  pub noted : IsNoted c at patch.engine.position patch.ledger
  pub places : AreFrom c.old (all_in c.is patch.segments) patch.places.items

-- The last new segment is a reused one, behind which the old segments of a place on begin; nothing needs to be noted.
pub record IsBehindReused {A : Type 0} (c : ChangeView) (n at : ℕ) (patch : Patch A) : Type 0 where
  pub reused : patch.last_reused ≡ true
  pub stands : Stands c n at true patch.engine (all_in c.is patch.segments) patch.handled patch.reused
  pub places : AreFrom c.old (all_in c.is patch.segments) patch.places.items

-- all is done up to the old segments of a place on
abbrev pub IsUpTo : {A : Type 0} → ChangeView → ℕ → ℕ → Patch A → Type 0
IsUpTo c n at patch = IsWorking c n at patch ⊎ IsBehindReused c n at patch
