-- How many event seconds a segment may hold.
use Rattle.std.specs.Prelude.{ℕ, ◌≤◌}
use Rattle.checkpoints.specs.declared.fault.RunFault.{RunFault}
use Rattle.checkpoints.specs.declared.fault.RunFault.TheVariants.{BadSpacing, Memory}

-- the most event seconds of a segment
abbrev pub spacing_limit : ℕ
spacing_limit = 65536

-- the limits on a spacing, in event seconds
pub record IsSpacing (spacing : ℕ) : Type 0 where
  pub some : 1 ≤ spacing
  pub limited : spacing ≤ spacing_limit

-- the spacing is out of its limits, or it is not and a growth was refused
abbrev pub IsRefusal : ℕ → RunFault → Type 0
IsRefusal spacing BadSpacing = IsSpacing spacing → ⊥
IsRefusal spacing Memory = IsSpacing spacing
