use Rattle.std.proofs.Common.{length, ◌-◌, ℕ, ◌≤◌, List, take}
use Rattle.easybook.proofs.Cuts.{IsWhole}
use Rattle.easybook.proofs.split.split_input.Given as goal

pub record Passed (input : List ℕ) (at : ℕ) : Type 0 where
  pub within : at ≤ length input
  pub whole : IsWhole (take at input)

abbrev pub invariant-lines : goal.invariant-lines
invariant-lines l = Passed l.input l.at

abbrev pub decreases-lines : goal.decreases-lines
decreases-lines l = length l.input - l.at
