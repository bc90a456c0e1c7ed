-- Searches in numbers.
use Rattle.std.specs.Prelude.{ℕ, ◌≤◌, ◌<◌, List, All, Option, Some, None}
use Rattle.std.specs.List.{Contains}

-- the least of these numbers that is not below the bound; None where all are below it
abbrev pub IsLeastFrom : List ℕ → ℕ → Option ℕ → Type 0
IsLeastFrom ns b None = All (λ n. n < b) ns
IsLeastFrom ns b (Some m) = Contains ns m × (b ≤ m) × All (λ n. b ≤ n → m ≤ n) ns
