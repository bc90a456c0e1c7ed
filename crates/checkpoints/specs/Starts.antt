-- The starts of a schedule, looked up by number.
use Rattle.std.specs.Prelude.{◌≡◌, ℕ, ◌<◌, ◌-◌, IfSome, ◌&&◌, nat_le, nat_lt, List, length, slice_index_or, Option, Some, None, if◌then◌else◌}
use Rattle.std.specs.Option.{option_map}
use Rattle.scenarios.specs.Limits.{seconds_end}
use Rattle.scenarios.specs.Job.{EffectiveJob}
use Rattle.easy_rule.specs.declared.start.Start.{Start}
use Rattle.easy_rule.specs.Simulation.{start_of}
use Rattle.checkpoints.specs.declared.row.Row.{Row}
use Rattle.checkpoints.specs.Schedule.{row_at}

-- the second of each number from the least on, in a place of its own, and the starts of all other numbers
pub record KnownStarts : Type 0 where
  pub least : ℕ
  pub places : List (Option ℕ)
  pub others : List Start

-- the place of a number among so many, of which the first is that of the least
abbrev pub place_in : ℕ → ℕ → ℕ → Option ℕ
place_in least len n = if nat_le least n && nat_lt (n - least) len then Some (n - least) else None

-- the second at a place, or else the other one
abbrev pub second_at : Option ℕ → List (Option ℕ) → Option ℕ → Option ℕ
second_at (Some place) places other = slice_index_or places place None
second_at None places other = other

-- the second at which a number starts
abbrev pub start_in : ℕ → List (Option ℕ) → List Start → ℕ → Option ℕ
start_in least places others n = second_at (place_in least (length places) n) places (start_of others n)

abbrev pub known_start : KnownStarts → ℕ → Option ℕ
known_start known n = start_in known.least known.places known.others n

-- the row of a job, at its start among these
abbrev pub row_by : KnownStarts → EffectiveJob → Option Row
row_by known job = option_map (row_at job) (known_start known job.number)

-- no number starts later than a simulation may last
abbrev pub AreEarly : KnownStarts → Type 0
AreEarly known = (n : ℕ) → IfSome (known_start known n) (λ at. at < seconds_end)

-- no number that may have one of so many places has a start among these
abbrev pub AreApart : ℕ → ℕ → List Start → Type 0
AreApart least most others = (n place : ℕ) → place_in least most n ≡ Some place → start_of others n ≡ None
