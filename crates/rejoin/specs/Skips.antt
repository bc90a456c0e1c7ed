-- Counts of skipped entries after edits.
use Rattle.std.specs.Prelude.{◌≡◌, ◌⊎◌, ℕ, List, [], ◌∷◌, Option, Some, None, All, sum_by}
use Rattle.std.specs.Option.{option_and_then}
use Rattle.std.specs.Result.{result_err}
use Rattle.swf_text.specs.Entry.{LogEntry}
use Rattle.job_table.specs.Edit.{entry_of}
use Rattle.scenarios.specs.declared.skip.Skip.{Skip}
use Rattle.scenarios.specs.declared.skip.Skip.TheVariants as reasons
use Rattle.scenarios.specs.declared.skips.Skips.{Skips}
use Rattle.scenarios.specs.Scenario.{ScenarioView}
use Rattle.scenarios.specs.Effective.{effective}
use Rattle.scenarios.specs.Skips.{count_of}
use Rattle.std.specs.Ordering.{nat_cmp}
use Rattle.std.specs.List.Sorted.{IsStrictlySortedBy}
use Rattle.job_table.specs.Edit.{LogEdit}
use Rattle.rejoin.specs.Named.{named}

-- why the entry of a number is skipped, where there is one and it is
abbrev pub skip_at : List LogEntry → ScenarioView → ℕ → Option Skip
skip_at log scenario n = option_and_then (λ e. result_err (effective e scenario)) (entry_of n log)

-- how often a reason stands there
abbrev pub times : Skip → Option Skip → ℕ
times k None = 0
times k (Some r) = count_of k (r ∷ [])

-- how many of these numbers have an entry that is skipped for a reason
abbrev pub skipped_at : Skip → List LogEntry → ScenarioView → List ℕ → ℕ
skipped_at k log scenario ns = sum_by (λ n. times k (skip_at log scenario n)) ns

-- the count of a reason
abbrev pub count_in : Skips → Skip → ℕ
count_in s reasons.NoSize = s.size
count_in s reasons.NoRun = s.run
count_in s reasons.TooLarge = s.large
count_in s reasons.TooLong = s.long

-- a number stands among these
abbrev pub IsAmong : ℕ → List ℕ → Type 0
IsAmong n [] = ⊥
IsAmong n (m ∷ ms) = (m ≡ n) ⊎ IsAmong n ms

-- each number of these edits stands among the numbers, which rise
pub record AreNumbersOf (edits : List LogEdit) (ns : List ℕ) : Type 0 where
  pub rising : IsStrictlySortedBy nat_cmp ns
  pub each : All (λ edit. IsAmong (named edit) ns) edits
