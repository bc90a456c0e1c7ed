-- How many entries of a log are skipped, by reason.
use Rattle.std.specs.Prelude.{ℕ, nat_eq, List, count_by}
use Rattle.std.specs.List.{filter_map}
use Rattle.std.specs.Result.{result_err}
use Rattle.swf_text.specs.Entry.{LogEntry}
use Rattle.scenarios.specs.declared.skip.Skip.{Skip}
use Rattle.scenarios.specs.declared.skip.Skip.TheVariants.{NoSize, NoRun, TooLarge, TooLong}
use Rattle.scenarios.specs.declared.skips.Skips.{Skips}
use Rattle.scenarios.specs.Scenario.{ScenarioView}
use Rattle.scenarios.specs.Effective.{effective}

-- the reasons for which entries of a log are skipped, entry by entry
abbrev pub reasons_of : List LogEntry → ScenarioView → List Skip
reasons_of log scenario = filter_map (λ entry. result_err (effective entry scenario)) log

-- the place of a reason in the order in which they are looked at
abbrev pub place_of : Skip → ℕ
place_of NoSize = 1
place_of NoRun = 2
place_of TooLarge = 3
place_of TooLong = 4

-- how often a reason stands among these
abbrev pub count_of : Skip → List Skip → ℕ
count_of reason reasons = count_by (λ r. nat_eq (place_of r) (place_of reason)) reasons

-- how many entries of a log are skipped, by reason
abbrev pub skips_among : List Skip → Skips
skips_among reasons = record { size = count_of NoSize reasons; run = count_of NoRun reasons; large = count_of TooLarge reasons; long = count_of TooLong reasons }

abbrev pub skips_of : List LogEntry → ScenarioView → Skips
skips_of log scenario = skips_among (reasons_of log scenario)
