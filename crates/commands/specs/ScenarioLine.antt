-- Comments of a log that tell of scenarios.
use Rattle.std.specs.Prelude.{ℕ, List, [], ◌∷◌, ◌++◌, length, drop, ◌&&◌, ◌==◌, nat_eq, nat_le, if◌then◌else◌, Option, Some, None, codes}
use Rattle.std.specs.List.{starts_with}
use Rattle.std.specs.Fmt.{decimal as decimal_text}
use Rattle.swf_text.specs.Number.{are_digits, digits_value}
use Rattle.swf_text.specs.Line.{from_first, fields}
use Rattle.scenarios.specs.declared.order.Order.{Order}
use Rattle.scenarios.specs.declared.order.Order.TheVariants.{Arrival}
use Rattle.scenarios.specs.Scenario.{ScenarioView}
use Rattle.commands.specs.declared.comment.ScenarioLine.{ScenarioLine}
use Rattle.scenarios.specs.Order.{order_of, order_word}
use Rattle.commands.specs.Words.{name_of}

-- ---- reading

-- a number of one to eighteen digits
abbrev pub short_number : List ℕ → Option ℕ
short_number word = if are_digits word && nat_le (length word) 18 then Some (digits_value word) else None

-- the line of these parts, where there are all
abbrev pub line_of_parts : Option (List ℕ) → Option ℕ → Option ℕ → Option Order → Option ScenarioLine
line_of_parts (Some name) (Some procs) (Some factor) (Some order) = Some (record { name = name; procs = procs; factor = factor; order = order })
line_of_parts name procs factor order = None

-- a name, processors, a factor and an order
abbrev pub line_made : List ℕ → List ℕ → List ℕ → Option Order → Option ScenarioLine
line_made name procs factor order = line_of_parts (name_of name) (short_number procs) (short_number factor) order

-- without an order it is that of arrival
abbrev pub line_of_words : List (List ℕ) → Option ScenarioLine
line_of_words (name ∷ procs ∷ factor ∷ []) = line_made name procs factor (Some Arrival)
line_of_words (name ∷ procs ∷ factor ∷ order ∷ []) = line_made name procs factor (order_of order)
line_of_words words = None

-- the words behind `Scenario:`
abbrev pub after_mark : List ℕ → Option ScenarioLine
after_mark bytes = if starts_with nat_eq bytes (codes "Scenario:") then line_of_words (fields (drop 9 bytes)) else None

-- the scenario that a comment tells of: `;`, blanks or none, `Scenario:`, and its words
abbrev pub scenario_line : List ℕ → Option ScenarioLine
scenario_line [] = None
scenario_line (byte ∷ bytes) = if byte == 59 then after_mark (from_first bytes) else None

-- ---- writing

-- the comment that tells of a scenario, all four words with one space between
abbrev pub scenario_comment : List ℕ → ScenarioView → List ℕ
scenario_comment name scenario =
    codes "; Scenario: " ++ (name ++ 32 ∷ (decimal_text scenario.procs ++ 32 ∷ (decimal_text scenario.factor ++ 32 ∷ order_word scenario.order)))
