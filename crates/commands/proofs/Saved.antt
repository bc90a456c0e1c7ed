-- The comments that tell of scenarios, as they are written and read: what is written of a scenario is read as it.
use Rattle.std.proofs.Common.{◌≡◌, ℕ, ◌<◌, ◌≤◌, true, false, ◌&&◌, ltb, leb, List, [], ◌∷◌, ◌++◌, length, Some, refl, sym, ap, ◌∙◌, arith}
use Rattle.std.specs.List.{list_all}
use Rattle.std.specs.Char.{is_ascii_digit}
use Rattle.std.specs.Fmt.{decimal as decimal_text}
use Rattle.std.proofs.lemmas.Bool.{lt-ltb}
use Rattle.std.proofs.lemmas.Bool.Decides.{nat_tests}
use Rattle.std.proofs.lemmas.Fmt.{decimal_nonempty, length-decimal-le}
use Rattle.std.proofs.lemmas.Grind.{common_steps}
use Rattle.std.proofs.lemmas.List.{append-nil}
use Rattle.swf_text.specs.Line.{is_blank, fields}
use Rattle.swf_text.proofs.Lemmas.{and_first, solid_fields, spelled, fields-blank}
use Rattle.scenarios.specs.declared.order.Order.{Order}
use Rattle.scenarios.specs.declared.order.Order.TheVariants.{Arrival, Shortest}
use Rattle.scenarios.specs.Name.{is_name, is_name_byte}
use Rattle.scenarios.specs.Scenario.{ScenarioView, IsScenario}
use Rattle.commands.specs.declared.comment.ScenarioLine.{ScenarioLine}
use Rattle.scenarios.specs.Order.{order_of, order_word}
use Rattle.commands.specs.ScenarioLine.{short_number, line_of_words, scenario_line, scenario_comment}
use Rattle.commands.proofs.LineWords.{name_bytes}

name_solid : (b : ℕ) → is_name_byte b ≡ true → is_blank b ≡ false
name_solid b h = grind (arith, common_steps)

digit_solid : (b : ℕ) → is_ascii_digit b ≡ true → is_blank b ≡ false
digit_solid b h = grind (arith, common_steps)

short_decimal : (n : ℕ) → n < 100000000 → short_number (decimal_text n) ≡ Some n
short_decimal n lt =
    let digits = spelled n (omega arith) in
    let some : ltb 0 (length (decimal_text n)) ≡ true = lt-ltb 0 (length (decimal_text n)) (decimal_nonempty n (omega arith)) in
    let few : length (decimal_text n) ≤ 8 = length-decimal-le 8 n (omega arith) (omega arith) (omega arith) in
    let short : leb (length (decimal_text n)) 18 ≡ true = grind (arith, nat_tests) in
    rw (some, digits.0, short, digits.1) refl

named_order : (o : Order) → (list_all is_name_byte (order_word o) ≡ true) × (0 < length (order_word o)) × (order_of (order_word o) ≡ Some o)
named_order Arrival = (refl, omega arith, refl)
named_order Shortest = (refl, omega arith, refl)

some_name : (name : List ℕ) → is_name name ≡ true → 0 < length name
some_name name h =
    let both = and_first (leb 1 (length name) && leb (length name) 16) (list_all is_name_byte name) h in
    le-leb 1 (length name) (and_first (leb 1 (length name)) (leb (length name) 16) both)
  where
    le-leb : (a b : ℕ) → leb a b ≡ true → a ≤ b
    le-leb a b e = grind (arith, common_steps)

comment_fields : (name : List ℕ) (scenario : ScenarioView) → is_name name ≡ true → IsScenario scenario → fields (32 ∷ (name ++ 32 ∷ (decimal_text scenario.procs ++ 32 ∷ (decimal_text scenario.factor ++ 32 ∷ order_word scenario.order)))) ≡ name ∷ decimal_text scenario.procs ∷ decimal_text scenario.factor ∷ order_word scenario.order ∷ []
comment_fields name scenario called set =
    let procs = decimal_text scenario.procs in
    let factor = decimal_text scenario.factor in
    let order = order_word scenario.order in
    let p = set.procs_fit in
    let f = set.factor_fits in
    let last : fields order ≡ order ∷ [] = ap fields (sym (append-nil order)) ∙ solid_fields is_name_byte name_solid order [] (named_order scenario.order).0 (named_order scenario.order).1 refl in
    let third : fields (factor ++ 32 ∷ order) ≡ factor ∷ order ∷ [] = solid_fields is_ascii_digit digit_solid factor (32 ∷ order) (spelled scenario.factor (omega arith)).0 (decimal_nonempty scenario.factor (omega arith)) refl ∙ ap (λ (l : List (List ℕ)). factor ∷ l) (fields-blank 32 order refl ∙ last) in
    let second : fields (procs ++ 32 ∷ (factor ++ 32 ∷ order)) ≡ procs ∷ factor ∷ order ∷ [] = solid_fields is_ascii_digit digit_solid procs (32 ∷ (factor ++ 32 ∷ order)) (spelled scenario.procs (omega arith)).0 (decimal_nonempty scenario.procs (omega arith)) refl ∙ ap (λ (l : List (List ℕ)). procs ∷ l) (fields-blank 32 (factor ++ 32 ∷ order) refl ∙ third) in
    fields-blank 32 (name ++ 32 ∷ (procs ++ 32 ∷ (factor ++ 32 ∷ order))) refl
    ∙ solid_fields is_name_byte name_solid name (32 ∷ (procs ++ 32 ∷ (factor ++ 32 ∷ order))) (name_bytes name called) (some_name name called) refl
    ∙ ap (λ (l : List (List ℕ)). name ∷ l) (fields-blank 32 (procs ++ 32 ∷ (factor ++ 32 ∷ order)) refl ∙ second)

-- the line that tells of a scenario of this name
abbrev pub line_for : List ℕ → ScenarioView → ScenarioLine
line_for name scenario = record { name = name; procs = scenario.procs; factor = scenario.factor; order = scenario.order }

-- the comment that is written of a scenario within the limits, under a name, is read as the line that tells of it
pub scenario_line-comment : (name : List ℕ) (scenario : ScenarioView) → is_name name ≡ true → IsScenario scenario → scenario_line (scenario_comment name scenario) ≡ Some (line_for name scenario)
scenario_line-comment name scenario called set =
    let p = set.procs_fit in
    let f = set.factor_fits in
    let procs = short_decimal scenario.procs (omega arith) in
    let factor = short_decimal scenario.factor (omega arith) in
    let order = (named_order scenario.order).2 in
    let words = comment_fields name scenario called set in
    ap line_of_words words ∙ rw (called, procs, factor, order) refl
