-- A command takes nineteen words at most, and a scenario's comment four: what follows the first twenty words makes no difference.
use Rattle.std.proofs.Common.{◌≡◌, ℕ, ◌≤◌, false, eqb, List, [], ◌∷◌, length, take, get_or, cond, Ok, Option, Some, None, refl, ap, arith, inl, inr}
use Rattle.std.proofs.lemmas.Bool.{cases_lt}
use Rattle.std.proofs.lemmas.Grind.{common_steps}
use Rattle.std.proofs.lemmas.List.{take_all, length-take}
use Rattle.commands.specs.declared.keyword.Keyword.{Keyword}
use Rattle.commands.specs.declared.keyword.Keyword.TheVariants as keys
use Rattle.commands.specs.declared.command.Command.TheVariants as commands
use Rattle.commands.specs.Commands.{insert_of, remove_of, change_of, scenario_of, only_name, no_words, made, keyword_of, command_of, with_keyword, command_of_words}
use Rattle.commands.specs.ScenarioLine.{line_of_words}

only_name-take : (ws : List (List ℕ)) → only_name (take 19 ws) ≡ only_name ws
only_name-take [] = refl
only_name-take (a ∷ []) = refl
only_name-take (a ∷ b ∷ ws) = refl

no_words-take : (ws : List (List ℕ)) → no_words (take 19 ws) ≡ no_words ws
no_words-take [] = refl
no_words-take (a ∷ ws) = refl

not_eighteen : (n : ℕ) → 19 ≤ n → eqb n 18 ≡ false
not_eighteen n h = grind (arith, common_steps)

module _ {A : Type 0} where
  remove_of-take : (ws : List (List ℕ)) → remove_of {A = A} (take 19 ws) ≡ remove_of ws
  remove_of-take [] = refl
  remove_of-take (a ∷ []) = refl
  remove_of-take (a ∷ b ∷ ws) = refl

  change_of-take : (ws : List (List ℕ)) → change_of {A = A} (take 19 ws) ≡ change_of ws
  change_of-take [] = refl
  change_of-take (a ∷ []) = refl
  change_of-take (a ∷ b ∷ []) = refl
  change_of-take (a ∷ b ∷ c ∷ []) = refl
  change_of-take (a ∷ b ∷ c ∷ d ∷ ws) = refl

  scenario_of-take : (ws : List (List ℕ)) → scenario_of {A = A} (take 19 ws) ≡ scenario_of ws
  scenario_of-take [] = refl
  scenario_of-take (a ∷ []) = refl
  scenario_of-take (a ∷ b ∷ []) = refl
  scenario_of-take (a ∷ b ∷ c ∷ []) = refl
  scenario_of-take (a ∷ b ∷ c ∷ d ∷ []) = refl
  scenario_of-take (a ∷ b ∷ c ∷ d ∷ e ∷ ws) = refl

  insert_of-take : (ws : List (List ℕ)) → insert_of {A = A} (take 19 ws) ≡ insert_of ws
  insert_of-take ws = elim (cases_lt (length ws) 19) [
    | inl lt ↦ ap insert_of (take_all 19 ws (omega arith))
    | inr le ↦
        let many : eqb (length ws) 18 ≡ false = not_eighteen (length ws) le in
        let some : eqb (length (take 19 ws)) 18 ≡ false = not_eighteen (length (take 19 ws)) (omega (arith, length-take 19 ws)) in
        rw (many, some) refl
  ]

  command_of-take : (key : Keyword) (ws : List (List ℕ)) → command_of {A = A} key (take 19 ws) ≡ command_of key ws
  command_of-take keys.Insert ws = insert_of-take ws
  command_of-take keys.Remove ws = remove_of-take ws
  command_of-take keys.Change ws = change_of-take ws
  command_of-take keys.Scenario ws = scenario_of-take ws
  command_of-take keys.Drop ws = ap (made commands.Drop) (only_name-take ws)
  command_of-take keys.Retry ws = ap (made commands.Retry) (only_name-take ws)
  command_of-take keys.Settle ws = ap (made (λ _. commands.Settle)) (no_words-take ws)
  command_of-take keys.Schedule ws = ap (made commands.Schedule) (only_name-take ws)
  command_of-take keys.Table ws = ap (made commands.Table) (only_name-take ws)
  command_of-take keys.Users ws = ap (made commands.Users) (only_name-take ws)
  command_of-take keys.Days ws = ap (made commands.Days) (only_name-take ws)
  command_of-take keys.Side ws = ap (made (λ _. commands.Side)) (no_words-take ws)
  command_of-take keys.Log ws = ap (made commands.Log) (only_name-take ws)
  command_of-take keys.Save ws = ap (made (λ _. commands.Save)) (no_words-take ws)
  command_of-take keys.Version ws = ap (made (λ _. commands.Version)) (no_words-take ws)
  command_of-take keys.Quit ws = ap (made (λ _. commands.Quit)) (no_words-take ws)

  with_keyword-take : (o : Option Keyword) (ws : List (List ℕ)) → with_keyword {A = A} o (take 19 ws) ≡ with_keyword o ws
  with_keyword-take None ws = refl
  with_keyword-take (Some key) ws = ap (made Some) (command_of-take key ws)

  -- the first twenty words of a line give the command, the fault or none that all of its words give
  pub command_of_words-take : (ws : List (List ℕ)) → command_of_words {A = A} (take 20 ws) ≡ command_of_words ws
  command_of_words-take [] = refl
  command_of_words-take (word ∷ ws) = ap (λ r. cond (eqb (get_or word 0 0) 35) (Ok None) r) (with_keyword-take (keyword_of word) ws)

-- the first twenty words behind `Scenario:` tell of the scenario that all of them tell of, or of none as they do
pub line_of_words-take : (ws : List (List ℕ)) → line_of_words (take 20 ws) ≡ line_of_words ws
line_of_words-take [] = refl
line_of_words-take (a ∷ []) = refl
line_of_words-take (a ∷ b ∷ []) = refl
line_of_words-take (a ∷ b ∷ c ∷ []) = refl
line_of_words-take (a ∷ b ∷ c ∷ d ∷ []) = refl
line_of_words-take (a ∷ b ∷ c ∷ d ∷ e ∷ ws) = refl
