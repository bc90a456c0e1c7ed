-- The commands of a script: one a line, its words between blanks.
use Rattle.std.specs.Prelude.{ℕ, List, [], ◌∷◌, length, ◌==◌, nat_lt, if◌then◌else◌, Option, Some, None, Result, Ok, Err, ℤ, codes, find, slice_index_or}
use Rattle.std.specs.Option.{option_map}
use Rattle.std.specs.Str.{bytes_eq}
use Rattle.swf_text.specs.Limits.{line_limit}
use Rattle.swf_text.specs.Number.{number_of}
use Rattle.swf_text.specs.Line.{without_returns, fields}
use Rattle.scenarios.specs.declared.order.Order.{Order}
use Rattle.scenarios.specs.declared.order.Order.TheVariants.{Arrival}
use Rattle.scenarios.specs.Order.{order_of}
use Rattle.commands.specs.declared.keyword.Keyword.{Keyword}
use Rattle.commands.specs.declared.keyword.Keyword.TheVariants as keys
use Rattle.commands.specs.declared.command.Command.{Command}
use Rattle.commands.specs.declared.command.Command.TheVariants as commands
use Rattle.commands.specs.declared.fault.CommandFault.{CommandFault}
use Rattle.commands.specs.declared.fault.CommandFault.TheVariants.{TooLong, Unknown, Words, BadWord}
use Rattle.commands.specs.Words.{name_of, job_number, field_number, machine, factor, entry_values}

-- the commands by their words
abbrev pub keywords : List (List ℕ × Keyword)
keywords =
    (codes "insert", keys.Insert)
    ∷ (codes "remove", keys.Remove)
    ∷ (codes "change", keys.Change)
    ∷ (codes "scenario", keys.Scenario)
    ∷ (codes "drop", keys.Drop)
    ∷ (codes "retry", keys.Retry)
    ∷ (codes "settle", keys.Settle)
    ∷ (codes "schedule", keys.Schedule)
    ∷ (codes "table", keys.Table)
    ∷ (codes "users", keys.Users)
    ∷ (codes "days", keys.Days)
    ∷ (codes "side", keys.Side)
    ∷ (codes "log", keys.Log)
    ∷ (codes "save", keys.Save)
    ∷ (codes "version", keys.Version)
    ∷ (codes "quit", keys.Quit)
    ∷ []

-- the command that a word begins, if any
abbrev pub keyword_of : List ℕ → Option Keyword
keyword_of word = option_map (λ entry. entry.1) (find (λ entry. bytes_eq entry.0 word) keywords)

-- a word's value, and what follows from it; a word without one is bad at its place
abbrev pub word_then : {T U : Type 0} → ℕ → Option T → (T → Result U CommandFault) → Result U CommandFault
word_then place None rest = Err (BadWord place)
word_then place (Some value) rest = rest value

-- a name alone
abbrev pub only_name : List (List ℕ) → Result (List ℕ) CommandFault
only_name (name ∷ []) = word_then 1 (name_of name) (λ n. Ok n)
only_name words = Err Words

-- no word
abbrev pub no_words : List (List ℕ) → Result (Unit {0}) CommandFault
no_words [] = Ok tt
no_words (word ∷ words) = Err Words

-- the answer with something made of its value
abbrev pub made : {T U : Type 0} → (T → U) → Result T CommandFault → Result U CommandFault
made f (Ok value) = Ok (f value)
made f (Err fault) = Err fault

-- ---- the words behind a command

module _ {A : Type 0} where
  -- the entry of these values has no partial lines
  abbrev pub insert_made : Result (List ℤ) ℕ → Result (Command A) CommandFault
  insert_made (Ok values) = Ok (commands.Insert (record { main = values; parts = [] }))
  insert_made (Err place) = Err (BadWord place)

  -- eighteen numbers
  abbrev pub insert_of : List (List ℕ) → Result (Command A) CommandFault
  insert_of words = if length words == 18 then insert_made (entry_values 1 words) else Err Words

  -- a job number
  abbrev pub remove_of : List (List ℕ) → Result (Command A) CommandFault
  remove_of (number ∷ []) = word_then 1 (job_number number) (λ n. Ok (commands.Remove n))
  remove_of words = Err Words

  -- a job number, a field and a number
  abbrev pub change_of : List (List ℕ) → Result (Command A) CommandFault
  change_of (number ∷ field ∷ value ∷ []) =
      word_then 1 (job_number number) (λ n. word_then 2 (field_number field) (λ f. word_then 3 (number_of value) (λ v. Ok (commands.Change n f v))))
  change_of words = Err Words

  -- a name, processors, a factor and an order
  abbrev pub scenario_made : List ℕ → List ℕ → List ℕ → Option Order → Result (Command A) CommandFault
  scenario_made name procs times order =
      word_then 1 (name_of name) (λ n. word_then 2 (machine procs) (λ p. word_then 3 (factor times) (λ f. word_then 4 order (λ o.
      Ok (commands.Scenario n (record { procs = p; factor = f; order = o }))))))

  -- without an order it is that of arrival
  abbrev pub scenario_of : List (List ℕ) → Result (Command A) CommandFault
  scenario_of (name ∷ procs ∷ times ∷ []) = scenario_made name procs times (Some Arrival)
  scenario_of (name ∷ procs ∷ times ∷ order ∷ []) = scenario_made name procs times (order_of order)
  scenario_of words = Err Words

  -- which words each command takes
  abbrev pub command_of : Keyword → List (List ℕ) → Result (Command A) CommandFault
  command_of keys.Insert words = insert_of words
  command_of keys.Remove words = remove_of words
  command_of keys.Change words = change_of words
  command_of keys.Scenario words = scenario_of words
  command_of keys.Drop words = made commands.Drop (only_name words)
  command_of keys.Retry words = made commands.Retry (only_name words)
  command_of keys.Settle words = made (λ _. commands.Settle) (no_words words)
  command_of keys.Schedule words = made commands.Schedule (only_name words)
  command_of keys.Table words = made commands.Table (only_name words)
  command_of keys.Users words = made commands.Users (only_name words)
  command_of keys.Days words = made commands.Days (only_name words)
  command_of keys.Side words = made (λ _. commands.Side) (no_words words)
  command_of keys.Log words = made commands.Log (only_name words)
  command_of keys.Save words = made (λ _. commands.Save) (no_words words)
  command_of keys.Version words = made (λ _. commands.Version) (no_words words)
  command_of keys.Quit words = made (λ _. commands.Quit) (no_words words)

  -- ---- a line

  abbrev pub with_keyword : Option Keyword → List (List ℕ) → Result (Option (Command A)) CommandFault
  with_keyword None words = Err Unknown
  with_keyword (Some keyword) words = made Some (command_of keyword words)

  -- a line without words is none, nor is a note, which begins with `#`
  abbrev pub command_of_words : List (List ℕ) → Result (Option (Command A)) CommandFault
  command_of_words [] = Ok None
  command_of_words (word ∷ words) = if slice_index_or word 0 0 == 35 then Ok None else with_keyword (keyword_of word) words

  -- the command of a line, which is given without its line feed: none, or the first fault
  abbrev pub command_of_line : List ℕ → Result (Option (Command A)) CommandFault
  command_of_line line = if nat_lt line_limit (length line) then Err TooLong else command_of_words (fields (without_returns line))
