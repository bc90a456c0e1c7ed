-- The words of the program: which are taken, and what they choose.
use Rattle.std.specs.Prelude.{◌≡◌, ℕ, nat_le, ◌==◌, Bool, false, ◌&&◌, ◌||◌, not, is_some, List, [], length, Option, Some, None, unwrap_or, map, codes, if◌then◌else◌}
use Rattle.std.specs.Option.{option_map}
use Rattle.std.specs.Str.{bytes_eq}
use Rattle.clap.specs.Walk.{Rule, Text, all_of, first_of, is_empty}
use Rattle.clap.specs.Simple.{App, matches_of, new_app, new_rule, with_rule}
use Rattle.clap.specs.Faults.{fault_of}
use Rattle.clap.specs.Matches.{matched_of, raw_values}
use Rattle.clap.specs.declared.parser.matches.Found.{Found}
use Rattle.clap.specs.declared.builder.action.ArgAction.TheVariants.{Append, Set, SetTrue}
use Rattle.commands.specs.Words.{machine, number_between}
use Rattle.checkpoints.specs.Spacing.{spacing_limit}
use Rattle.workers.specs.Callers.{callers_limit}
use Rattle.easybook.specs.declared.words.Words.{Words}
use Rattle.easybook.specs.declared.words.WordsFault.{WordsFault}
use Rattle.easybook.specs.declared.words.WordsFault.TheVariants.{BadWords, Memory}

-- what the words choose: the file that holds the log, if any, the machine's processors, if they name them, the most event
-- seconds of a segment, how many workers there are, the files that hold the scripts, and whether a conversation is held
pub record Choice : Type 0 where
  pub log : Option Text
  pub procs : Option ℕ
  pub spacing : ℕ
  pub workers : ℕ
  pub scripts : List Text
  pub live : Bool

-- a word that stands alone names the log
abbrev pub log_rule : Rule
log_rule = record (new_rule (codes "LOG")) { action = Some Set }

-- an option of this name, with a value behind it or behind `=`
abbrev pub option_rule : Text → Rule
option_rule name = record (new_rule name) { long = Some name; action = Some Set }

-- an option that may be given several times, each with a value
abbrev pub script_rule : Rule
script_rule = record (new_rule (codes "script")) { long = Some (codes "script"); action = Some Append }

-- the option that stands without a value
abbrev pub live_rule : Rule
live_rule = record (new_rule (codes "live")) { long = Some (codes "live"); action = Some SetTrue }

-- the options with a number behind them
abbrev pub with_numbers : App → App
with_numbers app = with_rule (with_rule (with_rule app (option_rule (codes "procs"))) (option_rule (codes "spacing"))) (option_rule (codes "workers"))

-- the words that the program takes: its name, and a log, `--procs`, `--spacing`, `--workers` and `--live` once or not at
-- all, and `--script` any number of times
abbrev pub command_line : App
command_line = with_rule (with_rule (with_numbers (with_rule (new_app (codes "easybook")) log_rule)) script_rule) live_rule

-- the value that the words give to one of these, where they do
abbrev pub value_of : Text → List Text → Option Text
value_of id words = first_of id (matches_of command_line words)

-- all values that the words give to it, in their order
abbrev pub values_of : Text → List Text → List Text
values_of id words = unwrap_or (all_of id (matches_of command_line words)) []

-- the values of `--script` that were found
abbrev pub found_scripts : Found → List Text
found_scripts found = unwrap_or (option_map raw_values (matched_of found (codes "script"))) []

-- no value chooses no machine; a value chooses the number that its digits spell, from 1 to 16,777,216, and any other is bad
abbrev pub procs_of : Option Text → Option (Option ℕ)
procs_of None = Some None
procs_of (Some text) = option_map Some (machine text)

-- no value chooses 256; a value chooses the number that its digits spell, from 1 to 65,536, and any other is bad
abbrev pub spacing_of : Option Text → Option ℕ
spacing_of None = Some 256
spacing_of (Some text) = number_between 1 spacing_limit text

-- no value chooses 2 workers; a value chooses the number that its digits spell, from 1 to the limit of a desk, and any other is bad
abbrev pub workers_of : Option Text → Option ℕ
workers_of None = Some 2
workers_of (Some text) = number_between 1 callers_limit text

-- at most so many files of scripts as a desk opens sessions; more are bad
abbrev pub scripts_of : List Text → Option (List Text)
scripts_of paths = if nat_le (length paths) callers_limit then Some paths else None

-- the value of `--live` is the word `true` where it stands
abbrev pub is_live : Option Text → Bool
is_live None = false
is_live (Some text) = bytes_eq text (codes "true")

-- a conversation is on a log in a file, with no script beside it
abbrev pub is_allowed : Bool → Option Text → ℕ → Bool
is_allowed live log scripts = not live || (is_some log && scripts == 0)

-- a choice, unless a value is bad
abbrev pub choice : Option Text → Option (Option ℕ) → Option ℕ → Option ℕ → Option (List Text) → Bool → Option Choice
choice log None spacing workers scripts live = None
choice log (Some procs) None workers scripts live = None
choice log (Some procs) (Some spacing) None scripts live = None
choice log (Some procs) (Some spacing) (Some workers) None live = None
choice log (Some procs) (Some spacing) (Some workers) (Some scripts) live =
    if is_allowed live log (length scripts)
    then Some (record { log = log; procs = procs; spacing = spacing; workers = workers; scripts = scripts; live = live })
    else None

-- what the words choose; None where they are bad
abbrev pub chosen : List Text → Option Choice
chosen words =
    if is_empty (fault_of command_line words)
    then choice (value_of (codes "LOG") words) (procs_of (value_of (codes "procs") words)) (spacing_of (value_of (codes "spacing") words))
    (workers_of (value_of (codes "workers") words)) (scripts_of (values_of (codes "script") words)) (is_live (value_of (codes "live") words))
    else None

-- why words choose nothing: they are bad, or memory ran out, which says nothing of them
abbrev pub IsWordsFault : List Text → WordsFault → Type 0
IsWordsFault words BadWords = chosen words ≡ None
IsWordsFault words Memory = Unit {0}

-- what words say, as a choice
abbrev pub choice_of : Words → Choice
choice_of w = record {
  log = option_map (λ t. t.now) w.log;
  procs = w.options.procs;
  spacing = w.options.spacing;
  workers = w.options.workers;
  scripts = map (λ s. s.now) w.scripts.items;
  live = w.live;
}
