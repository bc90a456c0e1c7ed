-- What the words choose, by the values that stand behind them: what was found, how many scripts there may be, and whether a conversation may
-- be asked for.
use Rattle.std.proofs.Common.{◌≡◌, ◌≤◌, ◌<◌, List, [], length, Some, None, true, false, nat_le, codes, refl, sym, ap, ◌∙◌, arith}
use Rattle.std.proofs.lemmas.Bool.Decides.{nat_tests}
use Rattle.std.specs.Prelude.{unwrap_or}
use Rattle.std.specs.Option.{option_map}
use Rattle.clap.specs.Walk.{Text, all_of, first_of, rows_of}
use Rattle.clap.specs.Simple.{App, HasMatchesOf, is_simple, matches_of}
use Rattle.clap.specs.Faults.{fault_of}
use Rattle.clap.specs.Matches.{first_value, found_of, matched_of, raw_values}
use Rattle.clap.specs.declared.parser.matches.ArgMatches.{ArgMatches}
use Rattle.clap.specs.declared.parser.matches.Found.{Found}
use Rattle.clap.proofs.WalkLemmas.{first_value-rows, raw_values-rows}
use Rattle.easybook.specs.Words.{Choice, choice, chosen, command_line, found_scripts, is_allowed, is_live, procs_of, scripts_of, spacing_of, value_of, values_of, workers_of}

value-found : (id : Text) (words : List Text) (f : Found) → rows_of f ≡ matches_of command_line words → value_of id words ≡ first_value f id
value-found id words f rows = ap (first_of id) (sym rows) ∙ sym (first_value-rows f id)

values-found : (id : Text) (words : List Text) (f : Found) → rows_of f ≡ matches_of command_line words → values_of id words ≡ unwrap_or (option_map raw_values (matched_of f id)) []
values-found id words f rows = ap (λ (o : _). unwrap_or o []) (ap (all_of id) (sym rows) ∙ sym (raw_values-rows f id))

-- words that are taken choose what the values that were found for them choose
pub chosen-found : (words : List Text) (f : Found) → fault_of command_line words ≡ [] → rows_of f ≡ matches_of command_line words → chosen words ≡ choice (first_value f (codes "LOG")) (procs_of (first_value f (codes "procs"))) (spacing_of (first_value f (codes "spacing"))) (workers_of (first_value f (codes "workers"))) (scripts_of (found_scripts f)) (is_live (first_value f (codes "live")))
chosen-found words f taken rows =
    let log = value-found (codes "LOG") words f rows in
    let procs = value-found (codes "procs") words f rows in
    let spacing = value-found (codes "spacing") words f rows in
    let workers = value-found (codes "workers") words f rows in
    let scripts = values-found (codes "script") words f rows in
    let live = value-found (codes "live") words f rows in
    rw (taken, log, procs, spacing, workers, scripts, live) refl

pub few-scripts : (paths : List Text) → length paths ≤ 64 → scripts_of paths ≡ Some paths
few-scripts paths few = let test : nat_le (length paths) 64 ≡ true = grind (arith, nat_tests, few) in rw test refl

-- more than 64 files of scripts are bad
pub many-scripts : (paths : List Text) → 64 < length paths → scripts_of paths ≡ None
many-scripts paths many = let test : nat_le (length paths) 64 ≡ false = grind (arith, nat_tests, many) in rw test refl

pub allowed : (c : Choice) → is_allowed c.live c.log (length c.scripts) ≡ true → choice c.log (Some c.procs) (Some c.spacing) (Some c.workers) (Some c.scripts) c.live ≡ Some c
allowed c test = rw test refl

pub not_allowed : (c : Choice) → is_allowed c.live c.log (length c.scripts) ≡ false → choice c.log (Some c.procs) (Some c.spacing) (Some c.workers) (Some c.scripts) c.live ≡ None
not_allowed c test = rw test refl

with-all : (words : List Text) (f : Found) (c : Choice) → fault_of command_line words ≡ [] → rows_of f ≡ matches_of command_line words → first_value f (codes "LOG") ≡ c.log → procs_of (first_value f (codes "procs")) ≡ Some c.procs → spacing_of (first_value f (codes "spacing")) ≡ Some c.spacing → workers_of (first_value f (codes "workers")) ≡ Some c.workers → found_scripts f ≡ c.scripts → length c.scripts ≤ 64 → is_live (first_value f (codes "live")) ≡ c.live → chosen words ≡ choice c.log (Some c.procs) (Some c.spacing) (Some c.workers) (Some c.scripts) c.live
with-all words f c taken rows log procs spacing workers scripts few live =
    let chosen_so = chosen-found words f taken rows in
    let some : scripts_of (found_scripts f) ≡ Some c.scripts = ap scripts_of scripts ∙ few-scripts c.scripts few in
    chosen_so ∙ rw (log, procs, spacing, workers, some, live) refl

-- words whose values are all good choose these, where a conversation may be held or is not asked for
pub all-taken : (words : List Text) (f : Found) (c : Choice) → fault_of command_line words ≡ [] → rows_of f ≡ matches_of command_line words → first_value f (codes "LOG") ≡ c.log → procs_of (first_value f (codes "procs")) ≡ Some c.procs → spacing_of (first_value f (codes "spacing")) ≡ Some c.spacing → workers_of (first_value f (codes "workers")) ≡ Some c.workers → found_scripts f ≡ c.scripts → length c.scripts ≤ 64 → is_live (first_value f (codes "live")) ≡ c.live → is_allowed c.live c.log (length c.scripts) ≡ true → chosen words ≡ Some c
all-taken words f c taken rows log procs spacing workers scripts few live test =
    with-all words f c taken rows log procs spacing workers scripts few live ∙ allowed c test

-- words whose values are all good choose nothing, where they ask for a conversation that may not be held
pub none-taken : (words : List Text) (f : Found) (c : Choice) → fault_of command_line words ≡ [] → rows_of f ≡ matches_of command_line words → first_value f (codes "LOG") ≡ c.log → procs_of (first_value f (codes "procs")) ≡ Some c.procs → spacing_of (first_value f (codes "spacing")) ≡ Some c.spacing → workers_of (first_value f (codes "workers")) ≡ Some c.workers → found_scripts f ≡ c.scripts → length c.scripts ≤ 64 → is_live (first_value f (codes "live")) ≡ c.live → is_allowed c.live c.log (length c.scripts) ≡ false → chosen words ≡ None
none-taken words f c taken rows log procs spacing workers scripts few live test =
    with-all words f c taken rows log procs spacing workers scripts few live ∙ not_allowed c test

-- the matches that are found are those of the program's command line, where the command is the program's
pub rows-found : (app : App) (words : List Text) (m : ArgMatches) → app ≡ command_line → HasMatchesOf app words m → rows_of (found_of m) ≡ matches_of command_line words
rows-found app words m is has =
    let simple : is_simple app ≡ true = ap is_simple is in
    let rows : rows_of (found_of m) ≡ matches_of app words = (has simple).0 in
    rows ∙ ap (λ (a : App). matches_of a words) is
