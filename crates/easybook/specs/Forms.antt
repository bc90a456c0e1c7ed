-- What the words choose, form by form.
use Rattle.std.specs.Prelude.{◌≡◌, ℕ, List, [], ◌∷◌, ◌++◌, Some, None, codes, true, false}
use Rattle.std.specs.Option.{option_map}
use Rattle.swf_text.specs.Number.{are_digits}
use Rattle.commands.specs.Words.{machine, number_between}
use Rattle.checkpoints.specs.Spacing.{spacing_limit}
use Rattle.workers.specs.Callers.{callers_limit}
use Rattle.easybook.specs.Words.{Choice, chosen}

-- on this machine, with the spacing that holds where none is named, with the log on standard input
abbrev pub on_machine : ℕ → Choice
on_machine procs = record { log = None; procs = Some procs; spacing = 256; workers = 2; scripts = []; live = false }

-- with this spacing, where no machine is named, with the log on standard input
abbrev pub with_spacing : ℕ → Choice
with_spacing spacing = record { log = None; procs = None; spacing = spacing; workers = 2; scripts = []; live = false }

-- with this many workers, where nothing else is named
abbrev pub with_workers : ℕ → Choice
with_workers workers = record { log = None; procs = None; spacing = 256; workers = workers; scripts = []; live = false }

-- with the log in this file, where nothing else is named
abbrev pub on_log : List ℕ → Choice
on_log file = record { log = Some file; procs = None; spacing = 256; workers = 2; scripts = []; live = false }

-- with these scripts, where nothing else is named
abbrev pub with_scripts : List (List ℕ) → Choice
with_scripts scripts = record { log = None; procs = None; spacing = 256; workers = 2; scripts = scripts; live = false }

-- the program's name alone chooses no log, no machine, and 256 event seconds
abbrev pub NoWordChooses : Type 0
NoWordChooses = (name : List ℕ) → chosen (name ∷ []) ≡ Some (with_spacing 256)

-- `--procs=N` chooses what N spells, and is bad where N spells no machine
abbrev pub JoinedWordChooses : Type 0
JoinedWordChooses = (name number : List ℕ) → chosen (name ∷ (codes "--procs=" ++ number) ∷ []) ≡ option_map on_machine (machine number)

-- and so does `--procs N`, where N is digits
abbrev pub NextWordChooses : Type 0
NextWordChooses =
    (name number : List ℕ) → are_digits number ≡ true → chosen (name ∷ codes "--procs" ∷ number ∷ []) ≡ option_map on_machine (machine number)

-- `--spacing=N` chooses what N spells, and is bad where that is not 1 to 65,536
abbrev pub JoinedSpacingChooses : Type 0
JoinedSpacingChooses =
    (name number : List ℕ) → chosen (name ∷ (codes "--spacing=" ++ number) ∷ []) ≡ option_map with_spacing (number_between 1 spacing_limit number)

-- and so does `--spacing N`, where N is digits
abbrev pub NextSpacingChooses : Type 0
NextSpacingChooses =
    (name number : List ℕ) → are_digits number ≡ true → chosen (name ∷ codes "--spacing" ∷ number ∷ []) ≡ option_map with_spacing (number_between 1 spacing_limit number)

-- `--workers=N` chooses what N spells, and is bad where that is not 1 to 64
abbrev pub JoinedWorkersChoose : Type 0
JoinedWorkersChoose =
    (name number : List ℕ) → chosen (name ∷ (codes "--workers=" ++ number) ∷ []) ≡ option_map with_workers (number_between 1 callers_limit number)

-- `--script=FILE` names a script, and two of them two, in their order
abbrev pub ScriptsAreChosen : Type 0
ScriptsAreChosen =
    (name one other : List ℕ) → chosen (name ∷ (codes "--script=" ++ one) ∷ (codes "--script=" ++ other) ∷ []) ≡ Some (with_scripts (one ∷ other ∷ []))

-- a word that begins with `/` or `./` is the file that holds the log, and so is `month.swf`; two that begin with `./` are bad
abbrev pub LogIsChosen : Type 0
LogIsChosen =
    (name file other : List ℕ)
    → (chosen (name ∷ (codes "/" ++ file) ∷ []) ≡ Some (on_log (codes "/" ++ file)))
    × (chosen (name ∷ (codes "./" ++ file) ∷ []) ≡ Some (on_log (codes "./" ++ file)))
    × (chosen (name ∷ codes "month.swf" ∷ []) ≡ Some (on_log (codes "month.swf")))
    × (chosen (name ∷ (codes "./" ++ file) ∷ (codes "./" ++ other) ∷ []) ≡ None)

-- `LOG --live` chooses a conversation on the log; without a log, and with a script beside it, it is bad
abbrev pub LiveIsChosen : Type 0
LiveIsChosen =
    (name file one : List ℕ)
    → (chosen (name ∷ (codes "./" ++ file) ∷ codes "--live" ∷ []) ≡ Some (record (on_log (codes "./" ++ file)) { live = true }))
    × (chosen (name ∷ codes "--live" ∷ []) ≡ None)
    × (chosen (name ∷ (codes "./" ++ file) ∷ codes "--live" ∷ (codes "--script=" ++ one) ∷ []) ≡ None)

-- an option that is given twice is bad, but a script
abbrev pub TwiceIsBad : Type 0
TwiceIsBad =
    (name one other : List ℕ)
    → (chosen (name ∷ (codes "--procs=" ++ one) ∷ (codes "--procs=" ++ other) ∷ []) ≡ None)
    × (chosen (name ∷ (codes "--spacing=" ++ one) ∷ (codes "--spacing=" ++ other) ∷ []) ≡ None)
    × (chosen (name ∷ (codes "--workers=" ++ one) ∷ (codes "--workers=" ++ other) ∷ []) ≡ None)
