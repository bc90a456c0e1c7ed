-- What the program does: what its words choose, its whole input, and what it writes of them.
use Rattle.std.specs.Prelude.{◌≡◌, ℕ, ◌+◌, ◌<◌, ◌≤◌, List, [], ◌∷◌, ◌++◌, length, take, Option, Some, None, IfSome, Result, Ok, Err, ◌⊎◌, Bool, true, false}
use Rattle.std.specs.declared.alloc.Global.{Global}
use Rattle.std.specs.Io.KnownBytes.{Keeps}
use Rattle.clap.specs.Walk.{Text}
use Rattle.parallel_reader.specs.Fronts.{Progress}
use Rattle.parallel_reader.specs.Fronts as fronts
use Rattle.easybook.specs.Alone.{RunsAlone, script_limit}
use Rattle.easybook.specs.Live.{RunsLive}
use Rattle.easybook.specs.Plain.{Answers, log_limit}
use Rattle.easybook.specs.Shared.{RunsShared}
use Rattle.easybook.specs.Split.{IsCut}
use Rattle.easybook.specs.Words.{Choice, IsWordsFault, chosen}
use Rattle.easybook.specs.declared.fault.ProgramFault.{ProgramFault}
use Rattle.easybook.specs.declared.fault.ProgramFault.TheVariants as faults
use Rattle.easybook.specs.declared.stop.Stop.{Stop}
use Rattle.easybook.specs.declared.stop.Stop.TheVariants.{Words, Fault}

-- the bytes of what the words name, where they are known
abbrev pub Sources : Type 0
Sources = Text → Option (List ℕ)

-- standard input has at most this many bytes where it holds the log
abbrev pub input_limit : ℕ
input_limit = 1200000000

-- something is said of all that a reader has
abbrev pub OfAll : Option (List ℕ) → (List ℕ → Type 0) → Type 0
OfAll known says = (all : List ℕ) × IfSome known (λ bytes. all ≡ bytes) × says all

-- ---- the log in a file, the script on standard input

-- The script is worked on the log. Where one of them cannot be read, or memory runs out for them, nothing is said of either
-- and nothing is written.
abbrev pub EndsOnFile : {X : Type 0} → Type 0 → Option (List ℕ) → Option ℕ → Option (List ℕ) → Option (List ℕ) → Option (List ℕ) → Result X ProgramFault → Type 0
EndsOnFile A file procs known old new (Err faults.Read) = Keeps old new
EndsOnFile A file procs known old new (Err faults.Memory) = Keeps old new
EndsOnFile A file procs known old new result = OfAll file (λ log. RunsAlone A log procs known old new result)

-- ---- the log in a file, a conversation on standard input

-- The conversation is held on the log. Where that cannot be read, or memory runs out, nothing is written.
abbrev pub EndsOnTalk : {X : Type 0} → Type 0 → Option (List ℕ) → Option ℕ → Option (List ℕ) → Option (List ℕ) → Option (List ℕ) → Result X ProgramFault → Type 0
EndsOnTalk {X = X} A file procs known old new (Err faults.Read) = Keeps old new ⊎ OfAll file (λ log. RunsLive {X = X} A log procs known old new (Err faults.Read))
EndsOnTalk A file procs known old new (Err faults.Memory) = Keeps old new
EndsOnTalk A file procs known old new result = OfAll file (λ log. RunsLive A log procs known old new result)

-- ---- both on standard input

-- the log and the script are worked; a log alone is run plainly
abbrev pub RunsParts : {X : Type 0} → Type 0 → List ℕ → Option (List ℕ) → Option ℕ → Option (List ℕ) → Option (List ℕ) → Result X ProgramFault → Type 0
RunsParts A log (Some script) procs old new result = RunsAlone A log procs (Some script) old new result
RunsParts A log None procs old new result = Answers log procs old new result

-- the input, which is within its limit, is cut into a log and a script, if it holds one, and these are run
pub record RunsInput {X : Type 0} (A : Type 0) (input : List ℕ) (procs : Option ℕ) (old new : Option (List ℕ)) (result : Result X ProgramFault) : Type 0 where
  pub within : length input ≤ input_limit
  pub log : List ℕ
  pub script : Option (List ℕ)
  pub is_cut : IsCut input log script
  pub runs : RunsParts A log script procs old new result

-- Where the input cannot be read, or memory runs out for it, nothing is said of it and nothing is written; so too where it
-- has over 1,200,000,000 bytes.
abbrev pub EndsOnInput : {X : Type 0} → Type 0 → Option ℕ → Option (List ℕ) → Option (List ℕ) → Option (List ℕ) → Result X ProgramFault → Type 0
EndsOnInput A procs known old new (Err faults.Read) = Keeps old new
EndsOnInput A procs known old new (Err faults.Memory) = Keeps old new
EndsOnInput {X = X} A procs known old new (Err faults.TooLong) =
    (IfSome known (λ all. input_limit < length all) × Keeps old new) ⊎ OfAll known (λ input. RunsInput {X = X} A input procs old new (Err faults.TooLong))
EndsOnInput A procs known old new result = OfAll known (λ input. RunsInput A input procs old new result)

-- ---- scripts in files, side by side

-- these are the bytes of the sources with these names, one after another, as far as they are known
abbrev pub AreOf : Sources → List Text → List (List ℕ) → Type 0
AreOf sources [] scripts = scripts ≡ []
AreOf sources (name ∷ names) scripts =
    (first : List ℕ) × (others : List (List ℕ)) × (scripts ≡ first ∷ others) × IfSome (sources name) (λ all. first ≡ all) × AreOf sources names others

-- what is read of each, which is at most one byte more than a script may have
abbrev pub AreFronts : Sources → List Text → List (List ℕ) → Type 0
AreFronts sources [] fronts = fronts ≡ []
AreFronts sources (name ∷ names) fronts =
    (first : List ℕ) × (others : List (List ℕ)) × (fronts ≡ first ∷ others) × IfSome (sources name) (λ all. first ≡ take (script_limit + 1) all) × AreFronts sources names others

-- what is read of a log: all of it, or at most one byte more than it may have
abbrev pub IsFront : List ℕ → List ℕ → Type 0
IsFront front all = (front ≡ all) ⊎ (front ≡ take (log_limit + 1) all)

-- what was read of a log so is its front, and what stands behind that
pub record IsBegunLog (known : Option (List ℕ)) (progress : Progress) (rest : List ℕ) : Type 0 where
  pub front : List ℕ
  pub is_front : fronts.IsFront front progress
  pub whole : IfSome known (IsFront (front ++ rest))

-- one of the sources with these names has more bytes than a script may have, as far as they are known
abbrev pub HasTooLong : Sources → List Text → Type 0
HasTooLong sources [] = ⊥
HasTooLong sources (name ∷ names) = IfSome (sources name) (λ all. script_limit < length all) ⊎ HasTooLong sources names

-- The scripts are worked on the log. Where the log or one of them cannot be read, or memory runs out for them, nothing is said
-- of them and nothing is written. Where the log or one of them has too many bytes, nothing is written.
abbrev pub EndsOnScripts : {X : Type 0} → Sources → List Text → Option ℕ → Option (List ℕ) → Option (List ℕ) → Option (List ℕ) → Result X ProgramFault → Type 0
EndsOnScripts sources names procs known old new (Err faults.Read) = Keeps old new
EndsOnScripts sources names procs known old new (Err faults.Memory) = Keeps old new
EndsOnScripts sources names procs known old new (Err faults.TooLong) = (IfSome known (λ all. log_limit < length all) ⊎ HasTooLong sources names) × Keeps old new
EndsOnScripts sources names procs known old new (Err (faults.Close fault)) = Keeps old new
EndsOnScripts sources names procs known old new result =
    OfAll known (λ log. (scripts : List (List ℕ)) × AreOf sources names scripts × RunsShared Global log procs scripts old new result)

-- ---- the program

-- With a log named, that source's bytes are the log; a conversation is held on it where the words ask for one, otherwise a
-- script is worked. Without one, all that standard input has is the log, and the script if it holds one.
abbrev pub EndsFrom : {X : Type 0} → Sources → Option Text → Bool → Option ℕ → Option (List ℕ) → Option (List ℕ) → Option (List ℕ) → Result X ProgramFault → Type 0
EndsFrom sources (Some name) true procs known old new result = EndsOnTalk Global (sources name) procs known old new result
EndsFrom sources (Some name) false procs known old new result = EndsOnFile Global (sources name) procs known old new result
EndsFrom sources None live procs known old new result = EndsOnInput Global procs known old new result

-- the bytes of the log, where scripts are named: those of the source that is named, otherwise all of standard input
abbrev pub log_known : Sources → Option Text → Option (List ℕ) → Option (List ℕ)
log_known sources (Some name) known = sources name
log_known sources None known = known

-- scripts that are named are worked side by side; where none is, one session works alone, or none
abbrev pub EndsWith : {X : Type 0} → Sources → List Text → Option Text → Bool → Option ℕ → Option (List ℕ) → Option (List ℕ) → Option (List ℕ) → Result X ProgramFault → Type 0
EndsWith sources [] log live procs known old new result = EndsFrom sources log live procs known old new result
EndsWith sources (script ∷ scripts) log live procs known old new result = EndsOnScripts sources (script ∷ scripts) procs (log_known sources log known) old new result

-- the words are taken, and what they choose is run
abbrev pub EndsBy : {X : Type 0} → Sources → List Text → Option (List ℕ) → Option (List ℕ) → Option (List ℕ) → Result X ProgramFault → Type 0
EndsBy sources words known old new result = (choice : Choice) × (chosen words ≡ Some choice) × EndsWith sources choice.scripts choice.log choice.live choice.procs known old new result

-- what the program wrote, by how it ends: where the words are bad, nothing
abbrev pub Ends : {X : Type 0} → Sources → List Text → Option (List ℕ) → Option (List ℕ) → Option (List ℕ) → Result X Stop → Type 0
Ends sources words known old new (Ok x) = EndsBy sources words known old new (Ok x)
Ends sources words known old new (Err (Words fault)) = IsWordsFault words fault × Keeps old new
Ends {X = X} sources words known old new (Err (Fault fault)) = EndsBy {X = X} sources words known old new (Err fault)
