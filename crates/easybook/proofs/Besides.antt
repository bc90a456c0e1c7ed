-- What the program does with scripts that are named, by what is written of them side by side: scripts and a log that are within their limits
-- are read whole.
use Rattle.std.proofs.Common.{◌≡◌, ℕ, ◌+◌, ◌++◌, ◌≤◌, ◌<◌, Bor, Global, get_or, arith, true, ◌&&◌, nat_le, List, [], ◌∷◌, length, map, take, Option, Some, None, IfSome, Result, Ok, Err, inl, inr, refl, sym, ap, subst, ◌∙◌}
use Rattle.std.proofs.lemmas.Bool.{and_from, cases_lt, le-leb, leb-true}
use Rattle.std.proofs.lemmas.List.{get_or-map, length-map, take_more}
use Rattle.clap.specs.Walk.{Text}
use Rattle.parallel_reader.specs.Fronts.{Progress}
use Rattle.easybook.specs.Alone.{script_limit}
use Rattle.easybook.specs.Plain.{log_limit}
use Rattle.easybook.specs.Input.{IsBegun, IsBegunUpTo, IsInputFault}
use Rattle.easybook.specs.Program.{AreFronts, AreOf, EndsOnScripts, HasTooLong, IsBegunLog, IsFront, Sources}
use Rattle.easybook.specs.Shared.{AreWithin, RunsShared, are_within}
use Rattle.easybook.specs.declared.fault.ProgramFault.{ProgramFault}
use Rattle.easybook.specs.declared.fault.ProgramFault.TheVariants as faults
use Rattle.swf_text.proofs.Lemmas.{and_first, and_second}
use Rattle.easybook.proofs.Inputs.{all_of_front, known_all, known_more, more_of_front}
use Rattle.easybook.proofs.Sessions.{keeps}

pub whole_scripts : (sources : Sources) (names : List Text) (fronts : List (List ℕ)) → AreWithin fronts → AreFronts sources names fronts → AreOf sources names fronts
whole_scripts sources [] fronts within none = none
whole_scripts sources (name ∷ names) fronts within h =
    let both : (nat_le (length h.0) script_limit && are_within h.1) ≡ true = sym (ap are_within h.2) ∙ within in
    let few : length h.0 ≤ script_limit = leb-true (length h.0) script_limit (and_first (nat_le (length h.0) script_limit) (are_within h.1) both) in
    let others : are_within h.1 ≡ true = and_second (nat_le (length h.0) script_limit) (are_within h.1) both in
    (h.0, h.1, h.2, known_all (sources name) h.0 script_limit h.3 few, whole_scripts sources names h.1 others h.4)

whole_log : (known : Option (List ℕ)) (front : List ℕ) → length front ≤ log_limit → IfSome known (IsFront front) → IfSome known (λ all. front ≡ all)
whole_log None front few is = tt
whole_log (Some all) front few is = elim is [
  | inl whole ↦ whole
  | inr read ↦ all_of_front all front log_limit read few
]

past_log : (known : Option (List ℕ)) (front : List ℕ) → log_limit < length front → IfSome known (IsFront front) → IfSome known (λ all. log_limit < length all)
past_log None front many is = tt
past_log (Some all) front many is = elim is [
  | inl whole ↦ omega (arith, many, ap length whole)
  | inr read ↦ more_of_front all front log_limit read many
]

past_scripts : (sources : Sources) (names : List Text) (fronts : List (List ℕ)) → (AreWithin fronts → ⊥) → AreFronts sources names fronts → HasTooLong sources names
past_scripts sources [] fronts past none = absurd (past (ap are_within none))
past_scripts sources (name ∷ names) fronts past h = elim (cases_lt script_limit (length h.0)) [
  | inl many ↦ inl (known_more (sources name) h.0 script_limit h.3 many)
  | inr few ↦ inr (past_scripts sources names h.1 (λ within. past (ap are_within h.2 ∙ and_from (nat_le (length h.0) script_limit) (are_within h.1) (le-leb (length h.0) script_limit few) within)) h.4)
]

-- of a log that is not had nothing is written
pub unhad_ends : (X : Type 0) (sources : Sources) (names : List Text) (procs : Option ℕ) (known old : Option (List ℕ)) (fault : ProgramFault) → IsInputFault known log_limit fault → EndsOnScripts {X = X} sources names procs known old old (Err fault)
unhad_ends X sources names procs known old faults.TooLong h = (inl h, keeps old)
unhad_ends X sources names procs known old faults.Read h = keeps old
unhad_ends X sources names procs known old faults.Memory h = keeps old
unhad_ends X sources names procs known old fault h = absurd h

-- a result, with what was written, for what is read of a log and of scripts is one for the log and the scripts, as far as they are known
pub beside_ends : {X : Type 0} (sources : Sources) (names : List Text) (procs : Option ℕ) (known old new : Option (List ℕ)) (log : List ℕ) (fronts : List (List ℕ)) (result : Result X ProgramFault) → IfSome known (IsFront log) → AreFronts sources names fronts → RunsShared Global log procs fronts old new result → EndsOnScripts sources names procs known old new result
beside_ends sources names procs known old new log fronts (Ok x) is are h = (log, whole_log known log h.1.1.is_opened.within is, (fronts, whole_scripts sources names fronts h.0 are, h))
beside_ends sources names procs known old new log fronts (Err faults.Write) is are h = (log, whole_log known log h.1.1.is_opened.within is, (fronts, whole_scripts sources names fronts h.0 are, h))
beside_ends sources names procs known old new log fronts (Err faults.Read) is are h = h.2
beside_ends sources names procs known old new log fronts (Err faults.Memory) is are h = h
beside_ends sources names procs known old new log fronts (Err faults.TooLong) is are h = elim h.0 [
  | inl many ↦ (inl (past_log known log many is), h.1)
  | inr past ↦ (inr (past_scripts sources names fronts past are), h.1)
]
beside_ends sources names procs known old new log fronts (Err (faults.Log f)) is are h = (log, whole_log known log h.1.0 is, (fronts, whole_scripts sources names fronts h.0 are, h))
beside_ends sources names procs known old new log fronts (Err faults.NoMachine) is are h = (log, whole_log known log h.1.within is, (fronts, whole_scripts sources names fronts h.0 are, h))
beside_ends sources names procs known old new log fronts (Err faults.BadMachine) is are h = (log, whole_log known log h.1.within is, (fronts, whole_scripts sources names fronts h.0 are, h))
beside_ends sources names procs known old new log fronts (Err (faults.Close f)) is are h = h

fronts_more : (sources : Sources) (names : List Text) (name : Text) (fronts : List (List ℕ)) (front : List ℕ) → AreFronts sources names fronts → IfSome (sources name) (λ all. front ≡ take (script_limit + 1) all) → AreFronts sources (names ++ name ∷ []) (fronts ++ front ∷ [])
fronts_more sources [] name fronts front none is = (front, [], ap (λ (fs : List (List ℕ)). fs ++ front ∷ []) none, is, refl)
fronts_more sources (n ∷ ns) name fronts front h is = (h.0, h.1 ++ front ∷ [], ap (λ (fs : List (List ℕ)). fs ++ front ∷ []) h.2, h.3, fronts_more sources ns name h.1 front h.4 is)

-- what is read of the names up to a place, and then of the name there, is what is read of the names up to the next place
pub fronts_next : (sources : Sources) (names : List (Bor Text)) (place : ℕ) (fronts : List (List ℕ)) (front : List ℕ) (d : Bor Text) → place < length names → AreFronts sources (take place (map (λ n. n.now) names)) fronts → IfSome (sources (get_or names place d).now) (λ all. front ≡ take (script_limit + 1) all) → AreFronts sources (take (place + 1) (map (λ n. n.now) names)) (fronts ++ front ∷ [])
fronts_next sources names place fronts front d lt so_far is =
    let texts : List Text = map (λ n. n.now) names in
    let there : get_or texts place [] ≡ (get_or names place d).now = get_or-map (λ (n : Bor Text). n.now) names place d [] lt in
    let within : place < length texts = omega (arith, lt, length-map names (λ (n : Bor Text). n.now)) in
    let known : IfSome (sources (get_or texts place [])) (λ all. front ≡ take (script_limit + 1) all) = subst (λ (t : Text). IfSome (sources t) (λ all. front ≡ take (script_limit + 1) all)) (sym there) is in
    subst (λ (ns : List Text). AreFronts sources ns (fronts ++ front ∷ [])) (sym (take_more texts place [] within)) (fronts_more sources (take place texts) (get_or texts place []) fronts front so_far known)

-- what was had up to one byte past a log's limit, a front and the rest, is what is read of a log
pub begun-file : (known : Option (List ℕ)) (p : Progress) (rest : List ℕ) → IsBegunUpTo (log_limit + 1) known p rest → IsBegunLog known p rest
begun-file None p rest b = record { front = b.front; is_front = b.is_front; whole = tt }
begun-file (Some all) p rest b = record { front = b.front; is_front = b.is_front; whole = inr b.whole }

-- all that was had, a front and the rest, is what is read of a log
pub begun-whole : (limit : ℕ) (known : Option (List ℕ)) (p : Progress) (rest : List ℕ) → IsBegun limit known p rest → IsBegunLog known p rest
begun-whole limit None p rest b = record { front = b.front; is_front = b.is_front; whole = tt }
begun-whole limit (Some all) p rest b = record { front = b.front; is_front = b.is_front; whole = inl (sym b.whole) }
