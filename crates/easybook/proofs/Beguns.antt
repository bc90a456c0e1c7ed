-- An input of which the front of its log was read: what a reader gave under a limit, the cut of the rest, which is that of all since a front
-- has no mark, and the results and faults that follow for the program.
use Rattle.std.proofs.Common.{◌≡◌, ℕ, ◌<◌, ◌≤◌, false, List, [], ◌∷◌, ◌++◌, length, take, Option, Some, None, IfSome, IfErr, IfOk, Result, Ok, Err, sym, ap, subst, ◌∙◌, append_assoc, inl, inr, ◌+◌, arith}
use Rattle.std.specs.Prelude.{IsErrAnd}
use Rattle.std.specs.List.{list_any}
use Rattle.std.specs.Option.{option_map}
use Rattle.std.specs.Io.KnownBytes.{Consumes, Keeps}
use Rattle.std.proofs.lemmas.List.{length-append}
use Rattle.std.proofs.lemmas.List.Folds.{list_any-append}
use Rattle.swf_text.specs.declared.fault.SwfFault.{SwfFault}
use Rattle.swf_text.specs.declared.fault.FaultKind.{FaultKind}
use Rattle.swf_text.specs.declared.fault.FaultKind.TheVariants as kinds
use Rattle.swf_text.specs.Text.{LogText, lines}
use Rattle.swf_text.specs.Grammar.{FirstFault, IsText}
use Rattle.swf_text.proofs.Lemmas.{gives_text}
use Rattle.parallel_reader.specs.Fronts.{IsFront, IsReadBehind, Progress}
use Rattle.parallel_reader.proofs.Lemmas.{lines_whole}
use Rattle.commands.specs.Opening.{IsOpenFault}
use Rattle.commands.specs.declared.opening_fault.OpenTextFault.{OpenTextFault}
use Rattle.commands.specs.declared.opening_fault.OpenTextFault.TheVariants as openings
use Rattle.easybook.specs.Fault.{fault_of, fault_of_kind, fault_of_opening}
use Rattle.easybook.specs.Input.{IsBegun, IsBegunUpTo}
use Rattle.easybook.specs.Plain.{IsFaultOf, log_limit}
use Rattle.easybook.specs.Program.{EndsOnInput, OfAll, RunsInput, RunsParts, input_limit}
use Rattle.easybook.specs.Split.{IsCut, is_mark}
use Rattle.easybook.specs.declared.fault.ProgramFault.{ProgramFault}
use Rattle.easybook.specs.declared.fault.ProgramFault.TheVariants as faults
use Rattle.easybook.proofs.Inputs.{known_all, known_more}
use Rattle.easybook.proofs.Sessions.{keeps}
use Rattle.easybook.proofs.Unmarked.{both}
use Rattle.easybook.proofs.Wholes.{unmarked}

in_bytes : (a b c d : List ℕ) → a ++ (b ++ c ++ d) ≡ (a ++ b) ++ c ++ d
in_bytes a b c d = sym (append_assoc a (b ++ c) d) ∙ ap (λ (l : List ℕ). l ++ d) (sym (append_assoc a b c))

cut-behind : (front rest log : List ℕ) (script : Option (List ℕ)) → ((ys : List ℕ) → lines (front ++ ys) ≡ lines front ++ lines ys) → list_any is_mark (lines front) ≡ false → IsCut rest log script → IsCut (front ++ rest) (front ++ log) script
cut-behind front rest log (Some script) whole none h = record {
  mark = h.mark;
  marks = h.marks;
  unmarked = ap (list_any is_mark) (whole log) ∙ list_any-append is_mark (lines front) (lines log) ∙ both (list_any is_mark (lines front)) (list_any is_mark (lines log)) none h.unmarked;
  in_lines =
      whole rest ∙ ap (λ (ls : List (List ℕ)). lines front ++ ls) h.in_lines ∙ sym (append_assoc (lines front) (lines log) (h.mark ∷ lines script))
      ∙ ap (λ (ls : List (List ℕ)). ls ++ h.mark ∷ lines script) (sym (whole log));
  in_bytes = elim h.in_bytes [
    | inl more ↦ inl (ap (λ (l : List ℕ). front ++ l) more ∙ in_bytes front log h.mark (10 ∷ script))
    | inr last ↦ inr (ap (λ (l : List ℕ). front ++ l) last.0 ∙ sym (append_assoc front log h.mark), last.1)
  ];
}
cut-behind front rest log None whole none h = (
  ap (λ (l : List ℕ). front ++ l) h.0,
  ap (list_any is_mark) (whole rest) ∙ list_any-append is_mark (lines front) (lines rest) ∙ both (list_any is_mark (lines front)) (list_any is_mark (lines rest)) none h.1,
)

front-cut : (front rest log : List ℕ) (script : Option (List ℕ)) (p : Progress) → IsFront front p → IsCut rest log script → IsCut (front ++ rest) (front ++ log) script
front-cut front rest log script p is h =
    cut-behind front rest log script (λ ys. lines_whole front ys is.whole) (unmarked front p.text (gives_text (Ok p.text) (lines front) is.read)) h

-- what was had of a reader under a limit, a front and the rest, was had of an equal reader under an equal limit
pub limited : {R : Type 0} (remaining : R → Option (List ℕ)) (inner reader : R) (at limit : ℕ) (mid : Option (List ℕ)) (p : Progress) (rest : List ℕ) → inner ≡ reader → at ≡ limit → IsReadBehind [] (option_map (take at) (remaining inner)) mid p rest → IsReadBehind [] (option_map (take limit) (remaining reader)) mid p rest
limited {R} remaining inner reader at limit mid p rest same_reader same_limit is =
    subst (λ (r : R). IsReadBehind [] (option_map (take limit) (remaining r)) mid p rest) same_reader (subst (λ (n : ℕ). IsReadBehind [] (option_map (take n) (remaining inner)) mid p rest) same_limit is)

-- a front that was read, the rest behind it, and then all that was left under a limit are what a reader had up to the limit
pub under : (known mid : Option (List ℕ)) (limit : ℕ) (p : Progress) (rest new : List ℕ) → IsReadBehind [] (option_map (take limit) known) mid p rest → IfSome mid (λ more. new ≡ rest ++ more) → IsBegunUpTo limit known p new
under known mid limit p rest new is more = record { front = is.front; is_front = is.is_front; whole = go known mid is.given more }
  where
    go : (k m : Option (List ℕ)) → Consumes (option_map (take limit) k) m is.more → IfSome m (λ more. new ≡ rest ++ more) → IfSome k (λ all. is.front ++ new ≡ take limit all)
    go None m given added = tt
    go (Some all) None given added = absurd given
    go (Some all) (Some ys) given added =
        ap (λ (l : List ℕ). is.front ++ l) added ∙ sym (append_assoc is.front rest ys) ∙ ap (λ (l : List ℕ). l ++ ys) (sym is.whole) ∙ sym given

-- what was had up to one byte past a limit is all that a reader had, where the front and the rest are within the limit
pub begun-within : (known : Option (List ℕ)) (limit : ℕ) (p : Progress) (rest : List ℕ) → IsBegunUpTo (limit + 1) known p rest → p.bytes + length rest ≤ limit → IsBegun limit known p rest
begun-within known limit p rest u few = record {
  front = u.front;
  is_front = u.is_front;
  within = omega (arith, few, u.is_front.size);
  whole = all-is-back known (u.front ++ rest) (known_all known (u.front ++ rest) limit u.whole (omega (arith, few, u.is_front.size, length-append u.front rest)));
}
  where
    all-is-back : (k : Option (List ℕ)) (bytes : List ℕ) → IfSome k (λ all. bytes ≡ all) → IfSome k (λ all. all ≡ bytes)
    all-is-back None bytes h = tt
    all-is-back (Some all) bytes h = sym h

-- where the front and the rest that were had are past the limit, so is all that the reader had
pub begun-past : (known : Option (List ℕ)) (limit : ℕ) (p : Progress) (rest : List ℕ) → IsBegunUpTo (limit + 1) known p rest → limit < p.bytes + length rest → IfSome known (λ all. limit < length all)
begun-past known limit p rest u many = known_more known (u.front ++ rest) limit u.whole (omega (arith, many, u.is_front.size, length-append u.front rest))

-- what holds of a result's value gives another fact of it, where it does so for each value
pub ok-map : {X E : Type 0} (P S : X → Type 0) (r : Result X E) → ((x : X) → P x → S x) → IfOk r P → IfOk r S
ok-map P S (Ok x) step p = step x p
ok-map P S (Err e) step p = tt

-- what was had up to a limit of a source that was opened was had of the bytes that are known under its name
pub begun-source : (file named : Option (List ℕ)) (limit : ℕ) (p : Progress) (rest : List ℕ) → IfSome named (λ bytes. file ≡ Some bytes) → IsBegunUpTo limit file p rest → IsBegunUpTo limit named p rest
begun-source file None limit p rest is b = record { front = b.front; is_front = b.is_front; whole = tt }
begun-source file (Some bytes) limit p rest is b = record {
  front = b.front;
  is_front = b.is_front;
  whole = subst (λ (f : Option (List ℕ)). IfSome f (λ all. b.front ++ rest ≡ take limit all)) is b.whole;
}

all-is : (known : Option (List ℕ)) (bytes : List ℕ) → IfSome known (λ all. all ≡ bytes) → IfSome known (λ all. bytes ≡ all)
all-is None bytes h = tt
all-is (Some all) bytes h = sym h

kept-read : (X A : Type 0) (s : Option (List ℕ)) (log : List ℕ) (procs : Option ℕ) (old new : Option (List ℕ)) → RunsParts {X = X} A log s procs old new (Err faults.Read) → Keeps old new
kept-read X A None log procs old new h = h.1
kept-read X A (Some s) log procs old new h = h.1

kept-memory : (X A : Type 0) (s : Option (List ℕ)) (log : List ℕ) (procs : Option ℕ) (old new : Option (List ℕ)) → RunsParts {X = X} A log s procs old new (Err faults.Memory) → Keeps old new
kept-memory X A None log procs old new h = h.1
kept-memory X A (Some s) log procs old new h = h.1

-- where the rest behind a front is cut, a result for its parts, with the front before the log, is one for the whole input
pub input-ends : (X A : Type 0) (known : Option (List ℕ)) (p : Progress) (rest log : List ℕ) (script : Option (List ℕ)) (procs : Option ℕ) (old new : Option (List ℕ)) → IsBegun input_limit known p rest → IsCut rest log script → (r : Result X ProgramFault) → ((front : List ℕ) → IsFront front p → RunsParts A (front ++ log) script procs old new r) → EndsOnInput A procs known old new r
input-ends X A known p rest log script procs old new begun cut r runs = go r (runs begun.front begun.is_front)
  where
    all-runs : (s : Result X ProgramFault) → RunsParts A (begun.front ++ log) script procs old new s → OfAll known (λ input. RunsInput {X = X} A input procs old new s)
    all-runs s h = (begun.front ++ rest, all-is known (begun.front ++ rest) begun.whole, record { within = omega (arith, begun.within, length-append begun.front rest); log = begun.front ++ log; script = script; is_cut = front-cut begun.front rest log script p begun.is_front cut; runs = h })

    go : (s : Result X ProgramFault) → RunsParts A (begun.front ++ log) script procs old new s → EndsOnInput A procs known old new s
    go (Ok x) h = all-runs (Ok x) h
    go (Err faults.Read) h = kept-read X A script (begun.front ++ log) procs old new h
    go (Err faults.Memory) h = kept-memory X A script (begun.front ++ log) procs old new h
    go (Err faults.TooLong) h = inr (all-runs (Err faults.TooLong) h)
    go (Err faults.Write) h = all-runs (Err faults.Write) h
    go (Err (faults.Log f)) h = all-runs (Err (faults.Log f)) h
    go (Err faults.NoMachine) h = all-runs (Err faults.NoMachine) h
    go (Err faults.BadMachine) h = all-runs (Err faults.BadMachine) h
    go (Err (faults.Close f)) h = all-runs (Err (faults.Close f)) h

pub parts-refused : (X A : Type 0) (log : List ℕ) (script : Option (List ℕ)) (procs : Option ℕ) (old : Option (List ℕ)) (fault : ProgramFault) → IsFaultOf log procs fault → RunsParts {X = X} A log script procs old old (Err fault)
parts-refused X A log None procs old fault h = plain fault h where
  plain : (f : ProgramFault) → IsFaultOf log procs f → RunsParts {X = X} A log None procs old old (Err f)
  plain faults.TooLong h = (h, keeps old)
  plain faults.Read h = absurd h
  plain faults.Memory h = (tt, keeps old)
  plain faults.Write h = absurd h
  plain (faults.Log f) h = (h, keeps old)
  plain (faults.Close f) h = absurd h
  plain faults.NoMachine h = (h, keeps old)
  plain faults.BadMachine h = (h, keeps old)
parts-refused X A log (Some script) procs old fault h = worked fault h where
  worked : (f : ProgramFault) → IsFaultOf log procs f → RunsParts {X = X} A log (Some script) procs old old (Err f)
  worked faults.TooLong h = (inl h, keeps old)
  worked faults.Read h = absurd h
  worked faults.Memory h = (tt, keeps old)
  worked faults.Write h = absurd h
  worked (faults.Log f) h = (h, keeps old)
  worked (faults.Close f) h = absurd h
  worked faults.NoMachine h = (h, keeps old)
  worked faults.BadMachine h = (h, keeps old)

-- the first fault of a log's lines, or out of memory, is the program's fault for the log, where it is within its limit
pub fault-read : (log : List ℕ) (procs : Option ℕ) (fault : SwfFault) → length log ≤ log_limit → ((fault.kind ≡ kinds.Memory → ⊥) → FirstFault (lines log) fault) → IsFaultOf log procs (fault_of fault)
fault-read log procs fault within first = go fault.kind first where
  go : (kind : FaultKind) → ((kind ≡ kinds.Memory → ⊥) → FirstFault (lines log) fault) → IsFaultOf log procs (fault_of_kind fault kind)
  go kinds.Memory h = tt
  go kinds.LineTooLong h = (within, h (λ e. absurd cc))
  go kinds.NotAscii h = (within, h (λ e. absurd cc))
  go kinds.FieldCount h = (within, h (λ e. absurd cc))
  go (kinds.BadNumber place) h = (within, h (λ e. absurd cc))
  go kinds.BadJobNumber h = (within, h (λ e. absurd cc))
  go kinds.BadSubmit h = (within, h (λ e. absurd cc))
  go kinds.OrphanPartial h = (within, h (λ e. absurd cc))
  go kinds.DuplicateJob h = (within, h (λ e. absurd cc))
  go kinds.TooManyJobs h = (within, h (λ e. absurd cc))

-- what holds of a fault holds of the fault of a result that is this fault
pub outcome-so : {X : Type 0} (P : ProgramFault → Type 0) (r : Result X ProgramFault) (fault : ProgramFault) → r ≡ Err fault → P fault → IfErr r P
outcome-so {X} P r fault is h = subst (λ (s : Result X ProgramFault). IfErr s P) (sym is) h

-- a fault of a log that is not opened, with nothing written, is a result for it, with a script or without
pub refused-so : {X : Type 0} (A : Type 0) (log : List ℕ) (script : Option (List ℕ)) (procs : Option ℕ) (old : Option (List ℕ)) (fault : ProgramFault) (r : Result X ProgramFault) → r ≡ Err fault → IsFaultOf log procs fault → RunsParts A log script procs old old r
refused-so {X} A log script procs old fault r is h = subst (λ (s : Result X ProgramFault). RunsParts A log script procs old old s) (sym is) (parts-refused X A log script procs old fault h)

-- a result that is an error equal to this fault is the error with this fault
pub err-is : {X : Type 0} (r : Result X ProgramFault) (fault : ProgramFault) → IsErrAnd r (λ f. f ≡ fault) → r ≡ Err fault
err-is (Ok x) fault h = absurd h
err-is (Err f) fault h = ap Err h

-- why a log that was read as a text is not opened is the program's fault for the log, where it is within its limit
pub fault-opened : (log : List ℕ) (procs : Option ℕ) (text : LogText) (fault : OpenTextFault) → length log ≤ log_limit → IsText (lines log) text → IsOpenFault procs text.comments fault → IsFaultOf log procs (fault_of_opening fault)
fault-opened log procs text openings.NoMachine within is h = record { within = within; read = text; is_text = is; refused = h }
fault-opened log procs text openings.BadMachine within is h = record { within = within; read = text; is_text = is; refused = h }
fault-opened log procs text openings.Memory within is h = tt
