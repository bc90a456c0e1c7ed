-- A log that is opened and saved is read back, and saved again with the same bytes. What it is opened with is a sound list of one
-- scenario or more.
use Rattle.std.proofs.Common.{◌≡◌, ℕ, ◌<◌, Bool, true, false, eqb, List, [], ◌∷◌, length, Option, Some, None, is_some, refl, sym, ap, subst, ◌∙◌, arith}
use Rattle.std.specs.Prelude.{Result, Ok, Err, codes}
use Rattle.std.specs.List.{AllByRecursion}
use Rattle.std.proofs.lemmas.Bool.Decides.{nat_tests}
use Rattle.std.proofs.lemmas.Bool.{eqb-false}
use Rattle.swf_text.specs.Entry.{LogEntry, HasFields}
use Rattle.swf_text.specs.Grammar.{IsText}
use Rattle.swf_text.specs.Log.{comes_before, log_of, with_entry}
use Rattle.swf_text.specs.Text.{LogText, lines}
use Rattle.swf_text.specs.Writing.{text_bytes}
use Rattle.swf_text.proofs.Lemmas.{one_text, text_sound, read_again}
use Rattle.swf_text.specs.Comment.{IsComment}
use Rattle.job_table.specs.Table.{IsTable}
use Rattle.job_table.proofs.Lemmas.{log-table}
use Rattle.scenarios.specs.declared.order.Order.{Order}
use Rattle.scenarios.specs.Scenario.{ScenarioView, IsScenario, are_within, scenario_with}
use Rattle.scenarios.specs.ScenarioList.{Listing, IsListing, add_fault, empty}
use Rattle.scenarios.proofs.Lemmas.{can_add, IsListing-with}
use Rattle.commands.specs.declared.comment.ScenarioLine.{ScenarioLine}
use Rattle.commands.specs.declared.opening_fault.OpenTextFault.{OpenTextFault}
use Rattle.commands.specs.ScenarioLine.{scenario_line}
use Rattle.commands.specs.Opening.{base_on, machine_of, base_of, opened, declared, with_line, with_added}
use Rattle.commands.specs.Laws.{AreSavedAgain, SavesEditedBytes, SavesTheSameBytes, saved_of}
use Rattle.commands.proofs.SavedAgain.{saves_same, saves_sound}
use Rattle.commands.proofs.Declared.{declared_from}

within_limits : (p f : ℕ) (order : Order) → are_within p f ≡ true → IsScenario (record { procs = p; factor = f; order = order })
within_limits p f order h = record {
  some_procs = grind (arith, nat_tests);
  procs_fit = grind (arith, nat_tests);
  some_factor = grind (arith, nat_tests);
  factor_fits = grind (arith, nat_tests);
}

not_some : {X : Type 0} (o : Option X) → is_some o ≡ false → o ≡ None
not_some None h = refl
not_some (Some x) h = absurd (cc)

with_sound : (name : List ℕ) (scenario : ScenarioView) (list : Listing) → IsScenario scenario → IsListing list → IsListing (with_added name (Some scenario) list)
with_sound name scenario list set is = go (is_some (add_fault name list)) refl
  where
    go : (b : Bool) → is_some (add_fault name list) ≡ b → IsListing (with_added name (Some scenario) list)
    go true e = rw e is
    go false e = rw e (IsListing-with name scenario list is (can_add name list (not_some (add_fault name list) e)) set)

line_sound : (list : Listing) (line : Option ScenarioLine) → IsListing list → IsListing (with_line list line)
line_sound list None is = is
line_sound list (Some line) is = go (are_within line.procs line.factor) refl
  where
    go : (b : Bool) → are_within line.procs line.factor ≡ b → IsListing (with_line list (Some line))
    go true e = rw e (with_sound line.name (record { procs = line.procs; factor = line.factor; order = line.order }) list (within_limits line.procs line.factor line.order e) is)
    go false e = rw e is

declared_sound : (list : Listing) (comments : List (List ℕ)) → IsListing list → IsListing (declared_from list comments)
declared_sound list [] is = is
declared_sound list (comment ∷ comments) is = declared_sound (with_line list (scenario_line comment)) comments (line_sound list (scenario_line comment) is)

empty_sound : IsListing empty
empty_sound = record { listed = tt; apart = tt; ids = omega arith; capacity = omega arith; last = omega arith }

IsOpened : Result Listing OpenTextFault → Type 0
IsOpened (Ok list) = IsListing list × (0 < length list.scenarios)
IsOpened (Err fault) = Unit {0}

base_sound : (procs : ℕ) → IsOpened (base_of (scenario_with procs 1000))
unfolding IsOpened
base_sound procs = go (are_within procs 1000) refl
  where
    go : (b : Bool) → are_within procs 1000 ≡ b → IsOpened (base_of (scenario_with procs 1000))
    go true e = rw e (IsListing-with (codes "base") _ empty empty_sound (can_add (codes "base") empty refl) (within_limits procs 1000 _ e), omega arith)
    go false e = rw e tt

named_sound : (procs : Option ℕ) → IsOpened (base_on procs)
unfolding IsOpened
named_sound None = tt
named_sound (Some procs) = base_sound procs

positive : (n : ℕ) → (n ≡ 0 → ⊥) → 0 < n
positive n h = grind arith

opened_sound : (procs : Option ℕ) (comments : List (List ℕ)) → IsOpened (opened procs comments)
unfolding IsOpened
opened_sound procs comments = go (eqb (length (declared comments).scenarios) 0) refl
  where
    go : (b : Bool) → eqb (length (declared comments).scenarios) 0 ≡ b → IsOpened (opened procs comments)
    go true e = rw e (named_sound (machine_of procs comments))
    go false e = rw e (declared_sound empty comments empty_sound, positive _ (eqb-false (length (declared comments).scenarios) 0 e))

is_opened : (procs : Option ℕ) (comments : List (List ℕ)) (list : Listing) → opened procs comments ≡ Ok list → IsListing list × (0 < length list.scenarios)
unfolding IsOpened
is_opened procs comments list e = subst IsOpened e (opened_sound procs comments)

all_with : (P : LogEntry → Type 0) (e : LogEntry) (es : List LogEntry) → P e → AllByRecursion P es → AllByRecursion P (with_entry e es)
all_with P e [] p h = (p, tt)
all_with P e (x ∷ es) p h = go (comes_before x e) refl (all_with P e es p h.1)
  where
    go : (b : Bool) → comes_before x e ≡ b → AllByRecursion P (with_entry e es) → AllByRecursion P (with_entry e (x ∷ es))
    go true first more = rw first (h.0, more)
    go false first more = rw first (p, h)

all_log : (P : LogEntry → Type 0) (es : List LogEntry) → AllByRecursion P es → AllByRecursion P (log_of es)
all_log P [] h = tt
all_log P (e ∷ es) h = all_with P e (log_of es) h.0 (all_log P es h.1)

saved_read : (comments : List (List ℕ)) (entries : List LogEntry) (list : Listing) → AllByRecursion IsComment comments → AllByRecursion HasFields entries → IsTable entries → IsListing list → IsText (lines (text_bytes (saved_of comments entries list))) (saved_of comments entries list)
saved_read comments entries list sound fields table listing = read_again (saved_of comments entries list) (saves_sound comments entries list sound listing) fields table.log

same_list : (a b : Listing) (r : Result Listing OpenTextFault) → r ≡ Ok a → r ≡ Ok b → a ≡ b
same_list a b r p q = cc

-- the bytes that are saved of a log with a scenario or more, after any edits, opened and saved again, are the same, and no others
pub saves_edited : SavesEditedBytes
saves_edited comments entries list sound fields table listing some procs =
    let text : LogText = saved_of comments entries list in
    let reads : IsText (lines (text_bytes text)) text = saved_read comments entries list sound fields table listing in
    let same = saves_same comments entries list table listing some procs in (
      record { read = text; is_text = reads; list = same.0; opened_with = same.1; written = ap text_bytes (sym same.2) },
      λ again other.
          let read_same : other.read ≡ text = one_text (lines (text_bytes text)) text other.read reads other.is_text in
          let opens : opened procs text.comments ≡ Ok other.list = ap (λ (u : LogText). opened procs u.comments) (sym read_same) ∙ other.opened_with in
          let list_same : other.list ≡ same.0 = same_list other.list same.0 (opened procs text.comments) opens same.1 in
          other.written
          ∙ ap (λ (u : LogText). text_bytes (saved_of u.comments (log_of u.entries) other.list)) read_same
          ∙ ap (λ (l : Listing). text_bytes (saved_of text.comments (log_of text.entries) l)) list_same
          ∙ ap text_bytes same.2,
    )

-- the bytes that are saved of bytes that are opened, opened and saved again, are the same, and no others
pub saves_bytes : SavesTheSameBytes
saves_bytes procs bytes once is =
    let t = is.read in
    let sound = text_sound bytes t is.is_text in
    let listing = is_opened procs t.comments is.list is.opened_with in
    subst AreSavedAgain (sym is.written)
    (saves_edited t.comments (log_of t.entries) is.list sound.comments (all_log HasFields t.entries sound.fields) (log-table t.entries sound.log) listing.0 listing.1)
