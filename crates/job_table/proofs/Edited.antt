-- A table after an edit, as the code makes it: with an entry put in its place, with one taken out, or with one taken out and
-- put in its place changed. Each is the log of the edited collection.
use Rattle.std.proofs.Common.{◌≡◌, ℕ, suc, ◌-◌, ◌<◌, ◌≤◌, List, [], ◌∷◌, Some, None, Bool, true, false, ◌==◌, ◌&&◌, ◌||◌, nat_lt, length, get_or, ℤ, pos, refl, ap, sym, ◌∙◌, arith, if◌then◌else◌}
use Rattle.std.proofs.Math.ListN.{set}
use Rattle.std.specs.Prelude.{unwrap_or}
use Rattle.std.proofs.lemmas.Bool.{ltb-false}
use Rattle.swf_text.specs.declared.fault.EntryFault.{EntryFault}
use Rattle.swf_text.specs.declared.fault.EntryFault.TheVariants as refusals
use Rattle.swf_text.specs.Entry.{LogEntry, IsEntry, whole_number, is_partial, submit_of, number_of_entry, field_change}
use Rattle.swf_text.specs.Number.{is_below_zero}
use Rattle.swf_text.specs.Log.{with_entry, log_of}
use Rattle.std.specs.Prelude.{Ok, Err, Result}
use Rattle.job_table.specs.declared.fault.EditFault.TheVariants as faults
use Rattle.job_table.specs.Edit.{entry_of, with_field, without, changed, change_fault}
use Rattle.job_table.specs.Table.{IsTable}
use Rattle.job_table.proofs.Keyed.{placed, found-number, Lacks-from_none, arranged-turned}
use Rattle.job_table.proofs.Tables.{table-rising, table-apart, table-placed, table-left, placed-is, arranged-is, log_of-rising}

-- a table that is not full, with a sound entry of a new number put in its place, is a table
pub table-more : (e : LogEntry) (old : List LogEntry) → IsTable old → IsEntry e → entry_of (number_of_entry e) old ≡ None → length old < 4194304 → IsTable (placed submit_of number_of_entry e old)
table-more e old t h new capacity = table-placed e old t h (Lacks-from_none submit_of number_of_entry (number_of_entry e) old new) capacity

-- an entry put in its place in a table makes the log of the table with this entry more
pub log-more : (e : LogEntry) (old : List LogEntry) → IsTable old → placed submit_of number_of_entry e old ≡ with_entry e (log_of old)
log-more e old t = placed-is e old ∙ ap (with_entry e) (sym (log_of-rising old (table-rising old t)))

-- a table without the entry of a number is the log of what is left
pub log-less : (n : ℕ) (old : List LogEntry) → IsTable old → without n old ≡ log_of (without n old)
log-less n old t = sym (log_of-rising (without n old) (table-rising (without n old) (table-left n old t)))

first-kept : (main : List ℤ) (q : ℕ) (v : ℤ) → get_or (set main (suc q) v) 0 (pos 0) ≡ get_or main 0 (pos 0)
first-kept [] q v = refl
first-kept (x ∷ xs) q v = refl

pub number-kept : (place : ℕ) (value : ℤ) → 2 ≤ place → (e : LogEntry) → number_of_entry (with_field place value e) ≡ number_of_entry e
number-kept place value h e =
    let later : place - 1 ≡ suc (place - 2) = omega arith in
    ap (λ (v : ℤ). unwrap_or (whole_number v) 0) (ap (λ (q : ℕ). get_or (set e.main q value) 0 (pos 0)) later ∙ first-kept e.main (place - 2) value)

-- a change without a fault is of field 2 or a later one
pub change-places : (place : ℕ) (value : ℤ) → change_fault place value ≡ None → 2 ≤ place
change-places place value h = go (nat_lt place 2) refl (nat_lt 18 place) h
  where
    go : (a : Bool) → nat_lt place 2 ≡ a → (b : Bool) → (if a || b then Some faults.BadField else (if (place == 2 && is_below_zero value) || (place == 11 && is_partial value) then Some faults.BadValue else None)) ≡ None → 2 ≤ place
    go true t b k = cc
    go false t b k = ltb-false place 2 t

-- a change without a fault is one that an entry takes
pub change-taken : (place : ℕ) (value : ℤ) → change_fault place value ≡ None → field_change place value ≡ Ok tt
change-taken place value h = go (nat_lt place 2 || nat_lt 18 place) (place == 2 && is_below_zero value) (place == 11 && is_partial value) h
  where
    go : (a b c : Bool) → (if a then Some faults.BadField else (if b || c then Some faults.BadValue else None)) ≡ None
        → (let r : Result (Unit {0}) EntryFault = (if a then Err refusals.BadJobNumber else (if b then Err refusals.BadSubmit else (if c then Err refusals.BadStatus else Ok tt))) in r) ≡ Ok tt
    go true b c k = cc
    go false true c k = cc
    go false false true k = cc
    go false false false k = refl

-- the changed entry, put in its place among the others, makes the log of the changed collection
pub log-changed : (n place : ℕ) (value : ℤ) (old : List LogEntry) (was now : LogEntry) → 2 ≤ place → IsTable old → entry_of n old ≡ Some was → now ≡ with_field place value was → placed submit_of number_of_entry now (without n old) ≡ log_of (changed n place value old)
log-changed n place value old was now h t there is =
    ap (λ (e : LogEntry). placed submit_of number_of_entry e (without n old)) is
    ∙ sym (arranged-turned submit_of number_of_entry n (with_field place value) (number-kept place value h) old was (table-rising old t) (table-apart old t) there)
    ∙ arranged-is (changed n place value old)

-- an entry keeps its job number where field 2 or a later one is changed
pub number-stays : (n place : ℕ) (value : ℤ) (old : List LogEntry) (was now : LogEntry) → 2 ≤ place → entry_of n old ≡ Some was → now ≡ with_field place value was → number_of_entry now ≡ n
number-stays n place value old was now h there is = ap number_of_entry is ∙ number-kept place value h was ∙ found-number submit_of number_of_entry n old was there
