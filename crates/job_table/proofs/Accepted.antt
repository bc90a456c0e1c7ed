-- Accepted edits make logs: an edit without a fault keeps a table a table, and so each version is one.
-- A change keeps its entry sound, since it leaves field 1 alone and its value is one that the field may have.
use Rattle.std.proofs.Common.{◌≡◌, ◌≢◌, ℕ, zero, suc, ◌-◌, ◌≤◌, List, [], ◌∷◌, Option, Some, None, Bool, true, false, ◌==◌, ◌&&◌, ◌||◌, nat_lt, nat_le, length, take, ℤ, pos, negsuc, ◌≤ℤ◌, is_some, refl, ap, sym, subst, ◌∙◌, arith, rules, inl, inr, ◌*◌, if◌then◌else◌}
use Rattle.std.specs.Prelude.{nat_abs}
use Rattle.std.proofs.Math.ListN.{set}
use Rattle.std.proofs.lemmas.Bool.{cases_eq, eq-eqb, ltb-false, leb-false, true≢false}
use Rattle.std.proofs.lemmas.List.{get_or-set_same, get_or-set_other, length-set}
use Rattle.swf_text.specs.Number.{greatest, is_below_zero}
use Rattle.swf_text.specs.Entry.{LogEntry, IsEntry, is_partial, field, number_of_entry}
use Rattle.job_table.specs.declared.fault.EditFault.TheVariants as faults
use Rattle.job_table.specs.Edit.{LogEdit, Insert, Remove, Change, entry_of, with_field, change_fault, fault_of, applied, log_after, log_at}
use Rattle.job_table.specs.Table.{IsTable}
use Rattle.job_table.specs.Accepted.{IsEdit, AreAccepted}
use Rattle.job_table.proofs.Tables.{table-left, table-moved}
use Rattle.job_table.proofs.Lookups.{found-sound}
use Rattle.job_table.proofs.Edited.{table-more, log-more, log-less, log-changed, number-stays}

record MayChange (place : ℕ) (value : ℤ) : Type 0 where
  low : 2 ≤ place
  high : place ≤ 18
  early : (place == 2 && is_below_zero value) ≡ false
  status : (place == 11 && is_partial value) ≡ false

may-change : (place : ℕ) (value : ℤ) → change_fault place value ≡ None → MayChange place value
may-change place value h = go (nat_lt place 2) (nat_lt 18 place) (place == 2 && is_below_zero value) (place == 11 && is_partial value) refl refl refl refl h
  where
    go : (a b c d : Bool) → nat_lt place 2 ≡ a → nat_lt 18 place ≡ b → (place == 2 && is_below_zero value) ≡ c → (place == 11 && is_partial value) ≡ d
        → (if a || b then Some faults.BadField else (if c || d then Some faults.BadValue else None)) ≡ None → MayChange place value
    go true b c d p q r s k = cc
    go false true c d p q r s k = cc
    go false false true d p q r s k = cc
    go false false false true p q r s k = cc
    go false false false false p q r s k = record { low = ltb-false place 2 p; high = ltb-false 18 place q; early = r; status = s }

same-field : (main : List ℤ) (place : ℕ) (value : ℤ) → 2 ≤ place → place ≤ 18 → length main ≡ 18 → field (set main (place - 1) value) place ≡ value
same-field main place value low high all = get_or-set_same main (place - 1) value (pos 0) (omega arith)

other-field : (main : List ℤ) (place other : ℕ) (value : ℤ) → 2 ≤ place → 1 ≤ other → other ≢ place → field (set main (place - 1) value) other ≡ field main other
other-field main place other value low some ne = get_or-set_other main (place - 1) (other - 1) value (pos 0) (λ e. ne (omega (arith, e)))

field-kept : (P : ℤ → Type 0) (main : List ℤ) (place other : ℕ) (value : ℤ) → 2 ≤ place → place ≤ 18 → length main ≡ 18 → 1 ≤ other → (place ≡ other → P value) → P (field main other) → P (field (set main (place - 1) value) other)
field-kept P main place other value low high all some here there = elim (cases_eq place other) [
  | inl e ↦ subst P (sym (ap (field (set main (place - 1) value)) (sym e) ∙ same-field main place value low high all)) (here e)
  | inr ne ↦ subst P (sym (other-field main place other value low some (λ e. ne (sym e)))) there
]

not-negative : (v : ℤ) → is_below_zero v ≡ false → pos 0 ≤ℤ v
not-negative (pos m) h = search rules
not-negative (negsuc m) h = absurd (true≢false h)

second-of : (a b : Bool) → a ≡ true → (a && b) ≡ false → b ≡ false
second-of true b h k = k
second-of false b h k = absurd (true≢false (sym h))

changed-sound : (place : ℕ) (value : ℤ) (e : LogEntry) → MayChange place value → nat_abs value ≤ greatest → IsEntry e → IsEntry (with_field place value e)
changed-sound place value e m small h = record {
  number = h.number;
  eighteen = length-set e.main (place - 1) value ∙ h.eighteen;
  numbered = field-kept (λ v. v ≡ pos (1000000 * h.number)) e.main place 1 value m.low m.high h.eighteen (omega arith) (λ is. absurd (let low = m.low in omega arith)) h.numbered;
  number_limit = h.number_limit;
  submit = field-kept (λ v. pos 0 ≤ℤ v) e.main place 2 value m.low m.high h.eighteen (omega arith) (λ is. not-negative value (second-of (place == 2) (is_below_zero value) (eq-eqb place 2 is) m.early)) h.submit;
  submit_limit = field-kept (λ v. nat_abs v ≤ greatest) e.main place 2 value m.low m.high h.eighteen (omega arith) (λ is. small) h.submit_limit;
  summary = field-kept (λ v. is_partial v ≡ false) e.main place 11 value m.low m.high h.eighteen (omega arith) (λ is. second-of (place == 11) (is_partial value) (eq-eqb place 11 is) m.status) h.summary;
  parts = h.parts;
}

insertion-sound : (e : LogEntry) (log : List LogEntry) → IsTable log → IsEntry e → fault_of (Insert e) log ≡ None → IsTable (applied (Insert e) log)
insertion-sound e log t h k = go (entry_of (number_of_entry e) log) refl (nat_le 4194304 (length log)) refl k
  where
    go : (o : Option LogEntry) → entry_of (number_of_entry e) log ≡ o → (b : Bool) → nat_le 4194304 (length log) ≡ b → (if is_some o then Some faults.DuplicateJob else (if b then Some faults.TableFull else None)) ≡ None → IsTable (applied (Insert e) log)
    go (Some x) p b q k = cc
    go None p true q k = cc
    go None p false q k = subst IsTable (log-more e log t) (table-more e log t h p (leb-false 4194304 (length log) q))

removal-sound : (n : ℕ) (log : List LogEntry) → IsTable log → IsTable (applied (Remove n) log)
removal-sound n log t = subst IsTable (log-less n log t) (table-left n log t)

change-sound : (n place : ℕ) (value : ℤ) (log : List LogEntry) → IsTable log → nat_abs value ≤ greatest → fault_of (Change n place value) log ≡ None → IsTable (applied (Change n place value) log)
change-sound n place value log t small k = go (entry_of n log) refl k
  where
    go : (o : Option LogEntry) → entry_of n log ≡ o → (if is_some o then change_fault place value else Some faults.NoSuchJob) ≡ None → IsTable (applied (Change n place value) log)
    go None p k = cc
    go (Some was) p k =
        let may = may-change place value k in
        let now : LogEntry = with_field place value was in
        let sound : IsEntry now = changed-sound place value was may small (found-sound n IsEntry log was t.log.sound p) in
        subst IsTable (log-changed n place value log was now may.low t p refl) (table-moved n was now log t p sound (number-stays n place value log was now may.low p refl))

-- a table stays a table after an edit that has no fault
pub accepted-sound : (log : List LogEntry) (edit : LogEdit) → IsTable log → IsEdit edit → fault_of edit log ≡ None → IsTable (applied edit log)
accepted-sound log (Insert e) t h k = insertion-sound e log t h k
accepted-sound log (Remove n) t h k = removal-sound n log t
accepted-sound log (Change n place value) t h k = change-sound n place value log t h k

after-sound : (v : ℕ) (log : List LogEntry) (edits : List LogEdit) → IsTable log → AreAccepted log edits → IsTable (log_after log (take v edits))
after-sound zero log edits t a = t
after-sound (suc v) log [] t a = t
after-sound (suc v) log (edit ∷ edits) t a = after-sound v (applied edit log) edits (accepted-sound log edit t a.0 a.1) a.2

-- each version of a table is a table, where each edit is accepted after those before it
pub versions-sound : (opening : List LogEntry) (accepted : List LogEdit) → IsTable opening → AreAccepted opening accepted → (version : ℕ) → IsTable (log_at opening accepted version)
versions-sound opening accepted t a version = after-sound version opening accepted t a
