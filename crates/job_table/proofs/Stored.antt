-- What a table stores, after an edit; what is read of it, and what the counts of an edit take from it.
use Rattle.std.proofs.Common.{◌≡◌, ℕ, ◌+◌, ◌-◌, ◌<◌, ◌≤◌, List, [], ◌∷◌, Option, Some, None, Bool, true, false, ◌==◌, not, length, Bor, option_map, option_copied, is_some, IsSome, IfSome, IsTrue, refl, ap, sym, subst, ◌∙◌, arith, if◌then◌else◌}
use Rattle.std.specs.List.{position_or_len}
use Rattle.std.proofs.lemmas.Bool.Decides.{nat_tests}
use Rattle.chunks.specs.declared.numbered.Numbered.{Numbered}
use Rattle.swf_text.specs.Entry.{LogEntry, IsEntry, submit_of, number_of_entry}
use Rattle.swf_text.specs.Log.{with_entry, log_of}
use Rattle.job_table.specs.Edit.{entry_of, holds, without}
use Rattle.job_table.specs.Table.{IsTable, IsIndex, IsStored, NumbersRise, entries_from, second_of}
use Rattle.job_table.proofs.Keyed.{Apart, Lacks, found-number, stands, placed, same_number, without-Lacks, Lacks-from_none, indexes_at, indexes-without, indexes-moved}
use Rattle.job_table.proofs.Tables.{table-apart, table-placed, table-left, table-moved, table-drop, table-rising, dropped-from, placed-is, length-placed}
use Rattle.job_table.proofs.Lookups.{found-sound}
use Rattle.job_table.proofs.Edited.{log-more}

pub length-less : (n : ℕ) (es : List LogEntry) (e : LogEntry) → Apart submit_of number_of_entry es → entry_of n es ≡ Some e → length (without n es) + 1 ≡ length es
length-less n [] e a h = cc
length-less n (x ∷ es) e a h = go (number_of_entry x == n) refl h (length-less n es e a.1)
  where
    go : (b : Bool) → (number_of_entry x == n) ≡ b → (if b then Some x else entry_of n es) ≡ Some e → (entry_of n es ≡ Some e → length (without n es) + 1 ≡ length es) → length (without n (x ∷ es)) + 1 ≡ length (x ∷ es)
    go true t k i =
        let same : number_of_entry x ≡ n = same_number (number_of_entry x) n t in
        let all : without n es ≡ es = without-Lacks submit_of number_of_entry n es (subst (λ (m : ℕ). Lacks submit_of number_of_entry m es) same a.0) in
        rw t (omega (arith, ap length all))
    go false t k i = rw t (omega (arith, i k))

module _ (old new : List LogEntry) (ps qs : List Numbered) (len : ℕ) (st : IsStored old ps len) where
  -- a table that is not full, with a sound entry of a new number put in, is stored with one more as length, and with pairs that rise by number
  -- and give its number its second, and each other number what they gave before
  pub stored-more : (e : LogEntry) (n s : ℕ) → IsEntry e → entry_of (number_of_entry e) old ≡ None → length old < 4194304 → new ≡ with_entry e old → n ≡ number_of_entry e → s ≡ submit_of e
      → NumbersRise qs → ((q : ℕ) → second_of qs q ≡ (if n == q then Some s else second_of ps q)) → IsStored new qs (len + 1)
  stored-more e n s h none capacity f a b up u =
      let lacks = Lacks-from_none submit_of number_of_entry (number_of_entry e) old none in
      let put : placed submit_of number_of_entry e old ≡ new = placed-is e old ∙ sym f in
      record {
        table = subst IsTable put (table-placed e old st.table h lacks capacity);
        index = record {
          rising = up;
          gives = subst (λ (es : List LogEntry). (q : ℕ) → second_of qs q ≡ option_map submit_of (entry_of q es)) put (indexes_at submit_of number_of_entry e old (second_of ps) (second_of qs) n s st.index.gives lacks a b u);
        };
        count = omega (arith, st.count, length-placed submit_of number_of_entry e old, ap length put);
      }

  -- a table without the entry of a number is stored with one less as length, and with pairs that rise by number and give that number
  -- no second, and each other number what they gave before
  pub stored-less : (n : ℕ) (e : LogEntry) → entry_of n old ≡ Some e → new ≡ without n old
      → NumbersRise qs → ((q : ℕ) → second_of qs q ≡ (if n == q then None else second_of ps q)) → IsStored new qs (len - 1)
  stored-less n e there f up u = record {
    table = subst IsTable (sym f) (table-left n old st.table);
    index = record {
      rising = up;
      gives = subst (λ (es : List LogEntry). (q : ℕ) → second_of qs q ≡ option_map submit_of (entry_of q es)) (sym f) (indexes-without submit_of number_of_entry n old (second_of ps) (second_of qs) st.index.gives u);
    };
    count = omega (arith, st.count, length-less n old e (table-apart old st.table) there, ap length f);
  }

  -- a table whose entry of a number makes way for another sound one of that number is stored with the same length, and with pairs that rise
  -- by number and give that number the new second, and each other number what they gave before
  pub stored-moved : (n s : ℕ) (was now : LogEntry) → entry_of n old ≡ Some was → IsEntry now → number_of_entry now ≡ n → new ≡ with_entry now (without n old) → s ≡ submit_of now
      → NumbersRise qs → ((q : ℕ) → second_of qs q ≡ (if n == q then Some s else second_of ps q)) → IsStored new qs len
  stored-moved n s was now there h same f at up u =
      let put : placed submit_of number_of_entry now (without n old) ≡ new = placed-is now (without n old) ∙ sym f in
      record {
        table = subst IsTable put (table-moved n was now old st.table there h same);
        index = record {
          rising = up;
          gives = subst (λ (es : List LogEntry). (q : ℕ) → second_of qs q ≡ option_map submit_of (entry_of q es)) put (indexes-moved submit_of number_of_entry n s old now (second_of ps) (second_of qs) st.index.gives same at u);
        };
        count = omega (arith, st.count, length-less n old was (table-apart old st.table) there, length-placed submit_of number_of_entry now (without n old), ap length put);
      }

-- to give a number the second that pairs give it already changes nothing that they give
pub tells-again : (n s : ℕ) (ps : List Numbered) → Some s ≡ second_of ps n → (q : ℕ) → second_of ps q ≡ (if n == q then Some s else second_of ps q)
tells-again n s ps h q = go (n == q) refl
  where
    go : (b : Bool) → (n == q) ≡ b → second_of ps q ≡ (if b then Some s else second_of ps q)
    go true t = ap (second_of ps) (sym (same_number n q t)) ∙ sym h
    go false t = refl

-- where there is a submit second of a number, there is an entry with the number
pub entry-there : (n s : ℕ) (es : List LogEntry) → Some s ≡ option_map submit_of (entry_of n es) → (e : LogEntry) × (entry_of n es ≡ Some e)
entry-there n s es h = go (entry_of n es) refl h
  where
    go : (o : Option LogEntry) → entry_of n es ≡ o → Some s ≡ option_map submit_of o → (e : LogEntry) × (entry_of n es ≡ Some e)
    go None t k = cc
    go (Some e) t k = (e, t)

-- an entry that a look-up by a number returns has the number
pub get-numbered : (n : ℕ) (es : List LogEntry) (r : Option (Bor LogEntry)) → option_copied r ≡ entry_of n es → IfSome r (λ e. number_of_entry e.now ≡ n)
get-numbered n es None h = tt
get-numbered n es (Some e) h = found-number submit_of number_of_entry n es e.now (sym h)

-- an entry that a look-up in a table returns is sound
pub get-sound : (n : ℕ) (es : List LogEntry) (r : Option (Bor LogEntry)) → IsTable es → option_copied r ≡ entry_of n es → IfSome r (λ e. IsEntry e.now)
get-sound n es None t h = tt
get-sound n es (Some e) t h = found-sound n IsEntry es e.now t.log.sound (sym h)

-- the entries of a table from a second on are a table
pub from-table : (s : ℕ) (es : List LogEntry) → IsTable es → IsTable (entries_from s es)
from-table s es t = subst IsTable (dropped-from submit_of number_of_entry s es (table-rising es t)) (table-drop (position_or_len (λ e. not (stands submit_of number_of_entry s 0 e)) es) es t)

-- an index gives a number a second exactly if an entry has the number
pub known-is : (n : ℕ) (es old : List LogEntry) (ps : List Numbered) → IsIndex ps es → es ≡ old → is_some (second_of ps n) ≡ holds n old
known-is n es old ps i e = ap is_some (i.gives n) ∙ go (entry_of n es) ∙ ap (holds n) e
  where
    go : (o : Option LogEntry) → is_some (option_map submit_of o) ≡ is_some o
    go None = refl
    go (Some x) = refl

module _ (e copy : LogEntry) (es old : List LogEntry) (ps : List Numbered) (t : IsTable es) (i : IsIndex ps es) (view : es ≡ old) (same : copy ≡ e) (new : entry_of (number_of_entry e) old ≡ None) where
  -- a table without an entry of a number has none of the number of a copy of an entry with that number
  pub lacks-it : entry_of (number_of_entry copy) es ≡ None
  lacks-it = ap (λ (x : LogEntry). entry_of (number_of_entry x) es) same ∙ ap (entry_of (number_of_entry e)) view ∙ new

  -- the index of a table without an entry of a number gives that number no second
  pub second-new : (n : ℕ) → n ≡ number_of_entry copy → second_of ps n ≡ None
  second-new n h = ap (second_of ps) h ∙ i.gives (number_of_entry copy) ∙ ap (option_map submit_of) lacks-it

  -- a table with a copy of an entry put in, whose number it lacks, is the log of the entry and the table's
  pub log-with : (rows : List LogEntry) → rows ≡ with_entry copy es → rows ≡ log_of (e ∷ old)
  log-with rows h =
      h ∙ sym (placed-is copy es) ∙ log-more copy es t ∙ ap (λ (x : LogEntry). with_entry x (log_of es)) same ∙ ap (λ (l : List LogEntry). with_entry e (log_of l)) view

-- an index has a pair where there is an entry
pub index-some : (ps : List Numbered) (es : List LogEntry) → IsIndex ps es → 1 ≤ length es → 1 ≤ length ps
index-some ps [] i h = absurd (omega (arith, h))
index-some [] (e ∷ es) i h = absurd (none-of (i.gives (number_of_entry e)))
  where
    own : (number_of_entry e == number_of_entry e) ≡ true
    own = grind (arith, nat_tests)

    none-of : None ≡ option_map submit_of (entry_of (number_of_entry e) (e ∷ es)) → ⊥
    none-of k = let same = rw own at k in cc
index-some (p ∷ ps) es i h = omega (arith)

-- where there is another job, one is left
pub left-some : (n s : ℕ) (es left : List LogEntry) → IsTable es → Some s ≡ option_map submit_of (entry_of n es) → left ≡ without n es → 2 ≤ length es → 1 ≤ length left
left-some n s es left t k e h = let there = entry-there n s es k in omega (arith, length-less n es there.0 (table-apart es t) there.1, ap length e, h)

-- a job that is there is told of by the index
pub outcome-of : (n : ℕ) (es old : List LogEntry) (ps : List Numbered) → IsIndex ps es → es ≡ old → IsTrue (holds n old) → is_some (second_of ps n) ≡ true
outcome-of n es old ps i e h = known-is n es old ps i e ∙ h

-- a look-up of a number that an entry has returns an entry
pub entry-outcome : (n : ℕ) (es old : List LogEntry) (r : Option (Bor LogEntry)) → option_copied r ≡ entry_of n es → es ≡ old → IsTrue (holds n old) → IsSome r
entry-outcome n es old r e v h = go r (ap is_some e ∙ ap (holds n) v ∙ h)
  where
    go : (o : Option (Bor LogEntry)) → is_some (option_copied o) ≡ true → IsSome o
    go None k = cc
    go (Some x) k = refl
