-- Logs in their order: what holds of one after an edit. Numbers counted at most once are distinct; soundness, order and distinct numbers
-- are kept with an entry put in its place, which makes a log one longer, taken out, or moved, and from a second on.
use Rattle.std.proofs.Common.{◌≡◌, ◌≢◌, ℕ, zero, suc, ◌+◌, ◌<◌, ◌≤◌, List, [], ◌∷◌, Some, Bool, true, false, ◌==◌, nat_eq, nat_le, not, cond, filter, length, drop, count_by, refl, ap, sym, subst, ◌∙◌, arith, if◌then◌else◌}
use Rattle.std.specs.List.{AllByRecursion, position_or_len}
use Rattle.std.proofs.lemmas.Bool.{eq-eqb, cond-true}
use Rattle.std.proofs.lemmas.Bool.Decides.{nat_tests}
use Rattle.std.proofs.lemmas.List.Sums.{sum_by-cons}
use Rattle.swf_text.proofs.Lemmas.{exact_number}
use Rattle.swf_text.specs.Entry.{LogEntry, IsEntry, has_number, is_some_number, whole_number, field, number_of_entry, submit_of}
use Rattle.swf_text.specs.Log.{IsLog, comes_before, with_entry, log_of}
use Rattle.job_table.specs.Table.{IsTable}
use Rattle.job_table.proofs.Arrangement.{numbered, comes}
use Rattle.job_table.proofs.LogOrder.{Rises-IsRising, IsRising-Rises}
use Rattle.job_table.proofs.Keyed.{Rise, Apart, Lacks, Lead, stands, found, left, placed, arranged, same_number, number_differs, rising-placed, rising-without, distinct-placed, distinct-without, arranged-rising, Lacks-itself}

module _ {X : Type 0} (at num : X → ℕ) where
  numbered-one : (n : ℕ) (x : X) (xs : List X) → numbered num n (x ∷ xs) ≡ cond (nat_eq (num x) n) 1 0 + numbered num n xs
  numbered-one n x xs = sum_by-cons (λ z. cond (nat_eq (num z) n) 1 0) x xs

  Lacks-counted : (n : ℕ) (xs : List X) → numbered num n xs ≡ 0 → Lacks at num n xs
  Lacks-counted n [] h = tt
  Lacks-counted n (x ∷ xs) h = (differs, Lacks-counted n xs (omega (arith, numbered-one n x xs)))
    where
      differs : num x ≢ n
      differs e = let one = cond-true {A = ℕ} (nat_eq (num x) n) 1 0 (eq-eqb (num x) n e) in omega (arith, numbered-one n x xs, one, h)

  -- no two have the same number where at most one has each number
  pub Apart-counted : (xs : List X) → ((n : ℕ) → numbered num n xs ≤ 1) → Apart at num xs
  Apart-counted [] h = tt
  Apart-counted (x ∷ xs) h = (
    Lacks-counted (num x) xs (let one = cond-true {A = ℕ} (nat_eq (num x) (num x)) 1 0 (eq-eqb (num x) (num x) refl) in omega (arith, h (num x), numbered-one (num x) x xs, one)),
    Apart-counted xs (λ n. omega (arith, h n, numbered-one n x xs)),
  )

  counted-Lacks : (n : ℕ) (xs : List X) → Lacks at num n xs → numbered num n xs ≡ 0
  counted-Lacks n [] l = refl
  counted-Lacks n (x ∷ xs) l = numbered-one n x xs ∙ rw (number_differs (num x) n l.0) (omega (arith, counted-Lacks n xs l.1))

  pub counted-Apart : (n : ℕ) (xs : List X) → Apart at num xs → numbered num n xs ≤ 1
  counted-Apart n [] a = omega arith
  counted-Apart n (x ∷ xs) a = go (nat_eq (num x) n) refl (counted-Apart n xs a.1)
    where
      go : (b : Bool) → nat_eq (num x) n ≡ b → numbered num n xs ≤ 1 → numbered num n (x ∷ xs) ≤ 1
      go true t i =
          let same : num x ≡ n = same_number (num x) n t in
          let none : numbered num n xs ≡ 0 = counted-Lacks n xs (subst (λ m. Lacks at num m xs) same a.0) in
          let one : cond {A = ℕ} (nat_eq (num x) n) 1 0 ≡ 1 = ap (λ b. cond {A = ℕ} b 1 0) t in
          omega (arith, numbered-one n x xs, one, none)
      go false t i =
          let one : cond {A = ℕ} (nat_eq (num x) n) 1 0 ≡ 0 = ap (λ b. cond {A = ℕ} b 1 0) t in
          omega (arith, numbered-one n x xs, one, i)

  -- a list with an element put in has one more
  pub length-placed : (e : X) (xs : List X) → length (placed at num e xs) ≡ length xs + 1
  length-placed e [] = refl
  length-placed e (x ∷ xs) = go (comes (at x) (num x) (at e) (num e)) (length-placed e xs)
    where
      go : (b : Bool) → length (placed at num e xs) ≡ length xs + 1 → length (if b then x ∷ placed at num e xs else e ∷ x ∷ xs) ≡ suc (length xs) + 1
      go true i = omega (arith, i)
      go false i = omega arith

  pub length-left : (n : ℕ) (xs : List X) → length (left at num n xs) ≤ length xs
  length-left n [] = omega arith
  length-left n (x ∷ xs) = go (num x == n) (length-left n xs)
    where
      go : (b : Bool) → length (left at num n xs) ≤ length xs → length (if not b then x ∷ left at num n xs else left at num n xs) ≤ suc (length xs)
      go true i = omega (arith, i)
      go false i = omega (arith, i)

  pub length-moved : (n : ℕ) (e : X) (xs : List X) → found at num n xs ≡ Some e → length (left at num n xs) + 1 ≤ length xs
  length-moved n e [] h = cc
  length-moved n e (x ∷ xs) h = go (num x == n) h (length-left n xs) (length-moved n e xs)
    where
      go : (b : Bool) → (if b then Some x else found at num n xs) ≡ Some e → length (left at num n xs) ≤ length xs → (found at num n xs ≡ Some e → length (left at num n xs) + 1 ≤ length xs)
          → length (if not b then x ∷ left at num n xs else left at num n xs) + 1 ≤ suc (length xs)
      go true k i ih = omega (arith, i)
      go false k i ih = omega (arith, ih k)

  -- what holds of all elements and of one more holds of all with that one put in
  pub all-placed : (P : X → Type 0) (e : X) (xs : List X) → P e → AllByRecursion P xs → AllByRecursion P (placed at num e xs)
  all-placed P e [] p a = (p, tt)
  all-placed P e (x ∷ xs) p a = go (comes (at x) (num x) (at e) (num e)) (all-placed P e xs p a.1)
    where
      go : (b : Bool) → AllByRecursion P (placed at num e xs) → AllByRecursion P (if b then x ∷ placed at num e xs else e ∷ x ∷ xs)
      go true i = (a.0, i)
      go false i = (p, a)

  pub all-left : (P : X → Type 0) (n : ℕ) (xs : List X) → AllByRecursion P xs → AllByRecursion P (left at num n xs)
  all-left P n [] a = tt
  all-left P n (x ∷ xs) a = go (num x == n) (all-left P n xs a.1)
    where
      go : (b : Bool) → AllByRecursion P (left at num n xs) → AllByRecursion P (if not b then x ∷ left at num n xs else left at num n xs)
      go true i = i
      go false i = (a.0, i)

  late : (s : ℕ) (x : X) (xs : List X) → s ≤ at x → Lead at num x xs → filter (λ e. nat_le s (at e)) xs ≡ xs
  late s x [] h l = refl
  late s x (y ∷ ys) h l =
      let later : nat_le s (at y) ≡ true = after s (at x) (num x) (at y) (num y) h l.0 in
      rw later (ap (λ zs. y ∷ zs) (late s x ys h l.1))
    where
      after : (s a n b m : ℕ) → s ≤ a → comes a n b m ≡ true → nat_le s b ≡ true
      after s a n b m h k = grind (arith, nat_tests)

  -- a rising list without those that stand before the pair (s, 0) at its front is its elements from s on
  pub dropped-from : (s : ℕ) (xs : List X) → Rise at num xs → drop (position_or_len (λ e. not (stands at num s 0 e)) xs) xs ≡ filter (λ e. nat_le s (at e)) xs
  dropped-from s [] r = refl
  dropped-from s (x ∷ xs) r = go (stands at num s 0 x) refl (dropped-from s xs r.1)
    where
      early : (a n s : ℕ) → comes a n s 0 ≡ true → nat_le s a ≡ false
      early a n s h = grind (arith, nat_tests)

      on-time : (a n s : ℕ) → comes a n s 0 ≡ false → s ≤ a
      on-time a n s h = grind (arith, nat_tests)

      from-time : (a n s : ℕ) → comes a n s 0 ≡ false → nat_le s a ≡ true
      from-time a n s h = grind (arith, nat_tests)

      step : (k : ℕ) → 1 + k ≡ suc k
      step k = omega arith

      go : (b : Bool) → stands at num s 0 x ≡ b → drop (position_or_len (λ e. not (stands at num s 0 e)) xs) xs ≡ filter (λ e. nat_le s (at e)) xs
          → drop (position_or_len (λ e. not (stands at num s 0 e)) (x ∷ xs)) (x ∷ xs) ≡ filter (λ e. nat_le s (at e)) (x ∷ xs)
      go true t i = let gone : nat_le s (at x) ≡ false = early (at x) (num x) s t in rw (t, gone, step) i
      go false t i = let kept : nat_le s (at x) ≡ true = from-time (at x) (num x) s t in rw (t, kept) (ap (λ ys. x ∷ ys) (sym (late s x xs (on-time (at x) (num x) s t) r.0)))

  Rise-drop : (k : ℕ) (xs : List X) → Rise at num xs → Rise at num (drop k xs)
  Rise-drop zero xs r = r
  Rise-drop (suc k) [] r = tt
  Rise-drop (suc k) (x ∷ xs) r = Rise-drop k xs r.1

  Apart-drop : (k : ℕ) (xs : List X) → Apart at num xs → Apart at num (drop k xs)
  Apart-drop zero xs r = r
  Apart-drop (suc k) [] r = tt
  Apart-drop (suc k) (x ∷ xs) r = Apart-drop k xs r.1

all-drop : {X : Type 0} (P : X → Type 0) (k : ℕ) (xs : List X) → AllByRecursion P xs → AllByRecursion P (drop k xs)
all-drop P zero xs r = r
all-drop P (suc k) [] r = tt
all-drop P (suc k) (x ∷ xs) r = all-drop P k xs r.1

length-rest : {X : Type 0} (k : ℕ) (xs : List X) → length (drop k xs) ≤ length xs
length-rest zero xs = omega arith
length-rest (suc k) [] = omega arith
length-rest (suc k) (x ∷ xs) = omega (arith, length-rest k xs)

number-is : (e : LogEntry) → IsEntry e → whole_number (field e.main 1) ≡ Some (number_of_entry e)
number-is e h =
    let w : whole_number (field e.main 1) ≡ Some h.number = exact_number (field e.main 1) h.number h.numbered in
    rw w refl

has-is : (n : ℕ) (e : LogEntry) → IsEntry e → has_number n e ≡ nat_eq (number_of_entry e) n
has-is n e h = ap (is_some_number n) (number-is e h) ∙ flip n (number_of_entry e)
  where
    flip : (a b : ℕ) → nat_eq a b ≡ nat_eq b a
    flip a b = grind (arith, nat_tests)

counts : (n : ℕ) (es : List LogEntry) → AllByRecursion IsEntry es → count_by (has_number n) es ≡ numbered number_of_entry n es
counts n [] a = refl
counts n (e ∷ es) a =
    sum_by-cons (λ z. cond (has_number n z) 1 0) e es ∙ (rw (has-is n e a.0, counts n es a.1) refl ∙ sym (numbered-one submit_of number_of_entry n e es))

abbrev pub Rising : List LogEntry → Type 0
Rising es = Rise submit_of number_of_entry es

abbrev pub Distinct : List LogEntry → Type 0
Distinct es = Apart submit_of number_of_entry es

-- in a table each entry comes before all later ones
pub table-rising : (es : List LogEntry) → IsTable es → Rising es
table-rising es t = Rises-IsRising es t.rising

-- of a log at most one entry has a number
pub log-counted : (es : List LogEntry) → IsLog es → (n : ℕ) → numbered number_of_entry n es ≤ 1
log-counted es l n = subst (λ k. k ≤ 1) (counts n es l.sound) (l.distinct n)

-- no two entries of a table have one number
pub table-apart : (es : List LogEntry) → IsTable es → Distinct es
table-apart es t = Apart-counted submit_of number_of_entry es (log-counted es t.log)

-- sound entries with distinct numbers, each before all later ones, no more than a log may have, are a table
pub table-from : (es : List LogEntry) → AllByRecursion IsEntry es → Distinct es → length es ≤ 4194304 → Rising es → IsTable es
table-from es a d few r = record {
  log = record {
    sound = a;
    distinct = λ n. subst (λ k. k ≤ 1) (sym (counts n es a)) (counted-Apart submit_of number_of_entry n es d);
    capacity = few;
  };
  rising = IsRising-Rises es r;
}

-- an entry put behind those that come before it is put as the log has it
pub placed-is : (e : LogEntry) (es : List LogEntry) → placed submit_of number_of_entry e es ≡ with_entry e es
placed-is e [] = refl
placed-is e (x ∷ es) = ap (λ (ys : List LogEntry). if comes_before x e then x ∷ ys else e ∷ x ∷ es) (placed-is e es)

-- entries, put one after another behind those that come before them, are the log
pub arranged-is : (es : List LogEntry) → arranged submit_of number_of_entry es ≡ log_of es
arranged-is [] = refl
arranged-is (e ∷ es) = ap (placed submit_of number_of_entry e) (arranged-is es) ∙ placed-is e (log_of es)

-- entries of which each comes before all later ones are their own log
pub log_of-rising : (es : List LogEntry) → Rising es → log_of es ≡ es
log_of-rising es r = sym (arranged-is es) ∙ arranged-rising submit_of number_of_entry es r

-- a table that is not full, with a sound entry of a new number put in its place, is a table
pub table-placed : (e : LogEntry) (es : List LogEntry) → IsTable es → IsEntry e → Lacks submit_of number_of_entry (number_of_entry e) es → length es < 4194304 → IsTable (placed submit_of number_of_entry e es)
table-placed e es t h l capacity =
    table-from (placed submit_of number_of_entry e es) (all-placed submit_of number_of_entry IsEntry e es h t.log.sound) (distinct-placed submit_of number_of_entry e es (table-apart es t) l)
    (omega (arith, length-placed submit_of number_of_entry e es)) (rising-placed submit_of number_of_entry e es (table-rising es t) l)

-- a table without the entry of a number is a table
pub table-left : (n : ℕ) (es : List LogEntry) → IsTable es → IsTable (left submit_of number_of_entry n es)
table-left n es t =
    table-from (left submit_of number_of_entry n es) (all-left submit_of number_of_entry IsEntry n es t.log.sound) (distinct-without submit_of number_of_entry n es (table-apart es t))
    (omega (arith, length-left submit_of number_of_entry n es, t.log.capacity)) (rising-without submit_of number_of_entry n es (table-rising es t))

-- a table is a table with its entry of a number taken out and another sound entry of that number put in its place
pub table-moved : (n : ℕ) (was e : LogEntry) (es : List LogEntry) → IsTable es → found submit_of number_of_entry n es ≡ Some was → IsEntry e → number_of_entry e ≡ n → IsTable (placed submit_of number_of_entry e (left submit_of number_of_entry n es))
table-moved n was e es t there h same =
    table-placed e (left submit_of number_of_entry n es) (table-left n es t) h
    (subst (λ m. Lacks submit_of number_of_entry m (left submit_of number_of_entry n es)) (sym same) (Lacks-itself submit_of number_of_entry n es))
    (omega (arith, length-moved submit_of number_of_entry n was es there, t.log.capacity))

-- a table without its first entries is a table
pub table-drop : (k : ℕ) (es : List LogEntry) → IsTable es → IsTable (drop k es)
table-drop k es t =
    table-from (drop k es) (all-drop IsEntry k es t.log.sound) (Apart-drop submit_of number_of_entry k es (table-apart es t))
    (omega (arith, length-rest k es, t.log.capacity)) (Rise-drop submit_of number_of_entry k es (table-rising es t))
