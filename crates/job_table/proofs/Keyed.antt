-- Lists whose elements rise by two numbers of each, the second of which no two share: which element has a number (found, Lacks, Apart)
-- and where it stands, the list with an element put behind those that come before it (placed), without the element of a number (left),
-- or with that element changed (turned), and maps that give the first number of each element by its second (Indexes).
use Rattle.std.proofs.Common.{◌≡◌, ◌≢◌, ℕ, zero, suc, ◌<◌, ◌≤◌, ◌+◌, List, [], ◌∷◌, Option, Some, None, Bool, true, false, ◌==◌, not, map, find, filter, length, get_or, option_map, refl, ap, sym, ◌∙◌, arith, if◌then◌else◌, insert, remove, slice_get, slice_set, cond}
use Rattle.std.specs.List.Sorted.{IsPartitionedBy, IsPartitionPoint}
use Rattle.std.specs.List.{position_or_len}
use Rattle.std.proofs.lemmas.List.Sums.{position_or_len_is}
use Rattle.std.proofs.lemmas.List.Folds.{find_at}
use Rattle.std.proofs.lemmas.Bool.Decides.{nat_tests}
use Rattle.std.proofs.lemmas.Option.{slice_get_within}
use Rattle.job_table.proofs.Arrangement.{comes, comes-trans, comes-itself, comes-back, comes-other, Leads, Rises}

one_more : (k : ℕ) → 1 + k ≡ suc k
one_more k = omega arith

-- numbers that the test finds equal are equal
pub same_number : (a n : ℕ) → (a == n) ≡ true → a ≡ n
same_number a n h = grind (arith, nat_tests)

-- numbers that the test does not find equal differ
pub other_number : (a n : ℕ) → (a == n) ≡ false → a ≢ n
other_number a n h = grind (arith, nat_tests)

-- the test does not find numbers equal that differ
pub number_differs : (a n : ℕ) → a ≢ n → (a == n) ≡ false
number_differs a n h = grind (arith, nat_tests)

abbrev pub test : ℕ → ℕ → ℕ → ℕ → Bool
test s n t m = comes t m s n

test-trans : (a b c d e f : ℕ) → test a b c d ≡ true → test c d e f ≡ true → test a b e f ≡ true
test-trans a b c d e f h k = comes-trans e f c d a b k h

test-irrefl : (a b : ℕ) → test a b a b ≡ false
test-irrefl a b = comes-itself a b

test-asym : (a b c d : ℕ) → test a b c d ≡ true → test c d a b ≡ false
test-asym a b c d h = comes-back c d a b h

test-total : (a b c d : ℕ) → test a b c d ≡ false → d ≢ b → test c d a b ≡ true
test-total a b c d h k = comes-other c d a b h (λ e. k (sym e))

module _ {X : Type 0} (at num : X → ℕ) where
  -- the element stands before the pair (s, n)
  abbrev pub stands : ℕ → ℕ → X → Bool
  stands s n e = test s n (at e) (num e)

  -- the element comes before each of these
  abbrev pub Lead : X → List X → Type 0
  Lead x xs = Leads at num x xs

  -- each element comes before all later ones
  abbrev pub Rise : List X → Type 0
  Rise xs = Rises at num xs

  -- none of these has the number
  abbrev pub Lacks : ℕ → List X → Type 0
  Lacks n [] = Unit {0}
  Lacks n (y ∷ ys) = (num y ≢ n) × Lacks n ys

  -- no two of these have the same number
  abbrev pub Apart : List X → Type 0
  Apart [] = Unit {0}
  Apart (x ∷ xs) = Lacks (num x) xs × Apart xs

  -- the first of these with the number, if any
  abbrev pub found : ℕ → List X → Option X
  found n xs = find (λ e. num e == n) xs

  -- these without those that have the number
  abbrev pub left : ℕ → List X → List X
  left n xs = filter (λ e. not (num e == n)) xs

  -- the element put behind those that come before it
  abbrev pub placed : X → List X → List X
  placed e [] = e ∷ []
  placed e (x ∷ xs) = if comes (at x) (num x) (at e) (num e) then x ∷ placed e xs else e ∷ x ∷ xs

  -- these put one after another, the last first, each behind those that come before it
  abbrev pub arranged : List X → List X
  arranged [] = []
  arranged (x ∷ xs) = placed x (arranged xs)

  Leads-at : (x : X) (xs : List X) → Lead x xs → (j : ℕ) (d : X) → j < length xs → stands (at (get_or xs j d)) (num (get_or xs j d)) x ≡ true
  Leads-at x [] h j d lt = absurd (omega arith)
  Leads-at x (y ∷ ys) h zero d lt = h.0
  Leads-at x (y ∷ ys) h (suc j) d lt = Leads-at x ys h.1 j d (omega arith)

  -- in a rising list, the elements that stand before the pair (s, n) stand before all others
  pub parted : (s n : ℕ) (xs : List X) → Rise xs → IsPartitionedBy (stands s n) xs
  parted s n [] r i j d le lt t = absurd (omega arith)
  parted s n (x ∷ xs) r zero zero d le lt t = t
  parted s n (x ∷ xs) r zero (suc j) d le lt t = test-trans s n (at (get_or xs j d)) (num (get_or xs j d)) (at x) (num x) t (Leads-at x xs r.0 j d (omega arith))
  parted s n (x ∷ xs) r (suc i) zero d le lt t = absurd (omega arith)
  parted s n (x ∷ xs) r (suc i) (suc j) d le lt t = parted s n xs r.1 i j d (omega arith) (omega arith) t

  pub placed_at : (d : X) (s n : ℕ) (xs : List X) (i : ℕ) → i ≤ length xs → IsPartitionPoint (λ e. stands s n e ≡ true) (λ e. stands s n e ≡ false) xs i → i ≡ position_or_len (λ e. not (stands s n e)) xs
  placed_at d s n xs i le h =
      sym (position_or_len_is (λ e. not (stands s n e)) xs i d le (λ k lt. ap not (h.0 k d (omega arith) lt)) (λ lt. ap not (h.1 i d (omega arith) lt)))

  -- the element found by a number has the number
  pub found-number : (n : ℕ) (xs : List X) (e : X) → found n xs ≡ Some e → (num e) ≡ n
  found-number n [] e h = cc
  found-number n (x ∷ xs) e h = go ((num x) == n) refl h (found-number n xs e)
    where
      go : (b : Bool) → ((num x) == n) ≡ b → (if b then Some x else found n xs) ≡ Some e → (found n xs ≡ Some e → (num e) ≡ n) → (num e) ≡ n
      go true t k r = let same : x ≡ e = cc in ap num (sym same) ∙ same_number (num x) n t
      go false t k r = r k

  Leads-found : (n : ℕ) (x : X) (xs : List X) (e : X) → Lead x xs → found n xs ≡ Some e → stands (at e) (num e) x ≡ true
  Leads-found n x [] e l h = cc
  Leads-found n x (y ∷ ys) e l h = go ((num y) == n) h (Leads-found n x ys e l.1)
    where
      go : (b : Bool) → (if b then Some y else found n ys) ≡ Some e → (found n ys ≡ Some e → stands (at e) (num e) x ≡ true) → stands (at e) (num e) x ≡ true
      go true k r = let same : y ≡ e = cc in rw (← same) l.0
      go false k r = r k

  pub place-found : (n : ℕ) (xs : List X) (e : X) → Rise xs → found n xs ≡ Some e → position_or_len (λ x. not (stands (at e) n x)) xs ≡ position_or_len (λ x. (num x) == n) xs
  place-found n [] e r h = refl
  place-found n (x ∷ xs) e r h = go ((num x) == n) refl h r.0 (place-found n xs e r.1)
    where
      go : (b : Bool) → ((num x) == n) ≡ b → (if b then Some x else found n xs) ≡ Some e → Lead x xs → (found n xs ≡ Some e → position_or_len (λ x. not (stands (at e) n x)) xs ≡ position_or_len (λ x. (num x) == n) xs) → position_or_len (λ x. not (stands (at e) n x)) (x ∷ xs) ≡ position_or_len (λ x. (num x) == n) (x ∷ xs)
      go true t k lead r =
          let same : x ≡ e = cc in
          let at : stands (at e) n x ≡ false = rw (← same, ← same_number (num x) n t) (test-irrefl (at x) (num x)) in
          rw (t, at) refl
      go false t k lead r =
          let at : stands (at e) n x ≡ true = rw (sym (found-number n xs e k)) (Leads-found n x xs e lead k) in
          rw (t, at) (ap (λ i. 1 + i) (r k))

  -- a list that lacks the number is the same without those that have it
  pub without-Lacks : (n : ℕ) (xs : List X) → Lacks n xs → left n xs ≡ xs
  without-Lacks n [] l = refl
  without-Lacks n (x ∷ xs) l = rw (number_differs (num x) n l.0) (ap (λ ys. x ∷ ys) (without-Lacks n xs l.1))

  pub remove-found : (n : ℕ) (xs : List X) → Apart xs → remove xs (position_or_len (λ x. (num x) == n) xs) ≡ left n xs
  remove-found n [] d = refl
  remove-found n (x ∷ xs) d = go ((num x) == n) refl d.0 (remove-found n xs d.1)
    where
      go : (b : Bool) → ((num x) == n) ≡ b → Lacks (num x) xs → remove xs (position_or_len (λ y. (num y) == n) xs) ≡ left n xs → remove (x ∷ xs) (position_or_len (λ y. (num y) == n) (x ∷ xs)) ≡ left n (x ∷ xs)
      go true t l r = rw t (sym (without-Lacks n xs (let same : (num x) ≡ n = same_number (num x) n t in rw same at l)))
      go false t l r = rw (t, one_more) (ap (λ ys. x ∷ ys) r)

  -- putting an entry where it stands
  pub insert-placed : (e : X) (xs : List X) → insert xs (position_or_len (λ x. not (stands (at e) (num e) x)) xs) e ≡ placed e xs
  insert-placed e [] = refl
  insert-placed e (x ∷ xs) = go (stands (at e) (num e) x) refl (insert-placed e xs)
    where
      go : (b : Bool) → stands (at e) (num e) x ≡ b → insert xs (position_or_len (λ y. not (stands (at e) (num e) y)) xs) e ≡ placed e xs → insert (x ∷ xs) (position_or_len (λ y. not (stands (at e) (num e) y)) (x ∷ xs)) e ≡ placed e (x ∷ xs)
      go true t r = rw (t, one_more) (ap (λ ys. x ∷ ys) r)
      go false t r = rw t refl

  Leads-placed : (x e : X) (xs : List X) → stands (at e) (num e) x ≡ true → Lead x xs → Lead x (placed e xs)
  Leads-placed x e [] b l = (b, tt)
  Leads-placed x e (y ∷ ys) b l = go (stands (at e) (num e) y) refl (Leads-placed x e ys b l.1)
    where
      go : (a : Bool) → stands (at e) (num e) y ≡ a → Lead x (placed e ys) → Lead x (placed e (y ∷ ys))
      go true t r = rw t (l.0, r)
      go false t r = rw t (b, l)

  Leads-trans : (x y : X) (xs : List X) → stands (at y) (num y) x ≡ true → Lead y xs → Lead x xs
  Leads-trans x y [] b l = tt
  Leads-trans x y (z ∷ zs) b l = (test-trans (at z) (num z) (at y) (num y) (at x) (num x) l.0 b, Leads-trans x y zs b l.1)

  -- a rising list rises with an element put in whose number it lacks
  pub rising-placed : (e : X) (xs : List X) → Rise xs → Lacks (num e) xs → Rise (placed e xs)
  rising-placed e [] r l = (tt, tt)
  rising-placed e (x ∷ xs) r l = go (stands (at e) (num e) x) refl (rising-placed e xs r.1 l.1)
    where
      go : (a : Bool) → stands (at e) (num e) x ≡ a → Rise (placed e xs) → Rise (placed e (x ∷ xs))
      go true t k = rw t (Leads-placed x e xs t r.0, k)
      go false t k =
          let after : stands (at x) (num x) e ≡ true = test-total (at e) (num e) (at x) (num x) t l.0 in
          rw t ((after, Leads-trans e x xs after r.0), r)

  Lacks-placed : (n : ℕ) (e : X) (xs : List X) → (num e) ≢ n → Lacks n xs → Lacks n (placed e xs)
  Lacks-placed n e [] b l = (b, tt)
  Lacks-placed n e (y ∷ ys) b l = go (stands (at e) (num e) y) refl (Lacks-placed n e ys b l.1)
    where
      go : (a : Bool) → stands (at e) (num e) y ≡ a → Lacks n (placed e ys) → Lacks n (placed e (y ∷ ys))
      go true t r = rw t (l.0, r)
      go false t r = rw t (b, l)

  -- a list where no two have the same number is such a list with an element put in whose number it lacks
  pub distinct-placed : (e : X) (xs : List X) → Apart xs → Lacks (num e) xs → Apart (placed e xs)
  distinct-placed e [] d l = (tt, tt)
  distinct-placed e (x ∷ xs) d l = go (stands (at e) (num e) x) refl (distinct-placed e xs d.1 l.1)
    where
      go : (a : Bool) → stands (at e) (num e) x ≡ a → Apart (placed e xs) → Apart (placed e (x ∷ xs))
      go true t k = rw t (Lacks-placed (num x) e xs (λ q. l.0 (sym q)) d.0, k)
      go false t k = rw t (l, d)

  -- a list lacks a number by which nothing is found in it
  pub Lacks-from_none : (n : ℕ) (xs : List X) → found n xs ≡ None → Lacks n xs
  Lacks-from_none n [] h = tt
  Lacks-from_none n (x ∷ xs) h = go ((num x) == n) refl h (Lacks-from_none n xs)
    where
      go : (b : Bool) → ((num x) == n) ≡ b → (if b then Some x else found n xs) ≡ None → (found n xs ≡ None → Lacks n xs) → Lacks n (x ∷ xs)
      go true t k r = cc
      go false t k r = (other_number (num x) n t, r k)

  -- nothing is found in a list by a number that it lacks
  pub found-Lacks : (n : ℕ) (xs : List X) → Lacks n xs → found n xs ≡ None
  found-Lacks n [] l = refl
  found-Lacks n (x ∷ xs) l = rw (number_differs (num x) n l.0) (found-Lacks n xs l.1)

  pub placed-first : (x : X) (xs : List X) → Lead x xs → placed x xs ≡ x ∷ xs
  placed-first x [] l = refl
  placed-first x (y ∷ ys) l = rw (test-asym (at y) (num y) (at x) (num x) l.0) refl

  -- a rising list is as its elements are put one after another
  pub arranged-rising : (xs : List X) → Rise xs → arranged xs ≡ xs
  arranged-rising [] r = refl
  arranged-rising (x ∷ xs) r = rw (arranged-rising xs r.1) (placed-first x xs r.0)

  -- with an element put in whose number the list lacks, that element is found by its number, and by each other number what was found before
  pub found-placed : (q : ℕ) (e : X) (xs : List X) → Lacks (num e) xs → found q (placed e xs) ≡ (if (num e) == q then Some e else found q xs)
  found-placed q e [] l = refl
  found-placed q e (x ∷ xs) l = go (stands (at e) (num e) x) refl (found-placed q e xs l.1)
    where
      go : (a : Bool) → stands (at e) (num e) x ≡ a → found q (placed e xs) ≡ (if (num e) == q then Some e else found q xs) → found q (placed e (x ∷ xs)) ≡ (if (num e) == q then Some e else found q (x ∷ xs))
      go false t r = rw t refl
      go true t r = rw (t, r) (both ((num x) == q) ((num e) == q) refl refl)
        where
          both : (a b : Bool) → ((num x) == q) ≡ a → ((num e) == q) ≡ b → (if (num x) == q then Some x else (if (num e) == q then Some e else found q xs)) ≡ (if (num e) == q then Some e else (if (num x) == q then Some x else found q xs))
          both true true u v = absurd (l.0 (same_number (num x) q u ∙ sym (same_number (num e) q v)))
          both true false u v = rw (u, v) refl
          both false true u v = rw (u, v) refl
          both false false u v = rw (u, v) refl

  Leads-without : (n : ℕ) (x : X) (xs : List X) → Lead x xs → Lead x (left n xs)
  Leads-without n x [] l = tt
  Leads-without n x (y ∷ ys) l = go ((num y) == n) refl (Leads-without n x ys l.1)
    where
      go : (b : Bool) → ((num y) == n) ≡ b → Lead x (left n ys) → Lead x (left n (y ∷ ys))
      go true t r = rw t r
      go false t r = rw t (l.0, r)

  -- a rising list rises without those that have a number
  pub rising-without : (n : ℕ) (xs : List X) → Rise xs → Rise (left n xs)
  rising-without n [] l = tt
  rising-without n (y ∷ ys) l = go ((num y) == n) refl (rising-without n ys l.1)
    where
      go : (b : Bool) → ((num y) == n) ≡ b → Rise (left n ys) → Rise (left n (y ∷ ys))
      go true t r = rw t r
      go false t r = rw t (Leads-without n y ys l.0, r)

  Lacks-without : (m n : ℕ) (xs : List X) → Lacks m xs → Lacks m (left n xs)
  Lacks-without m n [] l = tt
  Lacks-without m n (y ∷ ys) l = go ((num y) == n) refl (Lacks-without m n ys l.1)
    where
      go : (b : Bool) → ((num y) == n) ≡ b → Lacks m (left n ys) → Lacks m (left n (y ∷ ys))
      go true t r = rw t r
      go false t r = rw t (l.0, r)

  -- a list where no two have the same number is such a list without those that have a number
  pub distinct-without : (n : ℕ) (xs : List X) → Apart xs → Apart (left n xs)
  distinct-without n [] l = tt
  distinct-without n (y ∷ ys) l = go ((num y) == n) refl (distinct-without n ys l.1)
    where
      go : (b : Bool) → ((num y) == n) ≡ b → Apart (left n ys) → Apart (left n (y ∷ ys))
      go true t r = rw t r
      go false t r = rw t (Lacks-without (num y) n ys l.0, r)

  -- without those that have a number, nothing is found by it, and by each other number what was found before
  pub found-without : (q n : ℕ) (xs : List X) → found q (left n xs) ≡ (if n == q then None else found q xs)
  found-without q n [] = both (n == q)
    where
      both : (b : Bool) → None ≡ (if b then None else found q [])
      both true = refl
      both false = refl
  found-without q n (x ∷ xs) = go ((num x) == n) ((num x) == q) (n == q) refl refl refl (found-without q n xs)
    where
      go : (a b d : Bool) → ((num x) == n) ≡ a → ((num x) == q) ≡ b → (n == q) ≡ d → found q (left n xs) ≡ (if n == q then None else found q xs) → found q (left n (x ∷ xs)) ≡ (if n == q then None else found q (x ∷ xs))
      go true true true u v w r = rw (u, w) (rw w at r)
      go true true false u v w r = absurd (other_number n q w (sym (same_number (num x) n u) ∙ same_number (num x) q v))
      go true false true u v w r = rw (u, w) (rw w at r)
      go true false false u v w r = rw (u, w, v) (rw w at r)
      go false true true u v w r = absurd (other_number (num x) n u (same_number (num x) q v ∙ sym (same_number n q w)))
      go false true false u v w r = rw (u, v, w) refl
      go false false true u v w r = rw (u, v, w) (rw w at r)
      go false false false u v w r = rw (u, v, w) (rw w at r)

  -- in a rising list, where the element found by n has s as its first number, it stands at the place of (s, n)
  pub get_place : (n s : ℕ) (xs : List X) → Rise xs → Some s ≡ option_map at (found n xs) → slice_get xs (position_or_len (λ x. not (stands s n x)) xs) ≡ found n xs
  get_place n s xs r h = go (found n xs) refl h
    where
      go : (o : Option X) → found n xs ≡ o → Some s ≡ option_map at o → slice_get xs (position_or_len (λ x. not (stands s n x)) xs) ≡ found n xs
      go None t k = cc
      go (Some e) t k =
          let same : s ≡ (at e) = cc in
          rw same (ap (slice_get xs) (place-found n xs e r t) ∙ sym (find_at (λ x. (num x) == n) xs))

  -- where the element found by n has s as its first number, a rising list without what stands at the place of (s, n) is that without those that have n
  pub remove_place : (n s : ℕ) (xs : List X) → Rise xs → Apart xs → Some s ≡ option_map at (found n xs) → remove xs (position_or_len (λ x. not (stands s n x)) xs) ≡ left n xs
  remove_place n s xs r d h = go (found n xs) refl h
    where
      go : (o : Option X) → found n xs ≡ o → Some s ≡ option_map at o → remove xs (position_or_len (λ x. not (stands s n x)) xs) ≡ left n xs
      go None t k = cc
      go (Some e) t k =
          let same : s ≡ (at e) = cc in
          rw same (ap (remove xs) (place-found n xs e r t) ∙ remove-found n xs d)

  placed-same : (e x : X) (xs : List X) → at x ≡ at e → num x ≡ num e → Lead x xs → placed e xs ≡ e ∷ xs
  placed-same e x [] a b l = refl
  placed-same e x (y ∷ ys) a b l =
      let after : stands (at e) (num e) y ≡ false = rw (← a, ← b) (test-asym (at y) (num y) (at x) (num x) l.0) in
      rw after refl

  set-placed : (e : X) (xs : List X) (was : X) → Rise xs → Apart xs → found (num e) xs ≡ Some was → at was ≡ at e
      → slice_set xs (position_or_len (λ x. (num x) == num e) xs) e ≡ placed e (left (num e) xs)
  set-placed e [] was r d h s = cc
  set-placed e (x ∷ xs) was r d h s = go ((num x) == num e) refl h (λ k. set-placed e xs was r.1 d.1 k s)
    where
      go : (b : Bool) → ((num x) == num e) ≡ b → (if b then Some x else found (num e) xs) ≡ Some was
          → (found (num e) xs ≡ Some was → slice_set xs (position_or_len (λ y. (num y) == num e) xs) e ≡ placed e (left (num e) xs))
          → slice_set (x ∷ xs) (position_or_len (λ y. (num y) == num e) (x ∷ xs)) e ≡ placed e (left (num e) (x ∷ xs))
      go true t k i =
          let same : x ≡ was = cc in
          let number : num x ≡ num e = same_number (num x) (num e) t in
          let all : left (num e) xs ≡ xs = without-Lacks (num e) xs (rw (← number) d.0) in
          rw (t, all) (sym (placed-same e x xs (ap at same ∙ s) number r.0))
      go false t k i =
          let before : stands (at e) (num e) x ≡ true = rw (← s, sym (found-number (num e) xs was k)) (Leads-found (num e) x xs was r.0 k) in
          rw (t, one_more, before) (ap (λ ys. x ∷ ys) (i k))

  -- where the element found by a number has the same first number as e, whose number it is, e set at its place in a rising list gives
  -- the list without those of the number and with e put in
  pub set_place : (e : X) (xs : List X) → Rise xs → Apart xs → Some (at e) ≡ option_map at (found (num e) xs)
      → slice_set xs (position_or_len (λ x. not (stands (at e) (num e) x)) xs) e ≡ placed e (left (num e) xs)
  set_place e xs r d h = go (found (num e) xs) refl h
    where
      go : (o : Option X) → found (num e) xs ≡ o → Some (at e) ≡ option_map at o → slice_set xs (position_or_len (λ x. not (stands (at e) (num e) x)) xs) e ≡ placed e (left (num e) xs)
      go None t k = cc
      go (Some was) t k =
          let same : at e ≡ at was = cc in
          let place : position_or_len (λ x. not (stands (at e) (num e) x)) xs ≡ position_or_len (λ x. (num x) == num e) xs = ap (λ (s : ℕ). position_or_len (λ x. not (stands s (num e) x)) xs) same ∙ place-found (num e) xs was r t in
          ap (λ (i : ℕ). slice_set xs i e) place ∙ set-placed e xs was r d t (sym same)

  submit_if : (b : Bool) (o p : Option X) → option_map at (if b then o else p) ≡ (if b then option_map at o else option_map at p)
  submit_if true o p = refl
  submit_if false o p = refl

  abbrev pub Indexes : (ℕ → Option ℕ) → List X → Type 0
  Indexes look xs = (q : ℕ) → look q ≡ option_map at (found q xs)

  pub indexes-placed : (e : X) (xs : List X) (old new : ℕ → Option ℕ) → Indexes old xs → Lacks (num e) xs
      → ((q : ℕ) → new q ≡ cond (num e == q) (Some (at e)) (old q)) → Indexes new (placed e xs)
  indexes-placed e xs old new i l u q = u q ∙ rw (i q, found-placed q e xs l) (sym (submit_if (num e == q) (Some e) (found q xs)))

  -- a map of the list that gives nothing for a number, and for each other what it gave before, is the map of the list without those that have the number
  pub indexes-without : (n : ℕ) (xs : List X) (old new : ℕ → Option ℕ) → Indexes old xs
      → ((q : ℕ) → new q ≡ cond (n == q) None (old q)) → Indexes new (left n xs)
  indexes-without n xs old new i u q = u q ∙ rw (i q, found-without q n xs) (sym (submit_if (n == q) None (found q xs)))

  -- where an element with the number n is found, and the list has it at i, i is within the list
  pub at_within : (n s : ℕ) (xs : List X) (i : ℕ) → Some s ≡ option_map at (found n xs) → slice_get xs i ≡ found n xs → i < length xs
  at_within n s xs i h k = go (found n xs) refl h
    where
      go : (o : Option X) → found n xs ≡ o → Some s ≡ option_map at o → i < length xs
      go None t m = cc
      go (Some e) t m = slice_get_within xs i e (k ∙ t)

  -- where the element found by a number has no first number, there is none
  pub none_there : (n : ℕ) (xs : List X) → None ≡ option_map at (found n xs) → found n xs ≡ None
  none_there n xs h = go (found n xs) refl h
    where
      go : (o : Option X) → found n xs ≡ o → None ≡ option_map at o → found n xs ≡ None
      go None t m = t
      go (Some e) t m = cc

  -- a map of the list with the two numbers of an element more, whose number the list lacks, is the map of the list with that element put in
  pub indexes_at : (e : X) (xs : List X) (old new : ℕ → Option ℕ) (k v : ℕ) → Indexes old xs → Lacks (num e) xs → k ≡ num e → v ≡ at e
      → ((q : ℕ) → new q ≡ cond (k == q) (Some v) (old q)) → Indexes new (placed e xs)
  indexes_at e xs old new k v i l a b u = indexes-placed e xs old new i l (λ q. u q ∙ rw (a, b) refl)

  placed_over : (x e : X) (ys : List X) → Lead x ys → (num e) ≢ (num x) → placed x (placed e ys) ≡ placed e (x ∷ ys)
  placed_over x e ys l ne = go (stands (at e) (num e) x) refl
    where
      go : (b : Bool) → stands (at e) (num e) x ≡ b → placed x (placed e ys) ≡ placed e (x ∷ ys)
      go true t = rw t (placed-first x (placed e ys) (Leads-placed x e ys t l))
      go false t =
          let after : stands (at x) (num x) e ≡ true = test-total (at e) (num e) (at x) (num x) t (λ q. ne (sym q)) in
          let first : placed e ys ≡ e ∷ ys = placed-first e ys (Leads-trans e x ys after l) in
          rw (t, first, after) (ap (λ zs. e ∷ zs) (placed-first x ys l))

  abbrev pub turned : ℕ → (X → X) → List X → List X
  turned n f xs = map (λ e. if num e == n then f e else e) xs

  turned-Lacks : (n : ℕ) (f : X → X) (xs : List X) → Lacks n xs → turned n f xs ≡ xs
  turned-Lacks n f [] l = refl
  turned-Lacks n f (x ∷ xs) l = rw (number_differs (num x) n l.0) (ap (λ ys. x ∷ ys) (turned-Lacks n f xs l.1))

  -- a rising list of distinct numbers, of which the element found by n is turned and keeps its number, put one after another, is the list
  -- without that one and with the turned element put in
  pub arranged-turned : (n : ℕ) (f : X → X) (keeps : (e : X) → num (f e) ≡ num e) (xs : List X) (e : X) → Rise xs → Apart xs → found n xs ≡ Some e → arranged (turned n f xs) ≡ placed (f e) (left n xs)
  arranged-turned n f keeps [] e r d h = cc
  arranged-turned n f keeps (x ∷ xs) e r d h = go (num x == n) refl h r d (arranged-turned n f keeps xs e r.1 d.1)
    where
      go : (b : Bool) → (num x == n) ≡ b → (if b then Some x else found n xs) ≡ Some e → Rise (x ∷ xs) → Apart (x ∷ xs) → (found n xs ≡ Some e → arranged (turned n f xs) ≡ placed (f e) (left n xs))
          → arranged (turned n f (x ∷ xs)) ≡ placed (f e) (left n (x ∷ xs))
      go true t k rr dd ih =
          let same : x ≡ e = cc in
          let at' : num x ≡ n = same_number (num x) n t in
          let lacks : Lacks n xs = rw at' at dd.0 in
          rw (t, turned-Lacks n f xs lacks, without-Lacks n xs lacks, arranged-rising xs rr.1, same) refl
      go false t k rr dd ih =
          let differs : num (f e) ≢ num x = λ q. other_number (num x) n t (sym q ∙ keeps e ∙ found-number n xs e k) in
          rw (t, ih k) (placed_over x (f e) (left n xs) (Leads-without n x xs rr.0) differs)

  -- without those that have a number, the list lacks the number
  pub Lacks-itself : (n : ℕ) (xs : List X) → Lacks n (left n xs)
  Lacks-itself n [] = tt
  Lacks-itself n (x ∷ xs) = go (num x == n) refl (Lacks-itself n xs)
    where
      go : (b : Bool) → (num x == n) ≡ b → Lacks n (left n xs) → Lacks n (left n (x ∷ xs))
      go true t r = rw t r
      go false t r = rw t (other_number (num x) n t, r)

  -- a map of the list that gives for n the first number of an element with n, and for each other what it gave before, is the map of the list
  -- without those that have n and with that element put in
  pub indexes-moved : (n v : ℕ) (xs : List X) (e : X) (old new : ℕ → Option ℕ) → Indexes old xs → num e ≡ n → v ≡ at e
      → ((q : ℕ) → new q ≡ cond (n == q) (Some v) (old q)) → Indexes new (placed e (left n xs))
  indexes-moved n v xs e old new i same is u q =
      let lacks : Lacks (num e) (left n xs) = rw same (Lacks-itself n xs) in
      let there : found q (placed e (left n xs)) ≡ (if n == q then Some e else found q (left n xs)) =
      found-placed q e (left n xs) lacks ∙ ap (λ (k : ℕ). if k == q then Some e else found q (left n xs)) same in
      u q ∙ rw (i q, there, found-without q n xs, is) (last (n == q))
    where
      last : (b : Bool) → (if b then Some (at e) else option_map at (found q xs)) ≡ option_map at (if b then Some e else (if b then None else found q xs))
      last true = refl
      last false = refl
