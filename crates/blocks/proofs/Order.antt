-- Items that rise by two numbers: a search finds its way among them, also with one item more or less, and meets the first item that has
-- two numbers.
use Rattle.std.proofs.Common.{◌≡◌, ℕ, zero, suc, ◌+◌, ◌<◌, ◌≤◌, Bool, true, false, cond, not, nat_lt, ◌==◌, ◌&&◌, ◌||◌, Some, None, List, [], ◌∷◌, find, slice_get, insert, remove, one-add, refl, ap, ◌∙◌, arith}
use Rattle.std.specs.List.{All}
use Rattle.std.specs.List.Sorted.{IsPartitionedBy}
use Rattle.std.proofs.lemmas.Bool.Decides.{nat_tests}
use Rattle.std.proofs.lemmas.List.Elements.{All-cons, All-head, All-nil, All-tail, All-weaker}
use Rattle.blocks.specs.Rows.{AreBefore, Rises, entered, is_at, passes, place_in, stands, without_first}

abbrev less : ℕ → ℕ → ℕ → ℕ → Bool
less p q a b = nat_lt p a || (p == a && nat_lt q b)

abbrev same : ℕ → ℕ → ℕ → ℕ → Bool
same p q a b = p == a && q == b

less-behind : (p q m n a b : ℕ) → less p q m n ≡ false → less p q a b ≡ true → less m n a b ≡ true
less-behind p q m n a b h t = grind (arith, nat_tests)

not-less : (p q m n a b : ℕ) → less m n a b ≡ false → less p q m n ≡ false → less p q a b ≡ false
not-less p q m n a b h k = grind (arith, nat_tests)

one-way : (p q a b : ℕ) → less p q a b ≡ true → less a b p q ≡ false
one-way p q a b h = grind (arith, nat_tests)

less-differs : (p q a b : ℕ) → less p q a b ≡ true → same p q a b ≡ false
less-differs p q a b h = grind (arith, nat_tests)

behind-differs : (p q m n a b : ℕ) → less p q m n ≡ false → less m n a b ≡ false → same m n a b ≡ false → same p q a b ≡ false
behind-differs p q m n a b h k s = grind (arith, nat_tests)

module _ {X : Type 0} (major minor : X → ℕ) where
  abbrev IsBehind : X → X → Type 0
  IsBehind x y = stands major minor (major x) (minor x) y ≡ false

  -- items that rise are parted by which stand before two numbers
  pub parted : (a b : ℕ) (xs : List X) → Rises major minor xs → IsPartitionedBy (stands major minor a b) xs
  parted a b [] s i j d le lt t = absurd (omega (arith, lt))
  parted a b (x ∷ xs) s zero zero d le lt t = t
  parted a b (x ∷ xs) s zero (suc j) d le lt t = less-behind _ _ (major x) (minor x) a b (s.0 j d (omega (arith, lt))) t
  parted a b (x ∷ xs) s (suc i) zero d le lt t = absurd (omega (arith, le))
  parted a b (x ∷ xs) s (suc i) (suc j) d le lt t = parted a b xs s.1 i j d (omega (arith, le)) (omega (arith, lt)) t

  -- an item inserted before the first that doesn't stand before it is entered among the items
  pub entered_is : (r : X) (xs : List X) → insert xs (place_in major minor (major r) (minor r) xs) r ≡ entered major minor r xs
  entered_is r [] = refl
  entered_is r (x ∷ xs) =
      elim (stands major minor (major r) (minor r) x) as (λ b. insert (x ∷ xs) (cond (not (not b)) (1 + place_in major minor (major r) (minor r) xs) 0) r ≡ cond b (x ∷ entered major minor r xs) (r ∷ x ∷ xs)) [
        | true ↦ rw one-add (ap (λ (l : List X). x ∷ l) (entered_is r xs))
        | false ↦ refl
      ]

  All-entered : (P : X → Type 0) (r : X) (xs : List X) → P r → All P xs → All P (entered major minor r xs)
  All-entered P r [] p h = All-cons P r [] p h
  All-entered P r (x ∷ xs) p h =
      elim (stands major minor (major r) (minor r) x) as (λ b. All P (cond b (x ∷ entered major minor r xs) (r ∷ x ∷ xs))) [
        | true ↦ All-cons P x (entered major minor r xs) (All-head P x xs h) (All-entered P r xs p (All-tail P x xs h))
        | false ↦ All-cons P r (x ∷ xs) p h
      ]

  -- items that rise do so with one entered
  pub rises-entered : (r : X) (xs : List X) → Rises major minor xs → Rises major minor (entered major minor r xs)
  rises-entered r [] s = (All-nil (IsBehind r), tt)
  rises-entered r (x ∷ xs) s = go (stands major minor (major r) (minor r) x) refl (rises-entered r xs s.1)
    where
      go : (b : Bool) → stands major minor (major r) (minor r) x ≡ b → Rises major minor (entered major minor r xs) → Rises major minor (cond b (x ∷ entered major minor r xs) (r ∷ x ∷ xs))
      go true t i = (All-entered (IsBehind x) r xs (one-way (major x) (minor x) (major r) (minor r) t) s.0, i)
      go false t i =
          (All-cons (IsBehind r) x xs t (All-weaker (IsBehind x) (IsBehind r) (λ y (k : IsBehind x y). not-less (major y) (minor y) (major x) (minor x) (major r) (minor r) t k) xs s.0), s)

  All-without : (P : X → Type 0) (test : X → Bool) (xs : List X) → All P xs → All P (without_first test xs)
  All-without P test [] h = h
  All-without P test (x ∷ xs) h =
      elim (test x) as (λ b. All P (cond b xs (x ∷ without_first test xs))) [
        | true ↦ All-tail P x xs h
        | false ↦ All-cons P x (without_first test xs) (All-head P x xs h) (All-without P test xs (All-tail P x xs h))
      ]

  -- items that rise do so without one of them
  pub rises-without : (test : X → Bool) (xs : List X) → Rises major minor xs → Rises major minor (without_first test xs)
  rises-without test [] s = tt
  rises-without test (x ∷ xs) s =
      elim (test x) as (λ b. Rises major minor (cond b xs (x ∷ without_first test xs))) [
        | true ↦ s.1
        | false ↦ (All-without (IsBehind x) test xs s.0, rises-without test xs s.1)
      ]

  module _ (a b : ℕ) where
    -- where the first item that doesn't stand before two numbers has these, it is the first with them
    pub hit : (xs : List X) (x : X) → slice_get xs (place_in major minor a b xs) ≡ Some x → is_at major minor a b x ≡ true
        → (find (is_at major minor a b) xs ≡ Some x) × (without_first (is_at major minor a b) xs ≡ remove xs (place_in major minor a b xs))
    hit [] x e t = cc
    hit (y ∷ xs) x e t = go (stands major minor a b y) refl e (hit xs x)
      where
        go : (c : Bool) → stands major minor a b y ≡ c → slice_get (y ∷ xs) (cond (not (not c)) (1 + place_in major minor a b xs) 0) ≡ Some x
            → (slice_get xs (place_in major minor a b xs) ≡ Some x → is_at major minor a b x ≡ true → (find (is_at major minor a b) xs ≡ Some x) × (without_first (is_at major minor a b) xs ≡ remove xs (place_in major minor a b xs)))
            → (find (is_at major minor a b) (y ∷ xs) ≡ Some x) × (without_first (is_at major minor a b) (y ∷ xs) ≡ remove (y ∷ xs) (cond (not (not c)) (1 + place_in major minor a b xs) 0))
        go true s e i =
            let other : is_at major minor a b y ≡ false = less-differs (major y) (minor y) a b s in
            let r = i (rw one-add at e) t in
            rw (other, one-add) (r.0, ap (λ (l : List X). y ∷ l) r.1)
        go false s e i =
            let here : y ≡ x = cc in
            let at : is_at major minor a b y ≡ true = ap (is_at major minor a b) here ∙ t in
            rw at (ap Some here, refl)

    none : (xs : List X) → All (λ x. is_at major minor a b x ≡ false) xs → (find (is_at major minor a b) xs ≡ None) × (without_first (is_at major minor a b) xs ≡ xs)
    none [] h = (refl, refl)
    none (x ∷ xs) h =
        let other : is_at major minor a b x ≡ false = All-head (λ x. is_at major minor a b x ≡ false) x xs h in
        let r = none xs (All-tail (λ x. is_at major minor a b x ≡ false) x xs h) in
        rw other (r.0, ap (λ (l : List X). x ∷ l) r.1)

    -- where the first item that doesn't stand before two numbers hasn't these, none has them
    pub miss : (xs : List X) → Rises major minor xs → ((x : X) → slice_get xs (place_in major minor a b xs) ≡ Some x → is_at major minor a b x ≡ false)
        → (find (is_at major minor a b) xs ≡ None) × (without_first (is_at major minor a b) xs ≡ xs)
    miss [] s h = (refl, refl)
    miss (y ∷ xs) s h = go (stands major minor a b y) refl h (miss xs s.1)
      where
        go : (c : Bool) → stands major minor a b y ≡ c → ((x : X) → slice_get (y ∷ xs) (cond (not (not c)) (1 + place_in major minor a b xs) 0) ≡ Some x → is_at major minor a b x ≡ false)
            → (((x : X) → slice_get xs (place_in major minor a b xs) ≡ Some x → is_at major minor a b x ≡ false) → (find (is_at major minor a b) xs ≡ None) × (without_first (is_at major minor a b) xs ≡ xs))
            → (find (is_at major minor a b) (y ∷ xs) ≡ None) × (without_first (is_at major minor a b) (y ∷ xs) ≡ y ∷ xs)
        go true t h i =
            let other : is_at major minor a b y ≡ false = less-differs (major y) (minor y) a b t in
            let r = i (λ x (e : slice_get xs (place_in major minor a b xs) ≡ Some x). h x (rw one-add e)) in
            rw other (r.0, ap (λ (l : List X). y ∷ l) r.1)
        go false t h i =
            none (y ∷ xs)
            (All-cons (λ x. is_at major minor a b x ≡ false) y xs (h y refl)
            (All-weaker (IsBehind y) (λ x. is_at major minor a b x ≡ false) (λ x (k : IsBehind y x). behind-differs (major x) (minor x) (major y) (minor y) a b k t (h y refl)) xs s.0))

  module _ (a b : ℕ) where
    front-stands : (xs : List X) (k : ℕ) → k < place_in major minor a b xs → passes (stands major minor a b) (slice_get xs k) ≡ true
    front-stands [] k lt = absurd (omega (arith, lt))
    front-stands (x ∷ xs) k lt = go (stands major minor a b x) refl (front-stands xs) k lt
      where
        go : (c : Bool) → stands major minor a b x ≡ c → ((i : ℕ) → i < place_in major minor a b xs → passes (stands major minor a b) (slice_get xs i) ≡ true) → (i : ℕ) → i < cond (not (not c)) (1 + place_in major minor a b xs) 0 → passes (stands major minor a b) (slice_get (x ∷ xs) i) ≡ true
        go true e more zero lt = e
        go true e more (suc i) lt = more i (omega (arith, lt))
        go false e more i lt = absurd (omega (arith, lt))

    all-behind : (x : X) (xs : List X) (k : ℕ) → stands major minor a b x ≡ false → All (IsBehind x) xs → passes (stands major minor a b) (slice_get xs k) ≡ false
    all-behind x [] k e h = refl
    all-behind x (y ∷ xs) zero e h = not-less (major y) (minor y) (major x) (minor x) a b e (All-head (IsBehind x) y xs h)
    all-behind x (y ∷ xs) (suc k) e h = all-behind x xs k e (All-tail (IsBehind x) y xs h)

    rest-stands : (xs : List X) (k : ℕ) → Rises major minor xs → place_in major minor a b xs ≤ k → passes (stands major minor a b) (slice_get xs k) ≡ false
    rest-stands [] k s le = refl
    rest-stands (x ∷ xs) k s le = go (stands major minor a b x) refl (λ i. rest-stands xs i s.1) k le
      where
        go : (c : Bool) → stands major minor a b x ≡ c → ((i : ℕ) → place_in major minor a b xs ≤ i → passes (stands major minor a b) (slice_get xs i) ≡ false) → (i : ℕ) → cond (not (not c)) (1 + place_in major minor a b xs) 0 ≤ i → passes (stands major minor a b) (slice_get (x ∷ xs) i) ≡ false
        go true e more zero le = absurd (omega (arith, le))
        go true e more (suc i) le = more i (omega (arith, le))
        go false e more zero le = e
        go false e more (suc i) le = all-behind x xs i e s.0

    -- so many first ones stand before two numbers, and no others
    pub are_before : (xs : List X) (count : ℕ) → Rises major minor xs → count ≡ place_in major minor a b xs → AreBefore major minor a b xs count
    are_before xs count s e = record { front = λ k lt. front-stands xs k (omega (arith, e, lt)); rest = λ k le. rest-stands xs k s (omega (arith, e, le)) }
