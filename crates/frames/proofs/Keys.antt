-- Items in the order of their keys: there is one such order that leaves those of one key as they stand, so a stable sort gives it, and which
-- items stand at a place doesn't depend on it.
use Rattle.std.proofs.Common.{◌≡◌, ℕ, suc, ◌≤◌, ◌<◌, Bool, true, false, cond, not, ◌&&◌, nat_eq, nat_le, List, [], ◌∷◌, length, map, filter, slice_index_or, All, refl, sym, ap, arith, ◌∙◌, ⊎_elim}
use Rattle.std.specs.List.Sorted.{IsNonDecreasingBy, IsStableByKey, ties}
use Rattle.std.specs.Ordering.{nat_cmp, is_lt}
use Rattle.std.proofs.lemmas.Bool.{cases_eq, cases_lt, cond_both, eq-eqb, eqb-true, ne_eqb, lt-ltb, le-ltb, leb-true, leb-false, true≢false}
use Rattle.std.proofs.lemmas.List.Elements.{All-nil, All-cons, All-filter, All-from_get_or, All-head, All-tail, All-weaker}
use Rattle.frames.specs.declared.stretch.Stretch.{Stretch}
use Rattle.frames.specs.Frames.{by_key, stands, standing_at, with_key}

pub filter_agree : {X : Type 0} (p q : X → Bool) → ((x : X) → p x ≡ q x) → (xs : List X) → filter p xs ≡ filter q xs
filter_agree p q h [] = refl
filter_agree p q h (x ∷ xs) = ap (λ b. cond b (x ∷ filter p xs) (filter p xs)) (h x) ∙ ap (λ l. cond (q x) (x ∷ l) l) (filter_agree p q h xs)

filter_both : {X : Type 0} (p q : X → Bool) (xs : List X) → filter p (filter q xs) ≡ filter q (filter p xs)
filter_both {X} p q [] = refl
filter_both {X} p q (x ∷ xs) = go (p x) (q x) refl refl (filter_both p q xs)
  where
    with_p : (b : Bool) → p x ≡ b → filter p (x ∷ filter q xs) ≡ cond b (x ∷ filter p (filter q xs)) (filter p (filter q xs))
    with_p b e = ap (λ (c : Bool). cond c (x ∷ filter p (filter q xs)) (filter p (filter q xs))) e

    with_q : (b : Bool) → q x ≡ b → filter q (x ∷ filter p xs) ≡ cond b (x ∷ filter q (filter p xs)) (filter q (filter p xs))
    with_q b e = ap (λ (c : Bool). cond c (x ∷ filter q (filter p xs)) (filter q (filter p xs))) e

    go : (b c : Bool) → p x ≡ b → q x ≡ c → filter p (filter q xs) ≡ filter q (filter p xs) → filter p (cond c (x ∷ filter q xs) (filter q xs)) ≡ filter q (cond b (x ∷ filter p xs) (filter p xs))
    go true true pe qe later = with_p true pe ∙ ap (λ (l : List X). x ∷ l) later ∙ sym (with_q true qe)
    go true false pe qe later = later ∙ sym (with_q false qe)
    go false true pe qe later = with_p false pe ∙ later
    go false false pe qe later = later

same_key : (m n : ℕ) → (not (is_lt (nat_cmp n m)) && not (is_lt (nat_cmp m n))) ≡ nat_eq m n
same_key m n =
    ⊎_elim
    (λ (l : m < n). rw (le-ltb n m (omega arith), lt-ltb m n l, ne_eqb n m (λ e. omega (arith, l, e)), ne_eqb m n (λ e. omega (arith, l, e))) refl)
    (λ (le : n ≤ m).
    ⊎_elim
    (λ (e : m ≡ n). rw (le-ltb n m (omega arith), le-ltb m n le, eq-eqb m n e, eq-eqb n m (sym e)) refl)
    (λ (ne : m ≡ n → ⊥). rw (lt-ltb n m (omega (arith, le, ne)), ne_eqb m n ne) refl)
    (cases_eq m n))
    (cases_lt m n)

module _ {X : Type 0} (key : X → ℕ) where
  abbrev mine : ℕ → X → Bool
  mine n x = nat_eq (key x) n

  abbrev pub Rises : List X → Type 0
  Rises [] = Unit {0}
  Rises (x ∷ xs) = All (λ y. key x ≤ key y) xs × Rises xs

  pub rises_from : (xs : List X) → IsNonDecreasingBy key xs → Rises xs
  rises_from [] h = tt
  rises_from (x ∷ xs) h = (
    All-from_get_or (λ y. key x ≤ key y) xs x (λ i l. h 0 (suc i) x (omega arith) (omega (arith, l))),
    rises_from xs (λ i j d l u. h (suc i) (suc j) d (omega (arith, l)) (omega (arith, u))),
  )

  rises_filter : (p : X → Bool) (xs : List X) → Rises xs → Rises (filter p xs)
  rises_filter p [] h = tt
  rises_filter p (x ∷ xs) h =
      cond_both (p x) (x ∷ filter p xs) (filter p xs) (λ l. Rises l)
      (λ _. (All-filter p (λ y. key x ≤ key y) xs h.0, rises_filter p xs h.1))
      (λ _. rises_filter p xs h.1)

  all_with : (P : X → Type 0) (x : X) (ys : List X) → P x → All P ys → All P (with_key key x ys)
  all_with P x [] one all = All-cons P x [] one all
  all_with P x (y ∷ ys) one all =
      cond_both (nat_le (key x) (key y)) (x ∷ y ∷ ys) (y ∷ with_key key x ys) (λ l. All P l)
      (λ _. All-cons P x (y ∷ ys) one all)
      (λ _. All-cons P y (with_key key x ys) (All-head P y ys all) (all_with P x ys one (All-tail P y ys all)))

  rises_with : (x : X) (ys : List X) → Rises ys → Rises (with_key key x ys)
  rises_with x [] h = (All-nil (λ y. key x ≤ key y), tt)
  rises_with x (y ∷ ys) h =
      cond_both (nat_le (key x) (key y)) (x ∷ y ∷ ys) (y ∷ with_key key x ys) (λ l. Rises l)
      (λ e. (let l = leb-true (key x) (key y) e in
      (All-cons (λ z. key x ≤ key z) y ys l (All-weaker (λ z. key y ≤ key z) (λ z. key x ≤ key z) (λ z m. omega (arith, l, m)) ys h.0), h)))
      (λ e. (let l = leb-false (key x) (key y) e in
      let first : key y ≤ key x = omega (arith, l) in
      (all_with (λ z. key y ≤ key z) x ys first h.0, rises_with x ys h.1)))

  rises_by : (xs : List X) → Rises (by_key key xs)
  rises_by [] = tt
  rises_by (x ∷ xs) = rises_with x (by_key key xs) (rises_by xs)

  mine_with : (n : ℕ) (x : X) (ys : List X) → filter (mine n) (with_key key x ys) ≡ filter (mine n) (x ∷ ys)
  mine_with n x [] = refl
  mine_with n x (y ∷ ys) =
      cond_both (nat_le (key x) (key y)) (x ∷ y ∷ ys) (y ∷ with_key key x ys) (λ l. filter (mine n) l ≡ filter (mine n) (x ∷ y ∷ ys))
      (λ _. refl)
      (λ e. (let l = leb-false (key x) (key y) e in
      ap (λ m. cond (mine n y) (y ∷ m) m) (mine_with n x ys) ∙ go (filter (mine n) ys) (mine n x) (mine n y) refl refl l))
    where
      go : (u : List X) (b c : Bool) → mine n x ≡ b → mine n y ≡ c → key y < key x → cond c (y ∷ cond b (x ∷ u) u) (cond b (x ∷ u) u) ≡ cond b (x ∷ cond c (y ∷ u) u) (cond c (y ∷ u) u)
      go u true true xe ye l = let m = eqb-true (key x) n xe in let k = eqb-true (key y) n ye in absurd (omega (arith, m, k, l))
      go u true false xe ye l = refl
      go u false true xe ye l = refl
      go u false false xe ye l = refl

  mine_by : (n : ℕ) (xs : List X) → filter (mine n) (by_key key xs) ≡ filter (mine n) xs
  mine_by n [] = refl
  mine_by n (x ∷ xs) = mine_with n x (by_key key xs) ∙ ap (λ l. cond (mine n x) (x ∷ l) l) (mine_by n xs)

  front : (x : X) (xs : List X) (n : ℕ) → key x ≡ n → filter (mine n) (x ∷ xs) ≡ x ∷ filter (mine n) xs
  front x xs n e = ap (λ (b : Bool). cond b (x ∷ filter (mine n) xs) (filter (mine n) xs)) (eq-eqb (key x) n e)

  none_mine : (n : ℕ) (xs : List X) → All (λ y. n < key y) xs → filter (mine n) xs ≡ []
  none_mine n [] h = refl
  none_mine n (x ∷ xs) h =
      let l = All-head (λ y. n < key y) x xs h in
      ap (λ (b : Bool). cond b (x ∷ filter (mine n) xs) (filter (mine n) xs)) (ne_eqb (key x) n (λ e. omega (arith, e, l)))
      ∙ none_mine n xs (All-tail (λ y. n < key y) x xs h)

  not_nothing : (x : X) (xs : List X) → x ∷ xs ≡ [] → ⊥
  not_nothing x xs e = let n = ap length e in omega (arith, n)

  not_below : (a b : X) (us bs : List X) → Rises (b ∷ bs) → filter (mine (key a)) (a ∷ us) ≡ filter (mine (key a)) (b ∷ bs) → key b ≤ key a
  not_below a b us bs r h =
      ⊎_elim
      (λ (l : key a < key b).
      let none = none_mine (key a) (b ∷ bs) (All-cons (λ y. key a < key y) b bs l (All-weaker (λ y. key b ≤ key y) (λ y. key a < key y) (λ y m. omega (arith, l, m)) bs r.0)) in
      absurd (not_nothing a (filter (mine (key a)) us) (sym (front a us (key a) refl) ∙ h ∙ none)))
      (λ (le : key b ≤ key a). le)
      (cases_lt (key a) (key b))

  abbrev rest_of : List X → List X
  rest_of [] = []
  rest_of (x ∷ xs) = xs

  strip : (a b : X) (u v : List X) (c d : Bool) → c ≡ d → cond c (a ∷ u) u ≡ cond d (b ∷ v) v → u ≡ v
  strip a b u v true true e h = ap rest_of h
  strip a b u v false false e h = h
  strip a b u v true false e h = absurd (true≢false e)
  strip a b u v false true e h = absurd (true≢false (sym e))

  unique : (us bs : List X) → Rises us → Rises bs → ((s : X) → filter (mine (key s)) us ≡ filter (mine (key s)) bs) → us ≡ bs
  unique [] [] ra rb h = refl
  unique [] (b ∷ bs) ra rb h = absurd (not_nothing b (filter (mine (key b)) bs) (sym (front b bs (key b) refl) ∙ sym (h b)))
  unique (a ∷ us) [] ra rb h = absurd (not_nothing a (filter (mine (key a)) us) (sym (front a us (key a) refl) ∙ h a))
  unique (a ∷ us) (b ∷ bs) ra rb h =
      let low = not_below a b us bs rb (h a) in
      let high = not_below b a bs us ra (sym (h b)) in
      let same : key a ≡ key b = omega (arith, low, high) in
      let heads : a ∷ filter (mine (key a)) us ≡ b ∷ filter (mine (key a)) bs = sym (front a us (key a) refl) ∙ h a ∙ front b bs (key a) (sym same) in
      let one : a ≡ b = ap (λ (l : List X). slice_index_or l 0 a) heads in
      let others : us ≡ bs = unique us bs ra.1 rb.1 (λ s. strip a b (filter (mine (key s)) us) (filter (mine (key s)) bs) (mine (key s) a) (mine (key s) b) (ap (λ (k : ℕ). nat_eq k (key s)) same) (h s)) in
      ap (λ (x : X). x ∷ us) one ∙ ap (λ (l : List X). b ∷ l) others

  mine_sorted : (xs ys : List X) → IsStableByKey key nat_cmp xs ys → (s : X) → filter (mine (key s)) ys ≡ filter (mine (key s)) xs
  mine_sorted xs ys stable s =
      let by : X → Bool = ties (λ x y. is_lt (nat_cmp (key x) (key y))) s in
      let agree : (zs : List X) → filter by zs ≡ filter (mine (key s)) zs = filter_agree by (mine (key s)) (λ x. same_key (key x) (key s)) in
      sym (agree ys) ∙ stable s ∙ agree xs

  pub passing : (p : X → Bool) (xs ys : List X) → Rises ys → IsStableByKey key nat_cmp xs ys → filter p ys ≡ by_key key (filter p xs)
  passing p xs ys rises stable =
      unique (filter p ys) (by_key key (filter p xs)) (rises_filter p ys rises) (rises_by (filter p xs))
      (λ s. filter_both (mine (key s)) p ys ∙ ap (filter p) (mine_sorted xs ys stable s) ∙ filter_both p (mine (key s)) xs ∙ sym (mine_by (key s) (filter p xs)))

map_with : {X Y : Type 0} (key : Y → ℕ) (f : X → Y) (x : X) (ys : List X) → map f (with_key (λ z. key (f z)) x ys) ≡ with_key key (f x) (map f ys)
map_with {X} {Y} key f x [] = refl
map_with {X} {Y} key f x (y ∷ ys) = go (nat_le (key (f x)) (key (f y))) (map_with key f x ys)
  where
    go : (b : Bool) → map f (with_key (λ z. key (f z)) x ys) ≡ with_key key (f x) (map f ys) → map f (cond b (x ∷ y ∷ ys) (y ∷ with_key (λ z. key (f z)) x ys)) ≡ cond b (f x ∷ f y ∷ map f ys) (f y ∷ with_key key (f x) (map f ys))
    go true h = refl
    go false h = ap (λ (l : List Y). f y ∷ l) h

map_by : {X Y : Type 0} (key : Y → ℕ) (f : X → Y) (xs : List X) → map f (by_key (λ z. key (f z)) xs) ≡ by_key key (map f xs)
map_by key f [] = refl
map_by key f (x ∷ xs) = map_with key f x (by_key (λ z. key (f z)) xs) ∙ ap (with_key key (f x)) (map_by key f xs)

-- the key of a stretch is that of its item
abbrev pub of_item : {X : Type 0} → (X → ℕ) → Stretch X → ℕ
of_item key s = key s.item

-- the list at each place, where the stretches are sorted
pub sorted_at : {X : Type 0} (key : X → ℕ) (xs ys : List (Stretch X)) → IsNonDecreasingBy (of_item key) ys → IsStableByKey (of_item key) nat_cmp xs ys → (place : ℕ) → standing_at place ys ≡ by_key key (standing_at place xs)
sorted_at {X} key xs ys rises stable place =
    let item : Stretch X → X = λ s. s.item in
    ap (map item) (passing (of_item key) (stands place) xs ys (rises_from (of_item key) ys rises) stable)
    ∙ map_by key item (filter (stands place) xs)
