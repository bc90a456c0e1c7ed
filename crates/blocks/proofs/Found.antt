-- Items of a row in blocks, by their places: a walk over the blocks to a place, an item that is read, put in or taken out there, and what a
-- search by two numbers meets.
use Rattle.std.proofs.Common.{◌≡◌, ℕ, zero, suc, ◌+◌, ◌-◌, ◌<◌, ◌≤◌, Option, Some, None, List, [], ◌∷◌, ◌++◌, length, length-append, take, drop, find, get_or, insert, remove, slice_get, option_copied, Bor, Bool, true, false, refl, ap, sym, subst, ◌∙◌, arith, ⊎_elim}
use Rattle.std.specs.List.{sum_by}
use Rattle.std.specs.Slice.{IsItemAt}
use Rattle.std.proofs.lemmas.Bool.{cases_lt, false≢true}
use Rattle.std.proofs.lemmas.List.{drop_more, get_or_past, take_all}
use Rattle.std.proofs.lemmas.List.Sums.{sum_by-cons}
use Rattle.std.proofs.lemmas.Option.{slice_get-get_or, slice_get_cases, slice_get_past, slice_get_within}
use Rattle.blocks.specs.Rows.{Rises, entered, flat, is_at, passes, place_in, start, without_first}
use Rattle.blocks.proofs.Changes.{flat_at}
use Rattle.blocks.proofs.Edits.{item_is}
use Rattle.blocks.proofs.Order.{entered_is, hit, miss}

module _ {X : Type 0} where
  -- the item that is lent by its place is the one there
  pub got_is : (xs : List X) (i : ℕ) (r : Option (Bor X)) → IsItemAt xs i r → option_copied r ≡ slice_get xs i
  got_is xs i None h = sym (slice_get_past xs i h.3)
  got_is xs i (Some x) h = sym (slice_get-get_or xs i x.now h.3.0 ∙ ap Some (sym (h.3.1 x.now)))

  -- a place in a block is one among all items
  pub inside_flat : (k at : ℕ) (cs : List (List X)) → at < length (get_or cs k []) → start k cs + at < length (flat cs)
  inside_flat k at cs lt =
      omega (arith, ap length (flat_at k cs), length-append (flat (take k cs)) (get_or cs k [] ++ flat (drop (suc k) cs)), length-append (get_or cs k []) (flat (drop (suc k) cs)))

  behind_is : (k : ℕ) (cs : List (List X)) → length cs ≤ k → start k cs ≡ length (flat cs)
  behind_is k cs le = ap (λ (r : List (List X)). length (flat r)) (take_all k cs le)

  -- the item at a place of a block, and none behind the last block, is what stands at that place among all items
  pub get_is : (k at : ℕ) (cs : List (List X)) → (k < length cs → at < length (get_or cs k [])) → slice_get (flat cs) (start k cs + at) ≡ slice_get (get_or cs k []) at
  get_is k at cs there =
      ⊎_elim
      (λ (lt : k < length cs).
      let within : at < length (get_or cs k []) = there lt in
      ⊎_elim
      (λ (h : (x : X) × (at < length (get_or cs k [])) × (slice_get (get_or cs k []) at ≡ Some x) × (get_or (get_or cs k []) at x ≡ x)).
      slice_get-get_or (flat cs) (start k cs + at) h.0 (inside_flat k at cs within) ∙ ap Some (item_is k at cs h.0 lt within ∙ h.3) ∙ sym h.2)
      (λ (h : (length (get_or cs k []) ≤ at) × (slice_get (get_or cs k []) at ≡ None)). absurd (omega (arith, h.0, within)))
      (slice_get_cases (get_or cs k []) at).1)
      (λ (le : length cs ≤ k).
      let none : length (get_or cs k []) ≡ 0 = ap length (get_or_past cs k [] le) in
      slice_get_past (flat cs) (start k cs + at) (omega (arith, behind_is k cs le)) ∙ sym (slice_get_past (get_or cs k []) at (omega (arith, none))))
      (cases_lt k (length cs))

  get_left : (b xs : List X) (n : ℕ) → n < length b → slice_get (b ++ xs) n ≡ slice_get b n
  get_left [] xs n lt = absurd (omega (arith, lt))
  get_left (x ∷ b) xs zero lt = refl
  get_left (x ∷ b) xs (suc n) lt = get_left b xs n (omega (arith, lt))

  get_right : (b xs : List X) (n : ℕ) → length b ≤ n → slice_get (b ++ xs) n ≡ slice_get xs (n - length b)
  get_right [] xs n le = let same : n ≡ n - 0 = omega arith in ap (slice_get xs) same
  get_right (x ∷ b) xs zero le = absurd (omega (arith, le))
  get_right (x ∷ b) xs (suc n) le = let same : n - length b ≡ suc n - suc (length b) = omega arith in get_right b xs n (omega (arith, le)) ∙ ap (slice_get xs) same

  module _ (i n : ℕ) (cs : List (List X)) (b : List X) (lt : i < length cs) (read : b ≡ get_or cs i b) where
    from_here : flat (drop i cs) ≡ b ++ flat (drop (i + 1) cs)
    from_here = ap flat (drop_more cs i b lt) ∙ ap (λ (c : List X). c ++ flat (drop (i + 1) cs)) (sym read)

    -- a walk that comes to a block with more items than are to pass ends in that block
    pub walk_ends : n < length b → slice_get b n ≡ slice_get (flat (drop i cs)) n
    walk_ends le = sym (ap (λ (l : List X). slice_get l n) from_here ∙ get_left b (flat (drop (i + 1) cs)) n le)

    -- a walk goes on behind a block that has no more items than are to pass
    pub walk_on : length b ≤ n → slice_get (flat (drop (i + 1) cs)) (n - length b) ≡ slice_get (flat (drop i cs)) n
    walk_on le = sym (ap (λ (l : List X). slice_get l n) from_here ∙ get_right b (flat (drop (i + 1) cs)) n le)

  -- the item that is taken out is the one that was found
  pub taken_item : (k at : ℕ) (cs old : List (List X)) (x : X) (found : Option X) → cs ≡ old → k < length cs → at < length (get_or cs k []) → found ≡ slice_get (flat cs) (start k cs + at) → x ≡ get_or (flat old) (start k old + at) x → Some x ≡ found
  taken_item k at cs old x found same lt le e read =
      ap Some (read ∙ ap (λ (r : List (List X)). get_or (flat r) (start k r + at) x) (sym same)) ∙ sym (slice_get-get_or (flat cs) (start k cs + at) x (inside_flat k at cs le)) ∙ sym e

  pub within_is : (k at : ℕ) (cs : List (List X)) (found : List X) (x : X) → found ≡ get_or cs k [] → slice_get found at ≡ Some x → (k < length cs) × (at < length (get_or cs k []))
  within_is k at cs found x value e =
      let within : at < length (get_or cs k []) = subst (λ (l : List X). at < length l) value (slice_get_within found at x e) in
      ⊎_elim
      (λ (lt : k < length cs). (lt, within))
      (λ (le : length cs ≤ k). let none : length (get_or cs k []) ≡ 0 = ap length (get_or_past cs k [] le) in absurd (omega (arith, none, within)))
      (cases_lt k (length cs))

  first_of : (f : X → ℕ) (xs ys : List X) (n : ℕ) → sum_by f (take (length xs + n) (xs ++ ys)) ≡ sum_by f xs + sum_by f (take n ys)
  first_of f [] ys n = let same : 0 + n ≡ n = omega arith in omega (arith, ap (λ (k : ℕ). sum_by f (take k ys)) same)
  first_of f (x ∷ xs) ys n =
      let more : length (x ∷ xs) + n ≡ suc (length xs + n) = omega arith in
      omega (arith, ap (λ (k : ℕ). sum_by f (take k (x ∷ xs ++ ys))) more, sum_by-cons f x (take (length xs + n) (xs ++ ys)), sum_by-cons f x xs, first_of f xs ys n)

  front_of : (f : X → ℕ) (xs ys : List X) (n : ℕ) → n ≤ length xs → sum_by f (take n (xs ++ ys)) ≡ sum_by f (take n xs)
  front_of f [] ys zero le = refl
  front_of f [] ys (suc n) le = absurd (omega (arith, le))
  front_of f (x ∷ xs) ys zero le = refl
  front_of f (x ∷ xs) ys (suc n) le = omega (arith, sum_by-cons f x (take n (xs ++ ys)), sum_by-cons f x (take n xs), front_of f xs ys n (omega (arith, le)))

  -- the items before a place weigh what the blocks before its own weigh and the first ones of that one
  pub weight_at : (f : X → ℕ) (k at p : ℕ) (cs : List (List X)) → at ≤ length (get_or cs k []) → start k cs + at ≡ p → sum_by f (take p (flat cs)) ≡ sum_by f (flat (take k cs)) + sum_by f (take at (get_or cs k []))
  weight_at f k at p cs le e =
      ap (λ (n : ℕ). sum_by f (take n (flat cs))) (sym e) ∙ ap (λ (l : List X). sum_by f (take (start k cs + at) l)) (flat_at k cs)
      ∙ first_of f (flat (take k cs)) (get_or cs k [] ++ flat (drop (suc k) cs)) at
      ∙ ap (λ (n : ℕ). sum_by f (flat (take k cs)) + n) (front_of f (get_or cs k []) (flat (drop (suc k) cs)) at le)

  -- all items without the one at its place are those without the first that passes, where the two are the same
  pub left_by : (test : X → Bool) (k at : ℕ) (cs old : List (List X)) (new : List X) → cs ≡ old → without_first test (flat cs) ≡ remove (flat cs) (start k cs + at) → new ≡ remove (flat old) (start k old + at) → new ≡ without_first test (flat old)
  left_by test k at cs old new same left e = e ∙ ap (λ (r : List (List X)). remove (flat r) (start k r + at)) (sym same) ∙ sym left ∙ ap (λ (r : List (List X)). without_first test (flat r)) same

module _ {X : Type 0} (major minor : X → ℕ) where
  -- an item inserted at the place that a search found is entered among the items
  pub entered_by : (item : X) (cs old : List (List X)) (new : List X) (a b k at : ℕ) → cs ≡ old → a ≡ major item → b ≡ minor item → start k cs + at ≡ place_in major minor a b (flat cs) → new ≡ insert (flat old) (start k old + at) item
      → new ≡ entered major minor item (flat old)
  entered_by item cs old new a b k at same one two place e =
      e
      ∙ ap (λ (n : ℕ). insert (flat old) n item)
      (ap (λ (r : List (List X)). start k r + at) (sym same) ∙ place ∙ ap (λ (r : List (List X)). place_in major minor a b (flat r)) same ∙ ap (λ (n : ℕ). place_in major minor n b (flat old)) one
      ∙ ap (λ (n : ℕ). place_in major minor (major item) n (flat old)) two)
      ∙ entered_is major minor item (flat old)

  module _ (a b k at : ℕ) (cs : List (List X)) (found : List X) (rises : Rises major minor (flat cs)) (there : k < length cs → at < length (get_or cs k [])) (value : found ≡ get_or cs k []) (place : start k cs + at ≡ place_in major minor a b (flat cs)) where
    here : slice_get (flat cs) (start k cs + at) ≡ slice_get found at
    here = get_is k at cs there ∙ ap (λ (l : List X). slice_get l at) (sym value)

    spot : slice_get (flat cs) (place_in major minor a b (flat cs)) ≡ slice_get found at
    spot = ap (slice_get (flat cs)) (sym place) ∙ here

    abbrev test : X → Bool
    test = is_at major minor a b

    -- where the item found has not the two numbers, none has them, and none is taken out
    pub missed : passes test (slice_get found at) ≡ false → (find test (flat cs) ≡ None) × (without_first test (flat cs) ≡ flat cs)
    missed p = miss major minor a b (flat cs) rises (λ x (e : slice_get (flat cs) (place_in major minor a b (flat cs)) ≡ Some x). ap (passes test) (sym (sym spot ∙ e)) ∙ p)

    pub record IsMet : Type 0 where
      pub block : k < length cs
      pub within : at < length (get_or cs k [])
      pub item : find test (flat cs) ≡ slice_get (flat cs) (start k cs + at)
      pub left : without_first test (flat cs) ≡ remove (flat cs) (start k cs + at)

    -- where the item found has the two numbers, it is the first that does
    pub met : passes test (slice_get found at) ≡ true → IsMet
    met p =
        ⊎_elim
        (λ (h : (x : X) × (at < length found) × (slice_get found at ≡ Some x) × (get_or found at x ≡ x)).
        let r = hit major minor a b (flat cs) h.0 (spot ∙ h.2) (ap (passes test) (sym h.2) ∙ p) in
        let w = within_is k at cs found h.0 value h.2 in
        record { block = w.0; within = w.1; item = r.0 ∙ sym (here ∙ h.2); left = r.1 ∙ ap (remove (flat cs)) (sym place) })
        (λ (h : (length found ≤ at) × (slice_get found at ≡ None)). absurd (false≢true (ap (passes test) (sym h.1) ∙ p)))
        (slice_get_cases found at).1
