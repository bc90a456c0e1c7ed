-- What an edit of a row's blocks leaves: an item more or less in one block, a block that is cut, two that are joined, one taken away, and
-- the item at a place.
use Rattle.std.proofs.Common.{◌≡◌, ℕ, zero, suc, ◌+◌, ◌-◌, ◌<◌, ◌≤◌, List, [], ◌∷◌, ◌++◌, length, length-append, length-drop, take, drop, get_or, set, insert, remove, refl, ap, sym, subst, ◌∙◌, append_assoc, arith, take-append-drop, ⊎_elim}
use Rattle.std.specs.List.{sum_by}
use Rattle.std.specs.Prelude.{◌==◌, false, true}
use Rattle.std.proofs.lemmas.Bool.Decides.{nat_tests}
use Rattle.std.proofs.lemmas.List.{append-nil, drop-set-lt, drop_more, get_or_at, get_or_read, length-set, length-take-le, length_push, set_at, set_split, take_at, take_more, take_more_set}
use Rattle.std.proofs.lemmas.Bool.{cases_lt}
use Rattle.std.proofs.lemmas.List.Concat.{flat_map-append, get_or-flat_map, length-flat_map}
use Rattle.std.proofs.lemmas.List.Edits.{get_or-remove_below, length-insert, length-remove}
use Rattle.std.proofs.lemmas.List.Sums.{sum_by-append, sum_by-cons}
use Rattle.blocks.specs.Rows.{AreFilled, IsFilled, cut_at, flat, joined_at, over_of, start}
use Rattle.blocks.proofs.Changes.{filled-append, filled-drop, filled-take, inserted_is, removed_is}

next_is : (k : ℕ) → k + 1 ≡ suc k
next_is k = omega arith

-- a list whose length was found to be 0 is empty
pub none_by : {Y : Type 0} (xs : List Y) → true ≡ (length xs == 0) → xs ≡ []
none_by [] e = refl
none_by (x ∷ xs) e = absurd (grind (arith, nat_tests, e))

-- a list whose length was found not to be 0 has an item, also when it is read again
pub some_by : {Y : Type 0} (xs again : List Y) → again ≡ xs → false ≡ (length xs == 0) → 1 ≤ length again
some_by xs again same e = let some : 1 ≤ length xs = grind (arith, nat_tests, e) in omega (arith, ap length same, some)

module _ {X : Type 0} where
  -- the number of all items is the sum of those of the blocks
  pub all_is : (cs : List (List X)) → length (flat cs) ≡ sum_by (λ (c : List X). length c) cs
  all_is cs = length-flat_map (λ (c : List X). c) cs

  flat-append : (a b : List (List X)) → flat (a ++ b) ≡ flat a ++ flat b
  flat-append a b = flat_map-append (λ (c : List X). c) a b

  -- filled blocks with another filled one in a place are filled
  pub filled-set : (k : ℕ) (cs : List (List X)) (c : List X) → AreFilled cs → IsFilled c → AreFilled (set cs k c)
  filled-set k [] c s f = tt
  filled-set zero (d ∷ cs) c s f = (f, s.1)
  filled-set (suc k) (d ∷ cs) c s f = (s.0, filled-set k cs c s.1 f)

  -- filled blocks with one fewer are filled
  pub filled-remove : (k : ℕ) (cs : List (List X)) → AreFilled cs → AreFilled (remove cs k)
  filled-remove k cs s = filled-append (take k cs) (drop (suc k) cs) (filled-take k cs s) (filled-drop (suc k) cs s)

  -- a block of filled ones is filled, if it is there
  pub filled_here : (k : ℕ) (cs : List (List X)) → AreFilled cs → k < length cs → IsFilled (get_or cs k [])
  filled_here k [] s lt = absurd (omega (arith, lt))
  filled_here zero (c ∷ cs) s lt = s.0
  filled_here (suc k) (c ∷ cs) s lt = filled_here k cs s.1 (omega (arith, lt))

  around : (k : ℕ) (cs : List (List X)) → k < length cs → cs ≡ take k cs ++ get_or cs k [] ∷ drop (k + 1) cs
  around k cs lt = sym (take-append-drop k cs) ∙ ap (λ (r : List (List X)). take k cs ++ r) (drop_more cs k [] lt)

  only_one : (c : List X) → length c ≡ 1 → remove c 0 ≡ []
  only_one [] e = refl
  only_one (x ∷ []) e = refl
  only_one (x ∷ y ∷ c) e = absurd (omega (arith, e))

  -- how many items a block has that was read from a list lent
  pub seen_length : (k : ℕ) (cs seen : List (List X)) (items : List X) → items ≡ get_or seen k [] → seen ≡ cs → length items ≡ length (get_or cs k [])
  seen_length k cs seen items e same = ap length e ∙ ap (λ (r : List (List X)). length (get_or r k [])) same

  module _ (k : ℕ) (cs : List (List X)) (b : List X) (lt : k < length cs) (read : b ≡ get_or cs k b) where
    -- a block that was read is the block
    pub read_is : b ≡ get_or cs k []
    read_is = get_or_read cs k b lt read []

    -- a block that was read is the block also where it is read once more
    pub again_is : get_or cs k b ≡ get_or cs k []
    again_is = sym read ∙ read_is

    -- the first 64 items of a block that was read, and then the others as a block behind it, are the blocks cut there
    pub cut_by : (low high : List X) (new : List (List X)) → low ≡ take 64 b → high ≡ drop 64 b → new ≡ insert (set cs k low) (k + 1) high → new ≡ cut_at k cs
    cut_by low high new e f h =
        h ∙ ap (λ (c : List X). insert (set cs k c) (k + 1) high) (e ∙ ap (take 64) read_is) ∙ ap (λ (c : List X). insert (set cs k (take 64 (get_or cs k []))) (k + 1) c) (f ∙ ap (drop 64) read_is)

    -- a block of one item that was read is empty once that item is removed
    pub only_by : (new : List X) → length (get_or cs k []) ≡ 1 → new ≡ remove b 0 → new ≡ []
    only_by new one e = e ∙ only_one b (ap length read_is ∙ one)

  -- two blocks that were read, the first one once the second was removed, are the two blocks
  pub join_reads : (k : ℕ) (cs rest : List (List X)) (a b : List X) → k + 1 < length cs → rest ≡ remove cs (k + 1) → b ≡ get_or cs (k + 1) b → a ≡ get_or rest k a → (a ≡ get_or cs k []) × (b ≡ get_or cs (k + 1) [])
  join_reads k cs rest a b lt e read first =
      let front : a ≡ get_or (remove cs (k + 1)) k a = first ∙ ap (λ (r : List (List X)). get_or r k a) e in
      (get_or_read cs k a (omega (arith, lt)) (front ∙ get_or-remove_below cs (k + 1) a k (omega arith) lt) [], read_is (k + 1) cs b lt read)

  -- and the items of both in the place of the first are the blocks joined there
  pub join_by : (k : ℕ) (cs rest : List (List X)) (a b both : List X) → k + 1 < length cs → rest ≡ remove cs (k + 1) → b ≡ get_or cs (k + 1) b → a ≡ get_or rest k a → both ≡ a ++ b → set rest k both ≡ joined_at k cs
  join_by k cs rest a b both lt e read first f =
      let is = join_reads k cs rest a b lt e read first in
      ap (λ (r : List (List X)). set r k both) e ∙ ap (set (remove cs (k + 1)) k) (f ∙ ap (λ (c : List X). c ++ b) is.0 ∙ ap (λ (c : List X). get_or cs k [] ++ c) is.1)

  -- a block with an item inserted is all items with it inserted, at its place there
  pub put_flat : (k at : ℕ) (cs new : List (List X)) (x : X) → k < length cs → at ≤ length (get_or cs k []) → new ≡ set cs k (insert (get_or cs k []) at x) → flat new ≡ insert (flat cs) (start k cs + at) x
  put_flat k at cs new x lt le e =
      let items = insert (get_or cs k []) at x in
      inserted_is k at cs x (get_or cs k []) (get_or cs k []) items (flat new) refl refl refl le
      (ap flat (e ∙ set_split cs k items lt) ∙ flat-append (take k cs) (items ∷ drop (suc k) cs) ∙ sym (append_assoc (flat (take k cs)) items (flat (drop (suc k) cs)))
      ∙ ap (λ (n : ℕ). flat (take k cs) ++ items ++ flat (drop n cs)) (sym (next_is k)))

  -- a block with an item removed is all items with it removed, at its place there
  pub taken_flat : (k at : ℕ) (cs new : List (List X)) → k < length cs → at < length (get_or cs k []) → new ≡ set cs k (remove (get_or cs k []) at) → flat new ≡ remove (flat cs) (start k cs + at)
  taken_flat k at cs new lt le e =
      let items = remove (get_or cs k []) at in
      removed_is k at cs (get_or cs k []) (get_or cs k []) items (flat new) refl refl refl le
      (ap flat (e ∙ set_split cs k items lt) ∙ flat-append (take k cs) (items ∷ drop (suc k) cs) ∙ sym (append_assoc (flat (take k cs)) items (flat (drop (suc k) cs)))
      ∙ ap (λ (n : ℕ). flat (take k cs) ++ items ++ flat (drop n cs)) (sym (next_is k)))

  -- a block of one item that is removed is all items with that one removed
  pub retired_flat : (k : ℕ) (cs new : List (List X)) → k < length cs → length (get_or cs k []) ≡ 1 → new ≡ remove cs k → flat new ≡ remove (flat cs) (start k cs + 0)
  retired_flat k cs new lt one e =
      removed_is k 0 cs (get_or cs k []) (get_or cs k []) [] (flat new) refl refl (sym (only_one (get_or cs k []) one)) (omega (arith, one))
      (ap flat e ∙ flat-append (take k cs) (drop (suc k) cs) ∙ ap (λ (r : List X). r ++ flat (drop (suc k) cs)) (sym (append-nil (flat (take k cs))))
      ∙ ap (λ (n : ℕ). flat (take k cs) ++ [] ++ flat (drop n cs)) (sym (next_is k)))

  -- the first item of a row is inserted among no items
  pub begun_flat : (k at : ℕ) (cs new : List (List X)) (x : X) → cs ≡ [] → new ≡ (x ∷ []) ∷ [] → flat new ≡ insert (flat cs) (start k cs + at) x
  begun_flat k at [] new x none e = ap flat e ∙ sym (alone (start k [] + at))
    where
      alone : (n : ℕ) → insert [] n x ≡ x ∷ []
      alone zero = refl
      alone (suc n) = refl
  begun_flat k at (c ∷ cs) new x none e = absurd (omega (arith, ap length none))

  -- a row with a cut block is the blocks before it, the first 64 items, the others, and the blocks behind it
  pub cut_parts : (k : ℕ) (cs : List (List X)) → k < length cs → cut_at k cs ≡ take k cs ++ take 64 (get_or cs k []) ∷ drop 64 (get_or cs k []) ∷ drop (k + 1) cs
  cut_parts k cs lt =
      let low = take 64 (get_or cs k []) in
      let high = drop 64 (get_or cs k []) in
      ap (λ (r : List (List X)). r ++ high ∷ drop (k + 1) (set cs k low)) (take_more_set cs k low lt) ∙ ap (λ (r : List (List X)). (take k cs ++ low ∷ []) ++ high ∷ r) (drop-set-lt (k + 1) cs k low (omega arith))
      ∙ append_assoc (take k cs) (low ∷ []) (high ∷ drop (k + 1) cs)

  -- a cut leaves the items as they are
  pub cut_flat : (k : ℕ) (cs : List (List X)) → k < length cs → flat (cut_at k cs) ≡ flat cs
  cut_flat k cs lt =
      let c = get_or cs k [] in
      let rest = flat (drop (k + 1) cs) in
      ap flat (cut_parts k cs lt) ∙ flat-append (take k cs) (take 64 c ∷ drop 64 c ∷ drop (k + 1) cs)
      ∙ ap (λ (r : List X). flat (take k cs) ++ r) (sym (append_assoc (take 64 c) (drop 64 c) rest) ∙ ap (λ (r : List X). r ++ rest) (take-append-drop 64 c))
      ∙ sym (ap flat (around k cs lt) ∙ flat-append (take k cs) (c ∷ drop (k + 1) cs))

  -- the blocks are filled still where a full one is cut
  pub cut_filled : (k : ℕ) (cs : List (List X)) → k < length cs → AreFilled cs → length (get_or cs k []) ≡ 128 → AreFilled (cut_at k cs)
  cut_filled k cs lt s full =
      let c = get_or cs k [] in
      subst AreFilled (sym (cut_parts k cs lt))
      (filled-append (take k cs) (take 64 c ∷ drop 64 c ∷ drop (k + 1) cs) (filled-take k cs s) (
        record { low = omega (arith, length-take-le 64 c (omega (arith, full))); high = omega (arith, length-take-le 64 c (omega (arith, full))) },
        (record { low = omega (arith, length-drop 64 c, full); high = omega (arith, length-drop 64 c, full) }, filled-drop (k + 1) cs s),
      ))

  -- a full block that is cut leaves the blocks over by 63 fewer items
  pub cut_over : (k : ℕ) (cs : List (List X)) → k < length cs → length (get_or cs k []) ≡ 128 → sum_by over_of (cut_at k cs) + 63 ≡ sum_by over_of cs
  cut_over k cs lt full =
      let c = get_or cs k [] in
      let low : length (take 64 c) ≡ 64 = length-take-le 64 c (omega (arith, full)) in
      let high : length (drop 64 c) ≡ 64 = omega (arith, length-drop 64 c, full) in
      let rest = drop (k + 1) cs in
      omega (
        arith,
        ap (sum_by over_of) (cut_parts k cs lt),
        sum_by-append over_of (take k cs) (take 64 c ∷ drop 64 c ∷ rest),
        sum_by-cons over_of (take 64 c) (drop 64 c ∷ rest),
        sum_by-cons over_of (drop 64 c) rest,
        ap (sum_by over_of) (around k cs lt),
        sum_by-append over_of (take k cs) (c ∷ rest),
        sum_by-cons over_of c rest,
        low,
        high,
        full,
      )

  -- a cut makes one block more
  pub cut_length : (k : ℕ) (cs : List (List X)) → k < length cs → length (cut_at k cs) ≡ length cs + 1
  cut_length k cs lt = length-insert (set cs k (take 64 (get_or cs k []))) (k + 1) (drop 64 (get_or cs k [])) (omega (arith, length-set cs k (take 64 (get_or cs k [])))) ∙ ap (λ (n : ℕ). n + 1) (length-set cs k (take 64 (get_or cs k [])))

  cut_low : (k : ℕ) (cs : List (List X)) → k < length cs → get_or (cut_at k cs) k [] ≡ take 64 (get_or cs k [])
  cut_low k cs lt =
      ap (λ (r : List (List X)). get_or r k []) (cut_parts k cs lt) ∙ get_or_at (take k cs) (take 64 (get_or cs k [])) (drop 64 (get_or cs k []) ∷ drop (k + 1) cs) [] k (length-take-le k cs (omega (arith, lt)))

  split_at : (k : ℕ) (cs : List (List X)) → k < length cs → cut_at k cs ≡ (take k cs ++ take 64 (get_or cs k []) ∷ []) ++ drop 64 (get_or cs k []) ∷ drop (k + 1) cs
  split_at k cs lt = cut_parts k cs lt ∙ sym (append_assoc (take k cs) (take 64 (get_or cs k []) ∷ []) (drop 64 (get_or cs k []) ∷ drop (k + 1) cs))

  front_length : (k : ℕ) (cs : List (List X)) (c : List X) → k < length cs → length (take k cs ++ c ∷ []) ≡ k + 1
  front_length k cs c lt = length_push (take k cs) c ∙ ap (λ (n : ℕ). n + 1) (length-take-le k cs (omega (arith, lt)))

  cut_high : (k : ℕ) (cs : List (List X)) → k < length cs → get_or (cut_at k cs) (k + 1) [] ≡ drop 64 (get_or cs k [])
  cut_high k cs lt =
      ap (λ (r : List (List X)). get_or r (k + 1) []) (split_at k cs lt)
      ∙ get_or_at (take k cs ++ take 64 (get_or cs k []) ∷ []) (drop 64 (get_or cs k [])) (drop (k + 1) cs) [] (k + 1) (front_length k cs (take 64 (get_or cs k [])) lt)

  cut_start : (k : ℕ) (cs : List (List X)) → k < length cs → start k (cut_at k cs) ≡ start k cs
  cut_start k cs lt =
      ap (λ (r : List (List X)). length (flat r)) (ap (take k) (cut_parts k cs lt) ∙ take_at (take k cs) (take 64 (get_or cs k []) ∷ drop 64 (get_or cs k []) ∷ drop (k + 1) cs) k (length-take-le k cs (omega (arith, lt))))

  cut_next : (k : ℕ) (cs : List (List X)) → k < length cs → length (get_or cs k []) ≡ 128 → start (k + 1) (cut_at k cs) ≡ start k cs + 64
  cut_next k cs lt full =
      let low = take 64 (get_or cs k []) in
      let long : length low ≡ 64 = length-take-le 64 (get_or cs k []) (omega (arith, full)) in
      let front : take (k + 1) (cut_at k cs) ≡ take k cs ++ low ∷ [] = ap (take (k + 1)) (split_at k cs lt) ∙ take_at (take k cs ++ low ∷ []) (drop 64 (get_or cs k []) ∷ drop (k + 1) cs) (k + 1) (front_length k cs low lt) in
      ap (λ (r : List (List X)). length (flat r)) front ∙ ap length (flat-append (take k cs) (low ∷ []) ∙ ap (λ (r : List X). flat (take k cs) ++ r) (append-nil low)) ∙ length-append (flat (take k cs)) low ∙ ap (λ (n : ℕ). start k cs + n) long

  pub record HasCapacity (k at block place : ℕ) (cs new : List (List X)) : Type 0 where
    pub there : block < length new
    pub within : place ≤ length (get_or new block [])
    pub half : length (get_or new block []) ≡ 64
    pub same : start block new + place ≡ start k cs + at

  half_low : (k at : ℕ) (cs new : List (List X)) → k < length cs → length (get_or cs k []) ≡ 128 → at ≤ 64 → new ≡ cut_at k cs → HasCapacity k at k at cs new
  half_low k at cs new lt full le e =
      subst (HasCapacity k at k at cs) (sym e)
      (record {
        there = omega (arith, cut_length k cs lt);
        within = omega (arith, ap length (cut_low k cs lt), length-take-le 64 (get_or cs k []) (omega (arith, full)));
        half = ap length (cut_low k cs lt) ∙ length-take-le 64 (get_or cs k []) (omega (arith, full));
        same = ap (λ (n : ℕ). n + at) (cut_start k cs lt);
      })

  half_high : (k at : ℕ) (cs new : List (List X)) → k < length cs → length (get_or cs k []) ≡ 128 → 64 < at → at ≤ 128 → new ≡ cut_at k cs → HasCapacity k at (k + 1) (at - 64) cs new
  half_high k at cs new lt full more le e =
      subst (HasCapacity k at (k + 1) (at - 64) cs) (sym e)
      (record {
        there = omega (arith, cut_length k cs lt);
        within = omega (arith, ap length (cut_high k cs lt), length-drop 64 (get_or cs k []), full);
        half = omega (arith, ap length (cut_high k cs lt), length-drop 64 (get_or cs k []), full);
        same = omega (arith, cut_next k cs lt full, more);
      })

  -- a place up to 64 of a full block is in that block once it is cut, one past 64 in the next; either block has capacity
  pub has_capacity : (k at block place : ℕ) (cs new : List (List X)) → k < length cs → length (get_or cs k []) ≡ 128 → at ≤ 128 → new ≡ cut_at k cs → (at ≤ 64 → (block ≡ k) × (place ≡ at)) → (64 < at → (block ≡ k + 1) × (place ≡ at - 64))
      → HasCapacity k at block place cs new
  has_capacity k at block place cs new lt full most e low high =
      ⊎_elim
      (λ (more : 64 < at).
      let h = high more in
      subst (λ (b : ℕ). HasCapacity k at b place cs new) (sym h.0) (subst (λ (p : ℕ). HasCapacity k at (k + 1) p cs new) (sym h.1) (half_high k at cs new lt full more most e)))
      (λ (le : at ≤ 64).
      let h = low le in
      subst (λ (b : ℕ). HasCapacity k at b place cs new) (sym h.0) (subst (λ (p : ℕ). HasCapacity k at k p cs new) (sym h.1) (half_low k at cs new lt full le e)))
      (cases_lt 64 at)

  -- the item at a place of a block is that at its place among all items
  pub item_is : (k at : ℕ) (cs : List (List X)) (d : X) → k < length cs → at < length (get_or cs k []) → get_or (flat cs) (start k cs + at) d ≡ get_or (get_or cs k []) at d
  item_is k at cs d lt le = get_or-flat_map (λ (c : List X). c) cs k at [] d lt le

  -- a row with two blocks joined is the blocks before them, the items of both, and the blocks behind them
  pub join_parts : (k : ℕ) (cs : List (List X)) → k + 1 < length cs → joined_at k cs ≡ take k cs ++ (get_or cs k [] ++ get_or cs (k + 1) []) ∷ drop (suc (k + 1)) cs
  join_parts k cs lt =
      let both = get_or cs k [] ++ get_or cs (k + 1) [] in
      ap (λ (r : List (List X)). set (r ++ drop (suc (k + 1)) cs) k both) (take_more cs k [] (omega (arith, lt))) ∙ ap (λ (r : List (List X)). set r k both) (append_assoc (take k cs) (get_or cs k [] ∷ []) (drop (suc (k + 1)) cs))
      ∙ set_at (take k cs) (get_or cs k []) (drop (suc (k + 1)) cs) both k (length-take-le k cs (omega (arith, lt)))

  two_around : (k : ℕ) (cs : List (List X)) → k + 1 < length cs → cs ≡ take k cs ++ get_or cs k [] ∷ get_or cs (k + 1) [] ∷ drop (suc (k + 1)) cs
  two_around k cs lt =
      around k cs (omega (arith, lt)) ∙ ap (λ (r : List (List X)). take k cs ++ get_or cs k [] ∷ r) (drop_more cs (k + 1) [] lt ∙ ap (λ (n : ℕ). get_or cs (k + 1) [] ∷ drop n cs) (next_is (k + 1)))

  -- to join two blocks leaves the items as they are
  pub join_flat : (k : ℕ) (cs new : List (List X)) → k + 1 < length cs → new ≡ joined_at k cs → flat new ≡ flat cs
  join_flat k cs new lt e =
      let a = get_or cs k [] in
      let b = get_or cs (k + 1) [] in
      let rest = drop (suc (k + 1)) cs in
      ap flat (e ∙ join_parts k cs lt) ∙ flat-append (take k cs) ((a ++ b) ∷ rest) ∙ ap (λ (r : List X). flat (take k cs) ++ r) (append_assoc a b (flat rest))
      ∙ sym (ap flat (two_around k cs lt) ∙ flat-append (take k cs) (a ∷ b ∷ rest))

  -- the blocks are filled still where two with at most 64 items together are joined
  pub join_filled : (k : ℕ) (cs : List (List X)) → k + 1 < length cs → AreFilled cs → length (get_or cs k []) + length (get_or cs (k + 1) []) ≤ 64 → AreFilled (joined_at k cs)
  join_filled k cs lt s le =
      let a = get_or cs k [] in
      let b = get_or cs (k + 1) [] in
      let low : 1 ≤ length a = (filled_here k cs s (omega (arith, lt))).low in
      subst AreFilled (sym (join_parts k cs lt))
      (filled-append (take k cs) ((a ++ b) ∷ drop (suc (k + 1)) cs) (filled-take k cs s)
      (record { low = omega (arith, length-append a b, low); high = omega (arith, length-append a b, le) }, filled-drop (suc (k + 1)) cs s))

  -- blocks are over by as many items as they were where two with at most 64 items together are joined
  pub join_over : (k : ℕ) (cs : List (List X)) → k + 1 < length cs → length (get_or cs k []) + length (get_or cs (k + 1) []) ≤ 64 → sum_by over_of (joined_at k cs) ≡ sum_by over_of cs
  join_over k cs lt le =
      let a = get_or cs k [] in
      let b = get_or cs (k + 1) [] in
      let rest = drop (suc (k + 1)) cs in
      omega (
        arith,
        ap (sum_by over_of) (join_parts k cs lt),
        sum_by-append over_of (take k cs) ((a ++ b) ∷ rest),
        sum_by-cons over_of (a ++ b) rest,
        length-append a b,
        ap (sum_by over_of) (two_around k cs lt),
        sum_by-append over_of (take k cs) (a ∷ b ∷ rest),
        sum_by-cons over_of a (b ∷ rest),
        sum_by-cons over_of b rest,
        le,
      )

  -- two blocks that are joined make one block fewer
  pub join_length : (k : ℕ) (cs : List (List X)) → k + 1 < length cs → length (joined_at k cs) + 1 ≡ length cs
  join_length k cs lt = ap (λ (n : ℕ). n + 1) (length-set (remove cs (k + 1)) k (get_or cs k [] ++ get_or cs (k + 1) [])) ∙ length-remove cs (k + 1) lt
