-- A list in chunks, read as one list: chunks of 256 elements cut off from its front, the element at a place, the elements from a place on,
-- and what a search wants and gives.
use Rattle.std.proofs.Common.{◌≡◌, ℕ, zero, suc, ◌+◌, ◌-◌, ◌<◌, ◌≤◌, min, List, [], ◌∷◌, ◌++◌, length, length-drop, take, drop, get_or, slice_get, refl, ap, sym, subst, ◌∙◌, arith, inl, inr}
use Rattle.std.specs.List.Sorted.{IsPartitionedBy}
use Rattle.std.proofs.Math.Seq.{drop-append-add, take-add}
use Rattle.std.proofs.lemmas.List.{append-nil, drop-append-le, drop-drop, drop-take, length-take, length-take-le, take-take, take_all}
use Rattle.std.proofs.lemmas.List.Concat.{flat_map-append}
use Rattle.chunks.specs.Chunks.{CountsNoneOr, flat, start, stands, place_in, touched, joining, moved, AreSized, AreFull}
use Rattle.chunks.specs.Groups.{chunks_in}
use Rattle.chunks.proofs.Changes.{flat_at}

add_parts : (a b c : ℕ) → a + b + c ≡ a + (b + c)
add_parts a b c = omega arith

module _ {X : Type 0} where
  -- a part of a range of a list is a range of the list
  pub part_is : (n f m k : ℕ) (xs part shared : List X) → take m (drop k xs) ≡ part → f + n ≤ length part → shared ≡ xs → take n (drop (k + f) shared) ≡ take n (drop f part)
  part_is n f m k xs part shared e le same =
      let within : f + n ≤ m = omega (arith, ap length e, length-take m (drop k xs)) in
      let rest = m - f in
      let whole : m ≡ f + rest = omega arith in
      ap (λ (ys : List X). take n (drop (k + f) ys)) same
      ∙ sym (ap (λ (j : ℕ). take n (drop f (take j (drop k xs)))) whole ∙ ap (take n) (drop-take f rest (drop k xs)) ∙ take-take n rest (drop f (drop k xs)) (omega arith) ∙ ap (take n) (drop-drop f k xs))
      ∙ ap (λ (ys : List X). take n (drop f ys)) e

  pub sized_push : (cs : List (List X)) (c : List X) → AreSized cs → 1 ≤ length c → length c ≤ 256 → AreSized (cs ++ c ∷ [])
  sized_push [] c s low high = (record { low = low; high = high }, tt)
  sized_push (d ∷ cs) c s low high = (s.0, sized_push cs c s.1 low high)

  pub sized_full : (cs ds : List (List X)) (c : List X) → ds ≡ cs ++ c ∷ [] → AreSized cs → 1 ≤ length c → length c ≤ 256 → AreSized ds
  sized_full cs ds c e s low high = subst AreSized (sym e) (sized_push cs c s low high)

  abbrev AreWhole : List (List X) → Type 0
  AreWhole [] = Unit {0}
  AreWhole (c ∷ cs) = (length c ≡ 256) × AreWhole cs

  -- so many first elements are in chunks of 1 to 256; all chunks but the last have 256, and the last too where more are to come
  pub record AreCut (n : ℕ) (all : List X) (cut : List (List X)) : Type 0 where
    pub front : flat cut ≡ take n all
    pub sized : AreSized cut
    pub full : AreFull cut
    pub whole : n < length all → AreWhole cut

  full_push : (cs : List (List X)) (c : List X) → AreWhole cs → AreFull (cs ++ c ∷ [])
  full_push [] c w = tt
  full_push (d ∷ []) c w = (w.0, tt)
  full_push (d ∷ e ∷ cs) c w = (w.0, full_push (e ∷ cs) c w.1)

  whole_push : (cs : List (List X)) (c : List X) → AreWhole cs → length c ≡ 256 → AreWhole (cs ++ c ∷ [])
  whole_push [] c w e = (e, tt)
  whole_push (d ∷ cs) c w e = (w.0, whole_push cs c w.1 e)

  -- one chunk more is cut off, of 256 elements or of all that are left
  pub cut_more : (n more : ℕ) (all chunk : List X) (cut new : List (List X)) → AreCut n all cut → n < length all → more ≡ min 256 (length all - n) → chunk ≡ take more (drop n all) → new ≡ cut ++ chunk ∷ []
      → AreCut (n + more) all new
  cut_more n more all chunk cut new before lt next e push =
      let long : length chunk ≡ more = ap length e ∙ length-take-le more (drop n all) (omega (arith, length-drop n all)) in
      record {
        front = ap flat push ∙ flat_map-append (λ (c : List X). c) cut (chunk ∷ []) ∙ ap (λ (x : List X). flat cut ++ x) (append-nil chunk) ∙ ap (λ (x : List X). x ++ chunk) before.front
            ∙ ap (λ (x : List X). take n all ++ x) e ∙ sym (take-add n more all);
        sized = sized_full cut new chunk push before.sized (omega arith) (omega arith);
        full = subst AreFull (sym push) (full_push cut chunk (before.whole lt));
        whole = λ some. subst AreWhole (sym push) (whole_push cut chunk (before.whole lt) (omega arith));
      }

  -- the first element from a place on is the one at the place
  pub slice_get-drop : (n : ℕ) (xs : List X) → slice_get (drop n xs) 0 ≡ slice_get xs n
  slice_get-drop zero [] = refl
  slice_get-drop zero (x ∷ xs) = refl
  slice_get-drop (suc n) [] = refl
  slice_get-drop (suc n) (x ∷ xs) = slice_get-drop n xs

  -- the elements of a chunk from a place on, and those of the chunks behind it, are all elements from that place on
  pub rest_at : (k at n : ℕ) (cs later : List (List X)) (chunk : List X) → chunk ≡ get_or cs k [] → at ≤ length (get_or cs k []) → n ≡ length chunk → later ≡ drop (k + 1) cs
      → take (n - at) (drop at chunk) ++ flat later ≡ drop (start k cs + at) (flat cs)
  rest_at k at n cs later chunk e le whole f =
      let next : k + 1 ≡ suc k = omega arith in
      let front : take (n - at) (drop at chunk) ≡ drop at chunk = take_all (n - at) (drop at chunk) (omega (arith, length-drop at chunk, whole)) in
      ap (λ (x : List X). x ++ flat later) (front ∙ ap (drop at) e) ∙ ap (λ (r : List (List X)). drop at (get_or cs k []) ++ flat r) (f ∙ ap (λ (m : ℕ). drop m cs) next)
      ∙ sym (drop-append-le at (get_or cs k []) (flat (drop (suc k) cs)) le)
      ∙ sym (ap (drop (start k cs + at)) (flat_at k cs) ∙ drop-append-add (flat (take k cs)) (get_or cs k [] ++ flat (drop (suc k) cs)) at)

  module _ (first second : X → ℕ) (a b p q : ℕ) (rows inside : List (List (List X))) (cs : List (List X)) (same : rows ≡ inside) (view : chunks_in inside ≡ cs) (one : a ≡ p) (two : b ≡ q) where
    seen : chunks_in rows ≡ cs
    seen = ap chunks_in same ∙ view

    -- two numbers that part the elements of a list part those of its groups
    pub parted_for : IsPartitionedBy (stands first second p q) (flat cs) → IsPartitionedBy (stands first second a b) (flat (chunks_in rows))
    parted_for h =
        subst (λ (ds : List (List X)). IsPartitionedBy (stands first second a b) (flat ds)) (sym seen)
        (subst (λ (n : ℕ). IsPartitionedBy (stands first second n b) (flat cs)) (sym one) (subst (λ (n : ℕ). IsPartitionedBy (stands first second p n) (flat cs)) (sym two) h))

    place_for : (n : ℕ) → n ≡ place_in first second a b (flat (chunks_in rows)) → n ≡ place_in first second p q (flat cs)
    place_for n e =
        e ∙ ap (λ (k : ℕ). place_in first second k b (flat (chunks_in rows))) one ∙ ap (λ (k : ℕ). place_in first second p k (flat (chunks_in rows))) two ∙ ap (λ (ds : List (List X)). place_in first second p q (flat ds)) seen

    -- where an element stands at the place in the list, one stands at it in the groups
    pub inside_for : (n : ℕ) → n ≡ place_in first second a b (flat (chunks_in rows)) → place_in first second p q (flat cs) < length (flat cs) → n < length (flat (chunks_in rows))
    inside_for n e h =
        let long : length (flat (chunks_in rows)) ≡ length (flat cs) = ap (λ (ds : List (List X)). length (flat ds)) seen in
        omega (arith, place_for n e, long, h)

    -- a count that goes up by the elements of the chunk that is touched
    pub count_for : (old new len n : ℕ) → n ≡ place_in first second a b (flat (chunks_in rows)) → len ≡ touched n (chunks_in rows) → new ≡ old + len → new ≡ old + touched (place_in first second p q (flat cs)) cs
    count_for old new len n e t h =
        h ∙ ap (λ (k : ℕ). old + k) (t ∙ ap (λ (k : ℕ). touched k (chunks_in rows)) (place_for n e) ∙ ap (touched (place_in first second p q (flat cs))) seen)

    -- a count that goes up by the elements that are copied or moved where one joins
    pub joining_for : (old new len n : ℕ) → n ≡ place_in first second a b (flat (chunks_in rows)) → len ≡ touched n (chunks_in rows) → new ≡ old + len + moved (len + 1) → new ≡ old + joining (place_in first second p q (flat cs)) cs
    joining_for old new len n e t h =
        let same : len ≡ touched (place_in first second p q (flat cs)) cs = t ∙ ap (λ (k : ℕ). touched k (chunks_in rows)) (place_for n e) ∙ ap (touched (place_in first second p q (flat cs))) seen in
        h ∙ ap (λ (k : ℕ). old + k + moved (k + 1)) same ∙ add_parts old (touched (place_in first second p q (flat cs)) cs) (moved (touched (place_in first second p q (flat cs)) cs + 1))

-- a count of none or of many, said of the many in other words
pub none_or : (many others old new : ℕ) → (new ≡ old + many → new ≡ old + others) → CountsNoneOr many old new → CountsNoneOr others old new
none_or many others old new same (inl none) = inl none
none_or many others old new same (inr counted) = inr (same counted)

-- a count that has gone up by none or by so many is no less than it was
pub none_or_more : (many old new : ℕ) → CountsNoneOr many old new → old ≤ new
none_or_more many old new (inl none) = omega (arith, none)
none_or_more many old new (inr counted) = omega (arith, counted)
