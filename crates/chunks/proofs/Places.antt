-- Where a search over the chunks of a row ends: the chunks that end by an element that passes come first, and the place in the next chunk
-- gives that in the whole list. Also how many elements the chunk has that a place touches.
use Rattle.std.proofs.Common.{◌≡◌, ℕ, zero, suc, ◌+◌, ◌-◌, ◌<◌, ◌≤◌, Bool, true, false, not, nat_lt, if◌then◌else◌, List, [], ◌∷◌, ◌++◌, length, length-append, take, drop, get_or, refl, ap, sym, subst, ◌∙◌, arith, zero-add}
use Rattle.std.specs.List.{position_or_len}
use Rattle.std.specs.List.Sorted.{IsPartitionedBy, IsPartitionPoint}
use Rattle.std.proofs.lemmas.Bool.Decides.{nat_tests}
use Rattle.std.proofs.lemmas.List.{get_or-append-add, get_or_append_left, get_or_past}
use Rattle.std.proofs.lemmas.List.Sums.{position_or_len_is}
use Rattle.std.proofs.lemmas.Option.{slice_get-get_or}
use Rattle.chunks.specs.Chunks.{flat, start, ends_by, passes, touched, joining, AreSized}
use Rattle.chunks.proofs.Changes.{flat_at}

one_more : (k : ℕ) → 1 + k ≡ suc k
one_more k = omega arith

module _ {X : Type 0} (test : X → Bool) where
  -- how many elements pass before the first that doesn't
  abbrev pub place : List X → ℕ
  place xs = position_or_len (λ x. not (test x)) xs

  -- how many chunks end by an element that passes before the first that doesn't
  abbrev pub chunks_before : List (List X) → ℕ
  chunks_before cs = position_or_len (λ c. not (ends_by test c)) cs

  last_at : (c : List X) (e : X) → 1 ≤ length c → ends_by test c ≡ test (get_or c (length c - 1) e)
  last_at c e low = ap (passes test) (slice_get-get_or c (length c - 1) e (omega arith))

  -- a test that parts a list parts the elements from a place on
  pub parted-rest : (c xs : List X) → IsPartitionedBy test (c ++ xs) → IsPartitionedBy test xs
  parted-rest c xs p i j d le lt t =
      let there : test (get_or (c ++ xs) (length c + j) d) ≡ true = ap test (get_or-append-add c xs j d) ∙ t in
      sym (ap test (get_or-append-add c xs i d)) ∙ p (length c + i) (length c + j) d (omega arith) (omega (arith, length-append c xs)) there

  -- a test that parts a list parts those before a place
  pub parted-front : (c xs : List X) → IsPartitionedBy test (c ++ xs) → IsPartitionedBy test c
  parted-front c xs p i j d le lt t =
      let there : test (get_or (c ++ xs) j d) ≡ true = ap test (get_or_append_left c xs d j lt) ∙ t in
      sym (ap test (get_or_append_left c xs d i (omega arith))) ∙ p i j d le (omega (arith, length-append c xs)) there

  -- a test that parts all elements parts those of each chunk
  pub parted-at : (k : ℕ) (cs : List (List X)) → IsPartitionedBy test (flat cs) → IsPartitionedBy test (get_or cs k [])
  parted-at k cs p =
      let whole : IsPartitionedBy test (flat (take k cs) ++ (get_or cs k [] ++ flat (drop (suc k) cs))) = subst (λ (xs : List X). IsPartitionedBy test xs) (flat_at k cs) p in
      parted-front (get_or cs k []) (flat (drop (suc k) cs)) (parted-rest (flat (take k cs)) (get_or cs k [] ++ flat (drop (suc k) cs)) whole)

  reaches : (cs : List (List X)) (j : ℕ) (d : List X) → AreSized cs → j < length cs → ends_by test (get_or cs j d) ≡ true → (m : ℕ) × (m < length (flat cs)) × ((e : X) → test (get_or (flat cs) m e) ≡ true)
  reaches [] j d s lt t = absurd (omega arith)
  reaches (c ∷ cs) zero d s lt t =
      let low : 1 ≤ length c = s.0.low in
      (length c - 1, omega (arith, length-append c (flat cs)), λ e. ap test (get_or_append_left c (flat cs) e (length c - 1) (omega arith)) ∙ sym (last_at c e low) ∙ t)
  reaches (c ∷ cs) (suc j) d s lt t =
      let r = reaches cs j d s.1 (omega arith) t in
      (length c + r.0, omega (arith, length-append c (flat cs), r.1), λ e. ap test (get_or-append-add c (flat cs) r.0 e) ∙ r.2 e)

  ends-all : (c : List X) → 1 ≤ length c → ((e : X) → test (get_or c (length c - 1) e) ≡ true) → ends_by test c ≡ true
  ends-all [] low h = absurd (omega arith)
  ends-all (x ∷ c) low h = last_at (x ∷ c) x low ∙ h x

  -- a test that parts all elements parts the chunks by their last elements
  pub parted-ends : (cs : List (List X)) → AreSized cs → IsPartitionedBy test (flat cs) → (i j : ℕ) (d : List X) → i ≤ j → j < length cs → ends_by test (get_or cs j d) ≡ true → ends_by test (get_or cs i d) ≡ true
  parted-ends [] s p i j d le lt t = absurd (omega arith)
  parted-ends (c ∷ cs) s p zero zero d le lt t = t
  parted-ends (c ∷ cs) s p zero (suc j) d le lt t =
      let low : 1 ≤ length c = s.0.low in
      let r = reaches cs j d s.1 (omega arith) t in
      ends-all c low (λ e. sym (ap test (get_or_append_left c (flat cs) e (length c - 1) (omega arith)))
      ∙ p (length c - 1) (length c + r.0) e (omega arith) (omega (arith, length-append c (flat cs), r.1)) (ap test (get_or-append-add c (flat cs) r.0 e) ∙ r.2 e))
  parted-ends (c ∷ cs) s p (suc i) zero d le lt t = absurd (omega arith)
  parted-ends (c ∷ cs) s p (suc i) (suc j) d le lt t = parted-ends cs s.1 (parted-rest c (flat cs) p) i j d (omega arith) (omega arith) t

  skip : (c xs : List X) → ((i : ℕ) (e : X) → i < length c → test (get_or c i e) ≡ true) → place (c ++ xs) ≡ length c + place xs
  skip [] xs h = sym (zero-add (place xs))
  skip (x ∷ c) xs h =
      let front : test x ≡ true = h zero x (omega arith) in
      let rest : place (c ++ xs) ≡ length c + place xs = skip c xs (λ i e lt. h (suc i) e (omega arith)) in
      rw front (omega (arith, rest))

  stop : (c xs : List X) (j : ℕ) → j < length c → ((e : X) → test (get_or c j e) ≡ false) → place (c ++ xs) ≡ place c
  stop [] xs j lt h = absurd (omega arith)
  stop (x ∷ c) xs zero lt h = rw (h x) refl
  stop (x ∷ c) xs (suc j) lt h = go (test x) refl (stop c xs j (omega arith) h)
    where
      go : (b : Bool) → test x ≡ b → place (c ++ xs) ≡ place c → place ((x ∷ c) ++ xs) ≡ place (x ∷ c)
      go true t i = rw t (ap (λ (n : ℕ). 1 + n) i)
      go false t i = rw t refl

  pub place_is : (cs : List (List X)) → AreSized cs → IsPartitionedBy test (flat cs) → start (chunks_before cs) cs + place (get_or cs (chunks_before cs) []) ≡ place (flat cs)
  place_is [] s p = refl
  place_is (c ∷ cs) s p = go (ends_by test c) refl s.0.low (place_is cs s.1 (parted-rest c (flat cs) p))
    where
      go : (b : Bool) → ends_by test c ≡ b → 1 ≤ length c → start (chunks_before cs) cs + place (get_or cs (chunks_before cs) []) ≡ place (flat cs)
          → start (chunks_before (c ∷ cs)) (c ∷ cs) + place (get_or (c ∷ cs) (chunks_before (c ∷ cs)) []) ≡ place (flat (c ∷ cs))
      go true t low i =
          let all : place (c ++ flat cs) ≡ length c + place (flat cs) = skip c (flat cs) (λ k e lt. sym (ap test (get_or_append_left c (flat cs) e k lt))
          ∙ p k (length c - 1) e (omega arith) (omega (arith, length-append c (flat cs))) (ap test (get_or_append_left c (flat cs) e (length c - 1) (omega arith)) ∙ sym (last_at c e low) ∙ t)) in
          rw (t, one_more) (omega (arith, length-append c (flat (take (chunks_before cs) cs)), i, all))
      go false t low i = rw t (zero-add (place c) ∙ sym (stop c (flat cs) (length c - 1) (omega arith) (λ e. sym (last_at c e low) ∙ t)))

  -- the place in the first chunk that doesn't end by an element that passes gives the place among all elements
  pub place_by : (cs : List (List X)) (k at : ℕ) (found : List X) → AreSized cs → IsPartitionedBy test (flat cs) → k ≡ chunks_before cs → found ≡ get_or cs k [] → at ≡ place found → start k cs + at ≡ place (flat cs)
  place_by cs k at found s p e f h =
      ap (λ (n : ℕ). start k cs + n) (h ∙ ap place f) ∙ ap (λ (n : ℕ). start n cs + place (get_or cs n [])) e ∙ place_is cs s p

  stop_at : (c : List X) (j : ℕ) → j < length c → ((e : X) → test (get_or c j e) ≡ false) → place c ≤ j
  stop_at [] j lt h = absurd (omega arith)
  stop_at (x ∷ xs) zero lt h = rw (h x) (omega arith)
  stop_at (x ∷ xs) (suc j) lt h = go (test x) refl (stop_at xs j (omega arith) h)
    where
      go : (b : Bool) → test x ≡ b → place xs ≤ j → place (x ∷ xs) ≤ suc j
      go true t i = rw t (omega (arith, i))
      go false t i = rw t (omega arith)

  inside_is : (cs : List (List X)) → AreSized cs → start (chunks_before cs) cs + place (get_or cs (chunks_before cs) []) < length (flat cs) → place (get_or cs (chunks_before cs) []) < length (get_or cs (chunks_before cs) [])
  inside_is [] s h = absurd (omega (arith, h))
  inside_is (c ∷ cs) s h = go (ends_by test c) refl s.0.low (inside_is cs s.1) h
    where
      go : (b : Bool) → ends_by test c ≡ b → 1 ≤ length c → (start (chunks_before cs) cs + place (get_or cs (chunks_before cs) []) < length (flat cs) → place (get_or cs (chunks_before cs) []) < length (get_or cs (chunks_before cs) []))
          → start (chunks_before (c ∷ cs)) (c ∷ cs) + place (get_or (c ∷ cs) (chunks_before (c ∷ cs)) []) < length (flat (c ∷ cs)) → place (get_or (c ∷ cs) (chunks_before (c ∷ cs)) []) < length (get_or (c ∷ cs) (chunks_before (c ∷ cs)) [])
      go true t low i h =
          let k = rw (t, one_more) at h in
          rw (t, one_more) (i (omega (arith, length-append c (flat (take (chunks_before cs) cs)), length-append c (flat cs), k)))
      go false t low i h =
          let le : place c ≤ length c - 1 = stop_at c (length c - 1) (omega arith) (λ e. sym (last_at c e low) ∙ t) in
          let lt : place c < length c = omega (arith, le, low) in
          rw t lt

  -- the place lies in that chunk, where an element stands at it
  pub inside_by : (cs : List (List X)) (k at : ℕ) (found : List X) → AreSized cs → k ≡ chunks_before cs → found ≡ get_or cs k [] → at ≡ place found → start k cs + at < length (flat cs) → at < length (get_or cs k [])
  inside_by cs k at found s e f h =
      let first = subst (λ (n : ℕ). start n cs + place (get_or cs n []) < length (flat cs) → place (get_or cs n []) < length (get_or cs n [])) (sym e) (inside_is cs s) in
      subst (λ (n : ℕ). start k cs + n < length (flat cs) → n < length (get_or cs k [])) (sym (h ∙ ap place f)) first

  there_is : (cs : List (List X)) → AreSized cs → chunks_before cs < length cs → place (get_or cs (chunks_before cs) []) < length (get_or cs (chunks_before cs) [])
  there_is [] s h = absurd (omega (arith, h))
  there_is (c ∷ cs) s h = go (ends_by test c) refl s.0.low (there_is cs s.1) h
    where
      go : (b : Bool) → ends_by test c ≡ b → 1 ≤ length c → (chunks_before cs < length cs → place (get_or cs (chunks_before cs) []) < length (get_or cs (chunks_before cs) []))
          → chunks_before (c ∷ cs) < length (c ∷ cs) → place (get_or (c ∷ cs) (chunks_before (c ∷ cs)) []) < length (get_or (c ∷ cs) (chunks_before (c ∷ cs)) [])
      go true t low i h =
          let k = rw (t, one_more) at h in
          rw (t, one_more) (i (omega (arith, k)))
      go false t low i h =
          let le : place c ≤ length c - 1 = stop_at c (length c - 1) (omega arith) (λ e. sym (last_at c e low) ∙ t) in
          let lt : place c < length c = omega (arith, le, low) in
          rw t lt

  -- the place lies in that chunk where that chunk is there
  pub there_by : (cs : List (List X)) (k at : ℕ) (found : List X) → AreSized cs → k ≡ chunks_before cs → found ≡ get_or cs k [] → at ≡ place found → k < length cs → at < length (get_or cs k [])
  there_by cs k at found s e f h =
      let first = subst (λ (n : ℕ). n < length cs → place (get_or cs n []) < length (get_or cs n [])) (sym e) (there_is cs s) in
      subst (λ (n : ℕ). k < length cs → n < length (get_or cs k [])) (sym (h ∙ ap place f)) first

  -- a place before which all pass, and from which on none does, is how many pass
  pub placed_at : (xs : List X) (i : ℕ) → i ≤ length xs → IsPartitionPoint (λ x. test x ≡ true) (λ x. test x ≡ false) xs i → i ≡ place xs
  placed_at [] i le h = omega arith
  placed_at (x ∷ xs) i le h = sym (position_or_len_is (λ y. not (test y)) (x ∷ xs) i x le (λ k lt. ap not (h.0 k x (omega arith) lt)) (λ lt. ap not (h.1 i x (omega arith) lt)))

module _ {X : Type 0} where
  -- the chunks up to one have its elements and those before
  pub start_more : (k : ℕ) (cs : List (List X)) → k < length cs → start (suc k) cs ≡ start k cs + length (get_or cs k [])
  start_more k [] h = absurd (omega arith)
  start_more zero (c ∷ []) h = omega (arith, length-append c [])
  start_more zero (c ∷ d ∷ cs) h = omega (arith, length-append c [])
  start_more (suc k) (c ∷ cs) h =
      let i : start (suc k) cs ≡ start k cs + length (get_or cs k []) = start_more k cs (omega arith) in
      omega (arith, i, length-append c (flat (take k cs)), length-append c (flat (take (suc k) cs)))

  pub open_end : (k at last : ℕ) (cs : List (List X)) → k ≡ length cs → last + 1 ≡ k → at ≤ length (get_or cs k []) → start last cs + length (get_or cs last []) ≡ start k cs + at
  open_end k at last cs whole next within =
      let past : length (get_or cs k []) ≡ 0 = ap length (get_or_past cs k [] (omega arith)) in
      let step : suc last ≡ k = omega arith in
      let more : start (suc last) cs ≡ start last cs + length (get_or cs last []) = start_more last cs (omega arith) in
      let same : start (suc last) cs ≡ start k cs = ap (λ (n : ℕ). start n cs) step in
      omega (arith, past, more, same)

  -- a place in a chunk behind another is one behind the elements of that one
  pub first_of : (k at : ℕ) (c : List X) (cs : List (List X)) → start (suc k) (c ∷ cs) + at ≡ length c + (start k cs + at)
  first_of k at c cs = omega (arith, length-append c (flat (take k cs)))

  -- a place in a chunk touches that chunk
  pub touched_at : (k at : ℕ) (cs : List (List X)) → at < length (get_or cs k []) → length (get_or cs k []) ≡ touched (start k cs + at) cs
  touched_at k at [] h = absurd (omega (arith, h))
  touched_at zero at (c ∷ []) h = refl
  touched_at (suc k) at (c ∷ []) h = absurd (omega (arith, h))
  touched_at zero at (c ∷ d ∷ cs) h =
      let inside : nat_lt (0 + at) (length c) ≡ true = grind (arith, nat_tests, h) in
      rw inside refl
  touched_at (suc k) at (c ∷ d ∷ cs) h =
      let behind : nat_lt (start (suc k) (c ∷ d ∷ cs) + at) (length c) ≡ false = rw (first_of k at c (d ∷ cs)) (grind (arith, nat_tests)) in
      let less : start (suc k) (c ∷ d ∷ cs) + at - length c ≡ start k (d ∷ cs) + at = omega (arith, first_of k at c (d ∷ cs)) in
      rw (behind, less) (touched_at k at (d ∷ cs) h)

  pub touched_end : (k : ℕ) (cs : List (List X)) → k + 1 ≡ length cs → length (get_or cs k []) ≡ touched (start k cs + length (get_or cs k [])) cs
  touched_end k [] h = absurd (omega (arith, h))
  touched_end zero (c ∷ []) h = refl
  touched_end (suc k) (c ∷ []) h = absurd (omega (arith, h))
  touched_end zero (c ∷ d ∷ cs) h = absurd (omega (arith, h))
  touched_end (suc k) (c ∷ d ∷ cs) h =
      let last = get_or (d ∷ cs) k [] in
      let behind : nat_lt (start (suc k) (c ∷ d ∷ cs) + length last) (length c) ≡ false = rw (first_of k (length last) c (d ∷ cs)) (grind (arith, nat_tests)) in
      let less : start (suc k) (c ∷ d ∷ cs) + length last - length c ≡ start k (d ∷ cs) + length last = omega (arith, first_of k (length last) c (d ∷ cs)) in
      rw (behind, less) (touched_end k (d ∷ cs) (omega (arith, h)))

  -- a place past the last chunk touches the last chunk
  pub touched_last : (k at last : ℕ) (cs : List (List X)) → k ≡ length cs → last + 1 ≡ k → at ≤ length (get_or cs k []) → length (get_or cs last []) ≡ touched (start k cs + at) cs
  touched_last k at last cs whole next within =
      touched_end last cs (next ∙ whole) ∙ ap (λ (p : ℕ). touched p cs) (open_end k at last cs whole next within)

  -- where there are no chunks, none is touched
  pub touched_none : (k p : ℕ) (cs : List (List X)) → length cs ≡ 0 → length (get_or cs k []) ≡ touched p cs
  touched_none k p [] h = refl
  touched_none k p (c ∷ cs) h = absurd (omega (arith, h))

  pub touched_some : (p : ℕ) (cs : List (List X)) → AreSized cs → 1 ≤ length (flat cs) → 1 ≤ touched p cs
  touched_some p [] s h = absurd (omega (arith, h))
  touched_some p (c ∷ []) s h = s.0.low
  touched_some p (c ∷ d ∷ cs) s h = go (nat_lt p (length c)) (touched_some (p - length c) (d ∷ cs) s.1)
    where
      go : (b : Bool) → (1 ≤ length (flat (d ∷ cs)) → 1 ≤ touched (p - length c) (d ∷ cs)) → 1 ≤ (if b then length c else touched (p - length c) (d ∷ cs))
      go true i = s.0.low
      go false i = i (omega (arith, length-append d (flat cs), s.1.0.low))

  -- some elements are copied or moved where one joins a list that has some
  pub joining_some : (p old new : ℕ) (cs : List (List X)) → AreSized cs → 1 ≤ length (flat cs) → new ≡ old + joining p cs → old < new
  joining_some p old new cs s h e = omega (arith, touched_some p cs s h, e)
