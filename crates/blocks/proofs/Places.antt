-- Where a search over the blocks of a row ends: the blocks that end by an item that passes come first, and the place in the next block
-- gives that in the whole list.
use Rattle.std.proofs.Common.{◌≡◌, ℕ, zero, suc, ◌+◌, ◌-◌, ◌<◌, ◌≤◌, Bool, true, false, not, List, [], ◌∷◌, ◌++◌, length, length-append, take, drop, get_or, refl, ap, sym, subst, ◌∙◌, arith, zero-add}
use Rattle.std.specs.List.{position_or_len}
use Rattle.std.specs.List.Sorted.{IsPartitionedBy}
use Rattle.std.proofs.lemmas.List.{get_or-append-add, get_or_append_left}
use Rattle.std.proofs.lemmas.Option.{slice_get-get_or}
use Rattle.blocks.specs.Rows.{flat, start, ends_by, passes, AreFilled}
use Rattle.blocks.proofs.Changes.{flat_at}

one_more : (k : ℕ) → 1 + k ≡ suc k
one_more k = omega arith

module _ {X : Type 0} (test : X → Bool) where
  -- how many elements pass before the first that doesn't
  abbrev pub place : List X → ℕ
  place xs = position_or_len (λ x. not (test x)) xs

  -- how many blocks end by an element that passes before the first that doesn't
  abbrev pub blocks_before : List (List X) → ℕ
  blocks_before cs = position_or_len (λ c. not (ends_by test c)) cs

  last_at : (c : List X) (e : X) → 1 ≤ length c → ends_by test c ≡ test (get_or c (length c - 1) e)
  last_at c e low = ap (passes test) (slice_get-get_or c (length c - 1) e (omega arith))

  -- a test that parts a list parts the elements from a place on
  pub parted-rest : (c xs : List X) → IsPartitionedBy test (c ++ xs) → IsPartitionedBy test xs
  parted-rest c xs p i j d le lt t =
      let there : test (get_or (c ++ xs) (length c + j) d) ≡ true = ap test (get_or-append-add c xs j d) ∙ t in
      sym (ap test (get_or-append-add c xs i d)) ∙ p (length c + i) (length c + j) d (omega arith) (omega (arith, length-append c xs)) there

  pub parted-front : (c xs : List X) → IsPartitionedBy test (c ++ xs) → IsPartitionedBy test c
  parted-front c xs p i j d le lt t =
      let there : test (get_or (c ++ xs) j d) ≡ true = ap test (get_or_append_left c xs d j lt) ∙ t in
      sym (ap test (get_or_append_left c xs d i (omega arith))) ∙ p i j d le (omega (arith, length-append c xs)) there

  -- a test that parts all items parts those of each block
  pub parted-at : (k : ℕ) (cs : List (List X)) → IsPartitionedBy test (flat cs) → IsPartitionedBy test (get_or cs k [])
  parted-at k cs p =
      let whole : IsPartitionedBy test (flat (take k cs) ++ (get_or cs k [] ++ flat (drop (suc k) cs))) = subst (λ (xs : List X). IsPartitionedBy test xs) (flat_at k cs) p in
      parted-front (get_or cs k []) (flat (drop (suc k) cs)) (parted-rest (flat (take k cs)) (get_or cs k [] ++ flat (drop (suc k) cs)) whole)

  reaches : (cs : List (List X)) (j : ℕ) (d : List X) → AreFilled cs → j < length cs → ends_by test (get_or cs j d) ≡ true → (m : ℕ) × (m < length (flat cs)) × ((e : X) → test (get_or (flat cs) m e) ≡ true)
  reaches [] j d s lt t = absurd (omega arith)
  reaches (c ∷ cs) zero d s lt t =
      let low : 1 ≤ length c = s.0.low in
      (length c - 1, omega (arith, length-append c (flat cs)), λ e. ap test (get_or_append_left c (flat cs) e (length c - 1) (omega arith)) ∙ sym (last_at c e low) ∙ t)
  reaches (c ∷ cs) (suc j) d s lt t =
      let r = reaches cs j d s.1 (omega arith) t in
      (length c + r.0, omega (arith, length-append c (flat cs), r.1), λ e. ap test (get_or-append-add c (flat cs) r.0 e) ∙ r.2 e)

  ends-all : (c : List X) → 1 ≤ length c → ((e : X) → test (get_or c (length c - 1) e) ≡ true) → ends_by test c ≡ true
  ends-all [] low h = absurd (omega arith)
  ends-all (x ∷ c) low h = last_at (x ∷ c) x low ∙ h x

  -- a test that parts all items parts the blocks by their last items
  pub parted-ends : (cs : List (List X)) → AreFilled cs → IsPartitionedBy test (flat cs) → (i j : ℕ) (d : List X) → i ≤ j → j < length cs → ends_by test (get_or cs j d) ≡ true → ends_by test (get_or cs i d) ≡ true
  parted-ends [] s p i j d le lt t = absurd (omega arith)
  parted-ends (c ∷ cs) s p zero zero d le lt t = t
  parted-ends (c ∷ cs) s p zero (suc j) d le lt t =
      let low : 1 ≤ length c = s.0.low in
      let r = reaches cs j d s.1 (omega arith) t in
      ends-all c low (λ e. sym (ap test (get_or_append_left c (flat cs) e (length c - 1) (omega arith)))
      ∙ p (length c - 1) (length c + r.0) e (omega arith) (omega (arith, length-append c (flat cs), r.1)) (ap test (get_or-append-add c (flat cs) r.0 e) ∙ r.2 e))
  parted-ends (c ∷ cs) s p (suc i) zero d le lt t = absurd (omega arith)
  parted-ends (c ∷ cs) s p (suc i) (suc j) d le lt t = parted-ends cs s.1 (parted-rest c (flat cs) p) i j d (omega arith) (omega arith) t

  skip : (c xs : List X) → ((i : ℕ) (e : X) → i < length c → test (get_or c i e) ≡ true) → place (c ++ xs) ≡ length c + place xs
  skip [] xs h = sym (zero-add (place xs))
  skip (x ∷ c) xs h =
      let front : test x ≡ true = h zero x (omega arith) in
      let rest : place (c ++ xs) ≡ length c + place xs = skip c xs (λ i e lt. h (suc i) e (omega arith)) in
      rw front (omega (arith, rest))

  stop : (c xs : List X) (j : ℕ) → j < length c → ((e : X) → test (get_or c j e) ≡ false) → place (c ++ xs) ≡ place c
  stop [] xs j lt h = absurd (omega arith)
  stop (x ∷ c) xs zero lt h = rw (h x) refl
  stop (x ∷ c) xs (suc j) lt h = go (test x) refl (stop c xs j (omega arith) h)
    where
      go : (b : Bool) → test x ≡ b → place (c ++ xs) ≡ place c → place ((x ∷ c) ++ xs) ≡ place (x ∷ c)
      go true t i = rw t (ap (λ (n : ℕ). 1 + n) i)
      go false t i = rw t refl

  pub place_is : (cs : List (List X)) → AreFilled cs → IsPartitionedBy test (flat cs) → start (blocks_before cs) cs + place (get_or cs (blocks_before cs) []) ≡ place (flat cs)
  place_is [] s p = refl
  place_is (c ∷ cs) s p = go (ends_by test c) refl s.0.low (place_is cs s.1 (parted-rest c (flat cs) p))
    where
      go : (b : Bool) → ends_by test c ≡ b → 1 ≤ length c → start (blocks_before cs) cs + place (get_or cs (blocks_before cs) []) ≡ place (flat cs)
          → start (blocks_before (c ∷ cs)) (c ∷ cs) + place (get_or (c ∷ cs) (blocks_before (c ∷ cs)) []) ≡ place (flat (c ∷ cs))
      go true t low i =
          let all : place (c ++ flat cs) ≡ length c + place (flat cs) = skip c (flat cs) (λ k e lt. sym (ap test (get_or_append_left c (flat cs) e k lt))
          ∙ p k (length c - 1) e (omega arith) (omega (arith, length-append c (flat cs))) (ap test (get_or_append_left c (flat cs) e (length c - 1) (omega arith)) ∙ sym (last_at c e low) ∙ t)) in
          rw (t, one_more) (omega (arith, length-append c (flat (take (blocks_before cs) cs)), i, all))
      go false t low i = rw t (zero-add (place c) ∙ sym (stop c (flat cs) (length c - 1) (omega arith) (λ e. sym (last_at c e low) ∙ t)))

  -- the place in the first block that doesn't end by an item that passes gives the place among all items
  pub place_by : (cs : List (List X)) (k at : ℕ) (found : List X) → AreFilled cs → IsPartitionedBy test (flat cs) → k ≡ blocks_before cs → found ≡ get_or cs k [] → at ≡ place found → start k cs + at ≡ place (flat cs)
  place_by cs k at found s p e f h =
      ap (λ (n : ℕ). start k cs + n) (h ∙ ap place f) ∙ ap (λ (n : ℕ). start n cs + place (get_or cs n [])) e ∙ place_is cs s p

  stop_at : (c : List X) (j : ℕ) → j < length c → ((e : X) → test (get_or c j e) ≡ false) → place c ≤ j
  stop_at [] j lt h = absurd (omega arith)
  stop_at (x ∷ xs) zero lt h = rw (h x) (omega arith)
  stop_at (x ∷ xs) (suc j) lt h = go (test x) refl (stop_at xs j (omega arith) h)
    where
      go : (b : Bool) → test x ≡ b → place xs ≤ j → place (x ∷ xs) ≤ suc j
      go true t i = rw t (omega (arith, i))
      go false t i = rw t (omega arith)

  there_is : (cs : List (List X)) → AreFilled cs → blocks_before cs < length cs → place (get_or cs (blocks_before cs) []) < length (get_or cs (blocks_before cs) [])
  there_is [] s h = absurd (omega (arith, h))
  there_is (c ∷ cs) s h = go (ends_by test c) refl s.0.low (there_is cs s.1) h
    where
      go : (b : Bool) → ends_by test c ≡ b → 1 ≤ length c → (blocks_before cs < length cs → place (get_or cs (blocks_before cs) []) < length (get_or cs (blocks_before cs) []))
          → blocks_before (c ∷ cs) < length (c ∷ cs) → place (get_or (c ∷ cs) (blocks_before (c ∷ cs)) []) < length (get_or (c ∷ cs) (blocks_before (c ∷ cs)) [])
      go true t low i h =
          let k = rw (t, one_more) at h in
          rw (t, one_more) (i (omega (arith, k)))
      go false t low i h =
          let le : place c ≤ length c - 1 = stop_at c (length c - 1) (omega arith) (λ e. sym (last_at c e low) ∙ t) in
          let lt : place c < length c = omega (arith, le, low) in
          rw t lt

  -- the place lies in that block where that block is there
  pub there_by : (cs : List (List X)) (k at : ℕ) (found : List X) → AreFilled cs → k ≡ blocks_before cs → found ≡ get_or cs k [] → at ≡ place found → k < length cs → at < length (get_or cs k [])
  there_by cs k at found s e f h =
      let first = subst (λ (n : ℕ). n < length cs → place (get_or cs n []) < length (get_or cs n [])) (sym e) (there_is cs s) in
      subst (λ (n : ℕ). k < length cs → n < length (get_or cs k [])) (sym (h ∙ ap place f)) first
