-- What an edit of one block makes of a row: one block among the others, blocks that are filled, and an edit of a block as one of all items.
use Rattle.std.proofs.Common.{◌≡◌, ℕ, zero, suc, ◌+◌, ◌-◌, ◌<◌, ◌≤◌, List, [], ◌∷◌, ◌++◌, length, take, drop, get_or, insert, remove, refl, ap, sym, ◌∙◌, append_assoc, arith}
use Rattle.std.proofs.lemmas.List.Edits.{insert-append_left, insert-append_right, remove-append_left, remove-append_right}
use Rattle.blocks.specs.Rows.{flat, start, AreFilled}

module _ {X : Type 0} where
  -- the items of all blocks are those before one block, its own, and those behind it
  pub flat_at : (k : ℕ) (cs : List (List X)) → flat cs ≡ flat (take k cs) ++ (get_or cs k [] ++ flat (drop (suc k) cs))
  flat_at zero [] = refl
  flat_at zero (c ∷ cs) = refl
  flat_at (suc k) [] = refl
  flat_at (suc k) (c ∷ cs) = ap (λ (x : List X). c ++ x) (flat_at k cs) ∙ sym (append_assoc c (flat (take k cs)) (get_or cs k [] ++ flat (drop (suc k) cs)))

  -- two rows of filled blocks are one such row
  pub filled-append : (a b : List (List X)) → AreFilled a → AreFilled b → AreFilled (a ++ b)
  filled-append [] b s t = t
  filled-append (c ∷ a) b s t = (s.0, filled-append a b s.1 t)

  -- the first of filled blocks are filled
  pub filled-take : (n : ℕ) (cs : List (List X)) → AreFilled cs → AreFilled (take n cs)
  filled-take zero [] s = tt
  filled-take zero (c ∷ cs) s = tt
  filled-take (suc n) [] s = tt
  filled-take (suc n) (c ∷ cs) s = (s.0, filled-take n cs s.1)

  -- those behind the first of filled blocks are filled
  pub filled-drop : (n : ℕ) (cs : List (List X)) → AreFilled cs → AreFilled (drop n cs)
  filled-drop zero [] s = s
  filled-drop zero (c ∷ cs) s = s
  filled-drop (suc n) [] s = tt
  filled-drop (suc n) (c ∷ cs) s = filled-drop n cs s.1

  insert_mid : (a b c : List X) (i : ℕ) (x : X) → i ≤ length b → a ++ insert b i x ++ c ≡ insert (a ++ (b ++ c)) (length a + i) x
  insert_mid a b c i x h =
      let back : length a + i - length a ≡ i = omega arith in
      append_assoc a (insert b i x) c ∙ ap (λ (z : List X). a ++ z) (sym (insert-append_left b c i x h))
      ∙ sym (insert-append_right a (b ++ c) (length a) (length a + i) x refl (omega arith) ∙ ap (λ (k : ℕ). a ++ insert (b ++ c) k x) back)

  remove_mid : (a b c : List X) (i : ℕ) → i < length b → a ++ remove b i ++ c ≡ remove (a ++ (b ++ c)) (length a + i)
  remove_mid a b c i h =
      let back : length a + i - length a ≡ i = omega arith in
      append_assoc a (remove b i) c ∙ ap (λ (z : List X). a ++ z) (sym (remove-append_left b c i h))
      ∙ sym (remove-append_right a (b ++ c) (length a) (length a + i) refl (omega arith) ∙ ap (λ (k : ℕ). a ++ remove (b ++ c) k) back)

  around : (k : ℕ) (cs : List (List X)) (items : List X) → flat (take k cs) ++ items ++ flat (drop (k + 1) cs) ≡ flat (take k cs) ++ items ++ flat (drop (suc k) cs)
  around k cs items = let next : k + 1 ≡ suc k = omega arith in ap (λ (n : ℕ). flat (take k cs) ++ items ++ flat (drop n cs)) next

  -- an item inserted in one block is inserted among all items, at its place there
  pub inserted_is : (k at : ℕ) (cs : List (List X)) (x : X) (old copy items out : List X) → old ≡ get_or cs k [] → copy ≡ old → items ≡ insert copy at x → at ≤ length (get_or cs k [])
      → out ≡ flat (take k cs) ++ items ++ flat (drop (k + 1) cs) → out ≡ insert (flat cs) (start k cs + at) x
  inserted_is k at cs x old copy items out e f g h o =
      let same : items ≡ insert (get_or cs k []) at x = g ∙ ap (λ (l : List X). insert l at x) (f ∙ e) in
      o ∙ ap (λ (l : List X). flat (take k cs) ++ l ++ flat (drop (k + 1) cs)) same ∙ around k cs (insert (get_or cs k []) at x)
      ∙ insert_mid (flat (take k cs)) (get_or cs k []) (flat (drop (suc k) cs)) at x h ∙ ap (λ (l : List X). insert l (start k cs + at) x) (sym (flat_at k cs))

  -- an item removed from one block is removed from all items, at its place there
  pub removed_is : (k at : ℕ) (cs : List (List X)) (old copy items out : List X) → old ≡ get_or cs k [] → copy ≡ old → items ≡ remove copy at → at < length (get_or cs k [])
      → out ≡ flat (take k cs) ++ items ++ flat (drop (k + 1) cs) → out ≡ remove (flat cs) (start k cs + at)
  removed_is k at cs old copy items out e f g h o =
      let same : items ≡ remove (get_or cs k []) at = g ∙ ap (λ (l : List X). remove l at) (f ∙ e) in
      o ∙ ap (λ (l : List X). flat (take k cs) ++ l ++ flat (drop (k + 1) cs)) same ∙ around k cs (remove (get_or cs k []) at)
      ∙ remove_mid (flat (take k cs)) (get_or cs k []) (flat (drop (suc k) cs)) at h ∙ ap (λ (l : List X). remove l (start k cs + at)) (sym (flat_at k cs))
