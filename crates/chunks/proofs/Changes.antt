-- What an edit of one chunk makes of a row: one chunk among the others, the sizes of chunks, and an edit of a chunk as one of all elements.
use Rattle.std.proofs.Common.{◌≡◌, ℕ, zero, suc, ◌+◌, ◌-◌, ◌<◌, ◌≤◌, List, [], ◌∷◌, ◌++◌, length, take, drop, get_or, set, insert, remove, refl, ap, sym, subst, ◌∙◌, append_assoc, arith, take-append-drop}
use Rattle.std.proofs.lemmas.List.{append-nil, set-append_left, set-append_right}
use Rattle.std.proofs.lemmas.List.Concat.{flat_map-append}
use Rattle.std.proofs.lemmas.List.Edits.{insert-append_left, insert-append_right, remove-append_left, remove-append_right}
use Rattle.chunks.specs.Chunks.{flat, start, AreSized}

module _ {X : Type 0} where
  -- the elements of all chunks are those before one chunk, its own, and those behind it
  pub flat_at : (k : ℕ) (cs : List (List X)) → flat cs ≡ flat (take k cs) ++ (get_or cs k [] ++ flat (drop (suc k) cs))
  flat_at zero [] = refl
  flat_at zero (c ∷ cs) = refl
  flat_at (suc k) [] = refl
  flat_at (suc k) (c ∷ cs) = ap (λ (x : List X). c ++ x) (flat_at k cs) ∙ sym (append_assoc c (flat (take k cs)) (get_or cs k [] ++ flat (drop (suc k) cs)))

  -- a row with these chunks between a front and a back has the elements of the front, those of the chunks, and those of the back
  pub flat_parts : (new front pieces back : List (List X)) (items : List X) → new ≡ front ++ pieces ++ back → flat pieces ≡ items → flat new ≡ flat front ++ items ++ flat back
  flat_parts new front pieces back items e f =
      ap flat e ∙ flat_map-append (λ (c : List X). c) (front ++ pieces) back
      ∙ ap (λ (x : List X). x ++ flat back) (flat_map-append (λ (c : List X). c) front pieces ∙ ap (λ (x : List X). flat front ++ x) f)

  -- a row with other chunks around some of its own
  pub around_is : (new front mid tail pieces back : List (List X)) → new ≡ front ++ mid ++ tail → mid ≡ pieces → tail ≡ back → new ≡ front ++ pieces ++ back
  around_is new front mid tail pieces back e f g = e ∙ ap (λ (r : List (List X)). front ++ mid ++ r) g ∙ ap (λ (r : List (List X)). front ++ r ++ back) f

  -- a row of two chunks, cut from a list at one place, has the elements of the list
  pub flat_two : (none one two : List (List X)) (a b items : List X) (n : ℕ) → none ≡ [] → one ≡ none ++ a ∷ [] → two ≡ one ++ b ∷ [] → a ≡ take n items → b ≡ drop n items → flat two ≡ items
  flat_two none one two a b items n e f g h k =
      let all : two ≡ a ∷ b ∷ [] = g ∙ ap (λ (r : List (List X)). r ++ b ∷ []) (f ∙ ap (λ (r : List (List X)). r ++ a ∷ []) e) in
      ap flat all ∙ ap (λ (x : List X). a ++ x) (append-nil b) ∙ ap (λ (x : List X). x ++ b) h ∙ ap (λ (x : List X). take n items ++ x) k ∙ take-append-drop n items

  -- the chunks of two rows have 1 to 256 elements where those of each row do
  pub sized-append : (a b : List (List X)) → AreSized a → AreSized b → AreSized (a ++ b)
  sized-append [] b s t = t
  sized-append (c ∷ a) b s t = (s.0, sized-append a b s.1 t)

  sized-take : (n : ℕ) (cs : List (List X)) → AreSized cs → AreSized (take n cs)
  sized-take zero [] s = tt
  sized-take zero (c ∷ cs) s = tt
  sized-take (suc n) [] s = tt
  sized-take (suc n) (c ∷ cs) s = (s.0, sized-take n cs s.1)

  -- the chunks behind the first ones have 1 to 256 elements where all chunks do
  pub sized-drop : (n : ℕ) (cs : List (List X)) → AreSized cs → AreSized (drop n cs)
  sized-drop zero [] s = s
  sized-drop zero (c ∷ cs) s = s
  sized-drop (suc n) [] s = tt
  sized-drop (suc n) (c ∷ cs) s = sized-drop n cs s.1

  -- a chunk has at most 256 elements where all chunks have 1 to 256
  pub sized-at : (k : ℕ) (cs : List (List X)) → AreSized cs → length (get_or cs k []) ≤ 256
  sized-at k [] s = omega arith
  sized-at zero (c ∷ cs) s = s.0.high
  sized-at (suc k) (c ∷ cs) s = sized-at k cs s.1

  -- a chunk that is there has at least one element where all chunks have 1 to 256
  pub some_at : (k : ℕ) (cs : List (List X)) → AreSized cs → k < length cs → 1 ≤ length (get_or cs k [])
  some_at k [] s lt = absurd (omega (arith, lt))
  some_at zero (c ∷ cs) s lt = s.0.low
  some_at (suc k) (c ∷ cs) s lt = some_at k cs s.1 (omega (arith, lt))

  -- chunks have 1 to 256 elements still where others that have stand for some of them
  pub sized_parts : (new cs pieces : List (List X)) (k n : ℕ) → new ≡ take k cs ++ pieces ++ drop n cs → AreSized cs → AreSized pieces → AreSized new
  sized_parts new cs pieces k n e s t =
      subst AreSized (sym e) (sized-append (take k cs ++ pieces) (drop n cs) (sized-append (take k cs) pieces (sized-take k cs s) t) (sized-drop n cs s))

  insert_mid : (a b c : List X) (i : ℕ) (x : X) → i ≤ length b → a ++ insert b i x ++ c ≡ insert (a ++ (b ++ c)) (length a + i) x
  insert_mid a b c i x h =
      let back : length a + i - length a ≡ i = omega arith in
      append_assoc a (insert b i x) c ∙ ap (λ (z : List X). a ++ z) (sym (insert-append_left b c i x h))
      ∙ sym (insert-append_right a (b ++ c) (length a) (length a + i) x refl (omega arith) ∙ ap (λ (k : ℕ). a ++ insert (b ++ c) k x) back)

  remove_mid : (a b c : List X) (i : ℕ) → i < length b → a ++ remove b i ++ c ≡ remove (a ++ (b ++ c)) (length a + i)
  remove_mid a b c i h =
      let back : length a + i - length a ≡ i = omega arith in
      append_assoc a (remove b i) c ∙ ap (λ (z : List X). a ++ z) (sym (remove-append_left b c i h))
      ∙ sym (remove-append_right a (b ++ c) (length a) (length a + i) refl (omega arith) ∙ ap (λ (k : ℕ). a ++ remove (b ++ c) k) back)

  set_mid : (a b c : List X) (i : ℕ) (x : X) → i < length b → a ++ set b i x ++ c ≡ set (a ++ (b ++ c)) (length a + i) x
  set_mid a b c i x h =
      let back : length a + i - length a ≡ i = omega arith in
      append_assoc a (set b i x) c ∙ ap (λ (z : List X). a ++ z) (sym (set-append_left b c i x h))
      ∙ sym (set-append_right a (b ++ c) (length a) (length a + i) x refl (omega arith) ∙ ap (λ (k : ℕ). a ++ set (b ++ c) k x) back)

  around : (k : ℕ) (cs : List (List X)) (items : List X) → flat (take k cs) ++ items ++ flat (drop (k + 1) cs) ≡ flat (take k cs) ++ items ++ flat (drop (suc k) cs)
  around k cs items = let next : k + 1 ≡ suc k = omega arith in ap (λ (n : ℕ). flat (take k cs) ++ items ++ flat (drop n cs)) next

  -- an element inserted in one chunk is inserted among all elements, at its place there
  pub inserted_is : (k at : ℕ) (cs : List (List X)) (x : X) (old copy items out : List X) → old ≡ get_or cs k [] → copy ≡ old → items ≡ insert copy at x → at ≤ length (get_or cs k [])
      → out ≡ flat (take k cs) ++ items ++ flat (drop (k + 1) cs) → out ≡ insert (flat cs) (start k cs + at) x
  inserted_is k at cs x old copy items out e f g h o =
      let same : items ≡ insert (get_or cs k []) at x = g ∙ ap (λ (l : List X). insert l at x) (f ∙ e) in
      o ∙ ap (λ (l : List X). flat (take k cs) ++ l ++ flat (drop (k + 1) cs)) same ∙ around k cs (insert (get_or cs k []) at x)
      ∙ insert_mid (flat (take k cs)) (get_or cs k []) (flat (drop (suc k) cs)) at x h ∙ ap (λ (l : List X). insert l (start k cs + at) x) (sym (flat_at k cs))

  -- an element removed from one chunk is removed from all elements, at its place there
  pub removed_is : (k at : ℕ) (cs : List (List X)) (old copy items out : List X) → old ≡ get_or cs k [] → copy ≡ old → items ≡ remove copy at → at < length (get_or cs k [])
      → out ≡ flat (take k cs) ++ items ++ flat (drop (k + 1) cs) → out ≡ remove (flat cs) (start k cs + at)
  removed_is k at cs old copy items out e f g h o =
      let same : items ≡ remove (get_or cs k []) at = g ∙ ap (λ (l : List X). remove l at) (f ∙ e) in
      o ∙ ap (λ (l : List X). flat (take k cs) ++ l ++ flat (drop (k + 1) cs)) same ∙ around k cs (remove (get_or cs k []) at)
      ∙ remove_mid (flat (take k cs)) (get_or cs k []) (flat (drop (suc k) cs)) at h ∙ ap (λ (l : List X). remove l (start k cs + at)) (sym (flat_at k cs))

  -- an element set in one chunk is set among all elements, at its place there
  pub set_is : (k at : ℕ) (cs : List (List X)) (x : X) (old copy items out : List X) → old ≡ get_or cs k [] → copy ≡ old → items ≡ set copy at x → at < length (get_or cs k [])
      → out ≡ flat (take k cs) ++ items ++ flat (drop (k + 1) cs) → out ≡ set (flat cs) (start k cs + at) x
  set_is k at cs x old copy items out e f g h o =
      let same : items ≡ set (get_or cs k []) at x = g ∙ ap (λ (l : List X). set l at x) (f ∙ e) in
      o ∙ ap (λ (l : List X). flat (take k cs) ++ l ++ flat (drop (k + 1) cs)) same ∙ around k cs (set (get_or cs k []) at x)
      ∙ set_mid (flat (take k cs)) (get_or cs k []) (flat (drop (suc k) cs)) at x h ∙ ap (λ (l : List X). set l (start k cs + at) x) (sym (flat_at k cs))
