-- An element exchanged where it stands: in a range of a list, in a chunk, in a chunk of a group.
use Rattle.std.proofs.Common.{◌≡◌, ℕ, zero, suc, ◌+◌, ◌<◌, ◌≤◌, List, [], ◌∷◌, ◌++◌, length, take, drop, get_or, set, refl, ap, sym, subst, ◌∙◌, append_assoc, arith}
use Rattle.std.proofs.Math.Nat.{lt_of_not-le}
use Rattle.std.proofs.Math.Seq.{take-set-lt}
use Rattle.std.proofs.lemmas.List.{append-nil, drop-set-add, get_or-drop, get_or-take, get_or_default, get_or_past, length-set, length-take, set-get_or, set_split}
use Rattle.chunks.specs.Chunks.{flat, start, AreSized}
use Rattle.chunks.specs.Groups.{AreGrouped, IsSpot}
use Rattle.chunks.proofs.Changes.{flat_parts, set_is}
use Rattle.chunks.proofs.Grouped.{behind_is, chunk_is, inside_flat}

module _ {X : Type 0} (n f i : ℕ) (xs seen part : List X) (e : take n (drop f xs) ≡ part) (same : seen ≡ xs) (lt : i < length part) where
  within : i < n
  within = omega (arith, lt, ap length e, length-take n (drop f xs))

  -- to set an element in a list sets it in a range of the list
  pub put_is : (x : X) → take n (drop f (set seen (f + i) x)) ≡ set part i x
  put_is x =
      ap (λ (ys : List X). take n (drop f (set ys (f + i) x))) same ∙ ap (take n) (drop-set-add f xs i x) ∙ take-set-lt n (drop f xs) i x within ∙ ap (λ (ys : List X). set ys i x) e

  found_is : (d : X) → get_or seen (f + i) d ≡ get_or part i d
  found_is d =
      ap (λ (ys : List X). get_or ys (f + i) d) same ∙ sym (get_or-take n (drop f xs) i d within ∙ get_or-drop f xs i d) ∙ ap (λ (ys : List X). get_or ys i d) e

  -- to set an element as it was leaves the range of the list as it was
  pub kept_is : (x was : X) → was ≡ get_or seen (f + i) was → x ≡ was → take n (drop f (set seen (f + i) x)) ≡ part
  kept_is x was found h = put_is x ∙ ap (set part i) (h ∙ found ∙ found_is was) ∙ set-get_or part i was

module _ {X : Type 0} (n f i : ℕ) (xs seen part : List (List X)) (e : take n (drop f xs) ≡ part) (same : seen ≡ xs) (lt : i < length part) where
  chunk_found : (was : List X) → was ≡ get_or seen (f + i) was → was ≡ get_or part i []
  chunk_found was found = found ∙ found_is n f i xs seen part e same lt was ∙ get_or_default part i was [] lt

  -- to set an element in a chunk of a list of chunks sets it in the chunk of a range of that list
  pub put_within : (was new : List X) (at : ℕ) (x : X) → was ≡ get_or seen (f + i) was → new ≡ set was at x → take n (drop f (set seen (f + i) new)) ≡ set part i (set (get_or part i []) at x)
  put_within was new at x found h = put_is n f i xs seen part e same lt new ∙ ap (set part i) (h ∙ ap (λ (c : List X). set c at x) (chunk_found was found))

module _ {X : Type 0} where
  flat_set : (k at : ℕ) (cs : List (List X)) (x : X) → k < length cs → at < length (get_or cs k []) → flat (set cs k (set (get_or cs k []) at x)) ≡ set (flat cs) (start k cs + at) x
  flat_set k at cs x lt h =
      let next : k + 1 ≡ suc k = omega arith in
      let old = get_or cs k [] in
      let new = set old at x in
      let parts : set cs k new ≡ take k cs ++ (new ∷ []) ++ drop (k + 1) cs
      = set_split cs k new lt ∙ sym (append_assoc (take k cs) (new ∷ []) (drop (suc k) cs)) ∙ ap (λ (n : ℕ). take k cs ++ (new ∷ []) ++ drop n cs) (sym next) in
      set_is k at cs x old old new _ refl refl refl h (flat_parts (set cs k new) (take k cs) (new ∷ []) (drop (k + 1) cs) new parts (append-nil new))

  sized_set : (k : ℕ) (cs : List (List X)) (c : List X) → AreSized cs → length c ≡ length (get_or cs k []) → AreSized (set cs k c)
  sized_set k [] c s e = tt
  sized_set zero (d ∷ cs) c s e = (record { low = omega (arith, s.0.low, e); high = omega (arith, s.0.high, e) }, s.1)
  sized_set (suc k) (d ∷ cs) c s e = (s.0, sized_set k cs c s.1 e)

module _ {X : Type 0} (gs : List (List (List X))) (g i at : ℕ) (spot : IsSpot g i gs) (place : at < length (get_or (flat gs) (start g gs + i) [])) where
  group_there : g < length gs
  group_there =
      lt_of_not-le (λ (le : length gs ≤ g).
      let none : length (get_or (flat gs) (start g gs + i) []) ≡ 0 = ap length (get_or_past (flat gs) (start g gs + i) [] (omega (arith, behind_is gs g i le spot.chunk))) in
      omega (arith, place, none))

  number_there : start g gs + i < length (flat gs)
  number_there = inside_flat g i gs group_there (spot.there group_there)

  chunk_same : get_or (flat gs) (start g gs + i) [] ≡ get_or (get_or gs g []) i []
  chunk_same = chunk_is g i gs [] spot.there

  module _ (was : List (List X)) where
    group_same : get_or gs g was ≡ get_or gs g []
    group_same = get_or_default gs g was [] group_there

    -- the place lies in the chunk of the group
    pub place_here : at < length (get_or (get_or gs g was) i [])
    place_here = subst (λ (c : List X). at < length c) (chunk_same ∙ ap (λ (c : List (List X)). get_or c i []) (sym group_same)) place

    module _ (new : List (List X)) (x : X) (put : new ≡ set (get_or gs g was) i (set (get_or (get_or gs g was) i []) at x)) where
      put_here : new ≡ set (get_or gs g []) i (set (get_or (get_or gs g []) i []) at x)
      put_here = put ∙ ap (λ (c : List (List X)). set c i (set (get_or c i []) at x)) group_same

      chunks_put : flat (set gs g new) ≡ set (flat gs) (start g gs + i) (set (get_or (flat gs) (start g gs + i) []) at x)
      chunks_put =
          ap (λ (c : List (List X)). flat (set gs g c)) put_here ∙ flat_set g i gs (set (get_or (get_or gs g []) i []) at x) group_there (spot.there group_there)
          ∙ ap (λ (c : List X). set (flat gs) (start g gs + i) (set c at x)) (sym chunk_same)

      -- an element set in a chunk of a group is set among all elements, at its place there
      pub all_put : flat (flat (set gs g new)) ≡ set (flat (flat gs)) (start (start g gs + i) (flat gs) + at) x
      all_put = ap flat chunks_put ∙ flat_set (start g gs + i) at (flat gs) x number_there place

      -- with an element set in a chunk of a group, groups still have 1 to 256 chunks, and chunks 1 to 256 elements
      pub sized_put : AreGrouped gs → AreGrouped (set gs g new)
      sized_put sized = record {
        groups = sized_set g gs new sized.groups (ap length put_here ∙ length-set (get_or gs g []) i _);
        chunks = subst AreSized (sym chunks_put) (sized_set (start g gs + i) (flat gs) _ sized.chunks (length-set (get_or (flat gs) (start g gs + i) []) at x));
      }
