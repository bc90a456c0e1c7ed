-- The place of the first who waits, where one comes and where one leaves; and those who wait from a place on.
use Rattle.std.proofs.Common.{◌≡◌, ℕ, zero, suc, ◌-◌, ◌≤◌, ◌<◌, is_some, Bool, List, [], ◌∷◌, ◌++◌, length, take, drop, set, slice_get, Option, None, Some, refl, sym, ◌∙◌, ap, arith, ⊎_elim}
use Rattle.std.proofs.lemmas.Bool.{cases_eq, cases_lt}
use Rattle.std.proofs.lemmas.List.{length-append, length-set, get_or-set_same, get_or-set_other, get_or_append_left, get_or_push, take-append-drop}
use Rattle.std.proofs.Math.Seq.{take-append_seam, drop-append_seam}
use Rattle.waiting_places.specs.Offers.{holds}
use Rattle.waiting_places.specs.Places.{IsFirst, IsHead, at_place, found_at, waiting}
use Rattle.waiting_places.proofs.First.{in_second}
use Rattle.waiting_places.proofs.Found.{found_first}
use Rattle.waiting_places.proofs.Standing.{both}

module _ {X : Type 0} where
  some≢none : (x : X) → Some x ≡ None → ⊥
  some≢none x h = cc

  -- who waits from the first on is all who wait, where nobody waits before it
  pub from_head : (xs : List (Option X)) (n : ℕ) → ((p : ℕ) → p < n → at_place xs p ≡ None) → waiting (drop n xs) ≡ waiting xs
  from_head xs zero none = refl
  from_head [] (suc n) none = refl
  from_head (None ∷ xs) (suc n) none = from_head xs n (λ p l. none (suc p) (omega (arith, l)))
  from_head (Some x ∷ xs) (suc n) none = absurd (some≢none x (none 0 (omega arith)))

  parts : (xs : List (Option X)) (p : ℕ) → waiting xs ≡ waiting (take p xs) ++ waiting (drop p xs)
  parts xs p = ap waiting (sym (take-append-drop p xs)) ∙ both (take p xs) (drop p xs)

  counted : (xs : List (Option X)) (p count : ℕ) → length (waiting (drop p xs)) ≡ length (waiting xs) - count → count ≤ length (waiting xs) → length (waiting (take p xs)) ≡ count
  counted xs p count e l =
      let whole = ap length (parts xs p) in
      omega (arith, e, l, whole, length-append (waiting (take p xs)) (waiting (drop p xs)))

  -- those who wait before a place are the first ones, by how many wait from it on
  pub front_is : (xs : List (Option X)) (p count : ℕ) → length (waiting (drop p xs)) ≡ length (waiting xs) - count → count ≤ length (waiting xs) → waiting (take p xs) ≡ take count (waiting xs)
  front_is xs p count e l =
      let front = waiting (take p xs) in
      let back = waiting (drop p xs) in
      sym (ap (take count) (parts xs p) ∙ ap (λ n. take n (front ++ back)) (sym (counted xs p count e l)) ∙ take-append_seam front back)

  -- those who wait from a place on are the last ones, by how many they are
  pub rest_is : (xs : List (Option X)) (p count : ℕ) → length (waiting (drop p xs)) ≡ length (waiting xs) - count → count ≤ length (waiting xs) → waiting (drop p xs) ≡ drop count (waiting xs)
  rest_is xs p count e l =
      let front = waiting (take p xs) in
      let back = waiting (drop p xs) in
      sym (ap (drop count) (parts xs p) ∙ ap (λ n. drop n (front ++ back)) (sym (counted xs p count e l)) ∙ drop-append_seam front back)

module _ {X : Type 0} (places : List (Option X)) (head : ℕ) (kept : IsHead places head) where
  -- who waits first is found at the head
  pub first_of : head < length places → found_at places (Some head) ≡ slice_get (waiting places) 0
  first_of l = found_first places (Some head) (omega arith, l, kept.met l, λ p low before. ap is_some (kept.ahead p before))

  -- nobody waits first where the head is past the last place
  pub none_of : length places ≤ head → None ≡ slice_get (waiting places) 0
  none_of l = found_first places None (λ p low before. ap is_some (kept.ahead p (omega (arith, before, l))))

  pub from_first : (test : X → Bool) (from begin end : ℕ) (r : Option ℕ) → from ≤ begin → ((p : ℕ) → from ≤ p → head ≤ p → begin ≤ p) → IsFirst (holds test) places begin end r → IsFirst (holds test) places from end r
  from_first test from begin end r later on first = in_second (holds test) places from head begin end r on later (λ p low before. ap (holds test) (kept.ahead p before)) first

  -- the head stays where it was when one comes
  pub head_comes : (more : List (Option X)) (x : X) → more ≡ places ++ Some x ∷ [] → IsHead more head
  head_comes more x e =
      let front = kept.front in
      let longer = ap length e ∙ length-append places (Some x ∷ []) in
      let at : (p : ℕ) → p < length places → at_place more p ≡ at_place places p = λ p l. ap (λ (ys : List (Option X)). at_place ys p) e ∙ get_or_append_left places (Some x ∷ []) None p l in
      record {
        front = omega (arith, front, longer);
        ahead = λ p before. at p (omega (arith, before, front)) ∙ kept.ahead p before;
        met = λ there. ⊎_elim
            (λ (l : head < length places). ap is_some (at head l) ∙ kept.met l)
            (λ (g : length places ≤ head).
            let last : length places ≡ head = omega (arith, front, g) in
            ap is_some (ap (λ (ys : List (Option X)). at_place ys head) e ∙ get_or_push places (Some x) None head last))
            (cases_lt head (length places));
      }

  -- nobody waits before the head once one has left
  pub none_ahead : (place p : ℕ) → p < head → at_place (set places place None) p ≡ None
  none_ahead place p before =
      let front = kept.front in
      ⊎_elim
      (λ (at : p ≡ place).
      let there : place < length places = omega (arith, at, before, front) in
      ap (λ (i : ℕ). at_place (set places place None) i) at ∙ get_or-set_same places place None None there)
      (λ (ne : p ≡ place → ⊥). get_or-set_other places place p None None ne ∙ kept.ahead p before)
      (cases_eq p place)

  -- the place of the first is no further than just behind the last place once one has left
  pub within_set : (place : ℕ) → head ≤ length (set places place None)
  within_set place = let front = kept.front in omega (arith, front, length-set {A = Option X} places place None)
