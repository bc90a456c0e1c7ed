-- Who waits at places, of which some are empty.
use Rattle.std.proofs.Common.{◌≡◌, ℕ, zero, suc, ◌+◌, ◌-◌, ◌≤◌, ◌<◌, false, is_some, List, [], ◌∷◌, ◌++◌, length, take, drop, set, map, remove, Option, None, Some, refl, sym, ◌∙◌, ap, arith}
use Rattle.std.proofs.lemmas.Bool.{true≢false}
use Rattle.std.proofs.lemmas.List.{length-append, length-drop, take_all, take-append-drop, set_split}
use Rattle.std.proofs.lemmas.List.Elements.{filter_map-append}
use Rattle.std.proofs.lemmas.List.Edits.{remove-append_right}
use Rattle.std.proofs.Math.Seq.{drop-cons}
use Rattle.waiting_places.specs.Places.{IsFirst, NonePasses, PlacesView, at_place, rank, waiting}

module _ {X : Type 0} where
  -- who waits at the places of two lists is who waits at those of the first, and then at those of the second
  pub both : (xs ys : List (Option X)) → waiting (xs ++ ys) ≡ waiting xs ++ waiting ys
  both xs ys = filter_map-append (λ (x : Option X). x) xs ys

  -- who is seen at a place of a list waits there
  pub seen : (v w : PlacesView X) (place : ℕ) (x : X) → v ≡ w → Some x ≡ at_place w.places place → at_place v.places place ≡ Some x
  seen v w place x e is = ap (λ (u : PlacesView X). at_place u.places place) e ∙ sym is

  -- one comes, behind those who wait
  pub one_comes : (xs new : List (Option X)) (x : X) → new ≡ xs ++ Some x ∷ [] → waiting new ≡ waiting xs ++ x ∷ []
  one_comes xs new x e = ap waiting e ∙ both xs (Some x ∷ [])

  -- all wait at places of which none is empty
  pub all_wait : (items : List X) → waiting (map (λ item. Some item) items) ≡ items
  all_wait [] = refl
  all_wait (x ∷ xs) = ap (λ ys. x ∷ ys) (all_wait xs)

  -- no more wait than there are places
  pub no_more : (xs : List (Option X)) → length (waiting xs) ≤ length xs
  no_more [] = omega arith
  no_more (None ∷ xs) = omega (arith, no_more xs)
  no_more (Some x ∷ xs) = omega (arith, no_more xs)

  parted : (xs : List (Option X)) (k : ℕ) (x : X) → k < length xs → at_place xs k ≡ Some x → waiting xs ≡ waiting (take k xs) ++ x ∷ waiting (drop (suc k) xs)
  parted xs k x l e = ap waiting (sym (take-append-drop k xs)) ∙ both (take k xs) (drop k xs) ∙ ap (λ ys. waiting (take k xs) ++ waiting ys) (drop-cons xs k None l ∙ ap (λ y. y ∷ drop (suc k) xs) e)

  -- one leaves, and is taken from those who wait, by how many wait before it
  pub one_leaves : (xs : List (Option X)) (k : ℕ) (x : X) → k < length xs → at_place xs k ≡ Some x → waiting (set xs k None) ≡ remove (waiting xs) (rank xs k)
  one_leaves xs k x l e =
      let front = waiting (take k xs) in
      let back = waiting (drop (suc k) xs) in
      let n : rank xs k ≤ rank xs k = omega arith in
      let none : rank xs k - rank xs k ≡ 0 = omega arith in
      ap waiting (set_split xs k None l) ∙ both (take k xs) (None ∷ drop (suc k) xs)
      ∙ sym (ap (λ ys. remove ys (rank xs k)) (parted xs k x l e) ∙ remove-append_right front (x ∷ back) (rank xs k) (rank xs k) refl n ∙ ap (λ m. front ++ remove (x ∷ back) m) none)

  -- one fewer waits once one has left
  pub one_less : (xs : List (Option X)) (k : ℕ) (x : X) → k < length xs → at_place xs k ≡ Some x → length (waiting (set xs k None)) + 1 ≡ length (waiting xs)
  one_less xs k x l e =
      let after = ap length (ap waiting (set_split xs k None l) ∙ both (take k xs) (None ∷ drop (suc k) xs)) in
      let before = ap length (parted xs k x l e) in
      omega (arith, after, before, length-append (waiting (take k xs)) (waiting (drop (suc k) xs)), length-append (waiting (take k xs)) (x ∷ waiting (drop (suc k) xs)))

  pub empty : (o : Option X) → is_some o ≡ false → o ≡ None
  empty None e = refl
  empty (Some x) e = absurd (true≢false e)

  -- nobody waits where no place is taken
  pub nobody : (xs : List (Option X)) → NonePasses is_some xs 0 (length xs) → waiting xs ≡ []
  nobody [] none = refl
  nobody (None ∷ xs) none = nobody xs (λ p l u. none (suc p) (omega arith) (omega arith))
  nobody (Some x ∷ xs) none = absurd (true≢false (none 0 (omega arith) (omega arith)))

  -- the first who waits comes first, and then those behind
  pub first_waits : (xs : List (Option X)) (k : ℕ) (x : X) → IsFirst is_some xs 0 (length xs) (Some k) → at_place xs k ≡ Some x → waiting xs ≡ x ∷ waiting (drop (k + 1) xs)
  first_waits xs k x found e =
      let more : suc k ≡ k + 1 = omega arith in
      parted xs k x found.1 e ∙ ap (λ ys. ys ++ x ∷ waiting (drop (suc k) xs)) (before xs k found.1 (λ p l. found.3 p (omega arith) l)) ∙ ap (λ n. x ∷ waiting (drop n xs)) more
    where
      before : (ys : List (Option X)) (n : ℕ) → n < length ys → ((p : ℕ) → p < n → is_some (at_place ys p) ≡ false) → waiting (take n ys) ≡ []
      before ys zero l none = refl
      before [] (suc n) l none = refl
      before (None ∷ ys) (suc n) l none = before ys n (omega arith) (λ p u. none (suc p) (omega arith))
      before (Some y ∷ ys) (suc n) l none = absurd (true≢false (none 0 (omega arith)))

  -- all places from one on
  pub all_behind : (xs : List (Option X)) (n : ℕ) → take (length xs - n) (drop n xs) ≡ drop n xs
  all_behind xs n = take_all (length xs - n) (drop n xs) (omega (arith, length-drop n xs))
