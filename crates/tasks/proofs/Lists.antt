-- What is found in a list, by its place, and the rest of a mapped list.
use Rattle.std.proofs.Common.{◌≡◌, ℕ, ◌<◌, length, List, [], ◌∷◌, map, drop, zero, suc, get_or, refl, sym, ◌∙◌, ap, Bool, true, false, cond, arith}
use Rattle.std.specs.Prelude.{Some, find}
use Rattle.std.specs.List.{position}
use Rattle.std.proofs.lemmas.List.Quantifiers.{position-Some}

-- a mapped list without its first elements is the list without them, mapped
pub drop-map : {X Y : Type 0} (f : X → Y) (n : ℕ) (xs : List X) → drop n (map f xs) ≡ map f (drop n xs)
drop-map f zero xs = refl
drop-map f (suc n) [] = refl
drop-map f (suc n) (x ∷ xs) = drop-map f n xs

find-at : {X : Type 0} (p : X → Bool) (xs : List X) (i : ℕ) (d : X) → i < length xs → p (get_or xs i d) ≡ true → ((k : ℕ) → k < i → p (get_or xs k d) ≡ false) → find p xs ≡ Some (get_or xs i d)
find-at p [] i d lt is before = absurd (omega arith)
find-at p (x ∷ xs) zero d lt is before = ap (λ (b : Bool). cond b (Some x) (find p xs)) is
find-at p (x ∷ xs) (suc i) d lt is before = ap (λ (b : Bool). cond b (Some x) (find p xs)) (before 0 (omega arith)) ∙ find-at p xs i d (omega arith) is (λ k l. before (suc k) (omega arith))

-- what stands at the first place whose test holds is what is found
pub found-at : {X : Type 0} (p : X → Bool) (xs : List X) (i : ℕ) (x : X) → position p xs ≡ Some i → x ≡ get_or xs i x → find p xs ≡ Some x
found-at p xs i x at is = let h = position-Some p xs i x at in find-at p xs i x h.0 h.1 h.2 ∙ ap Some (sym is)
