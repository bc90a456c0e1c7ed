-- Tests, look-ups and counts over a mapped list.
use Rattle.std.proofs.Common.{◌≡◌, ◌≤◌, ◌||◌, length, List, [], ◌∷◌, map, refl, ap, subst, Bool, true, false, cond, arith}
use Rattle.std.specs.Prelude.{Some, find, filter, count_by}
use Rattle.std.specs.List.{list_any, All}
use Rattle.std.specs.Option.{option_map}
use Rattle.std.proofs.lemmas.List.Sums.{sum_by-cons, length-filter, count_by-le-length}
use Rattle.std.proofs.lemmas.List.Elements.{All-head, All-tail}

find-here : {X Y : Type 0} (f : X → Y) (p : Y → Bool) (x : X) (xs : List X) (b : Bool) → p (f x) ≡ b → find p (map f xs) ≡ option_map f (find (λ x. p (f x)) xs) → cond b (Some (f x)) (find p (map f xs)) ≡ option_map f (cond b (Some x) (find (λ x. p (f x)) xs))
find-here f p x xs true is h = refl
find-here f p x xs false is h = h

-- a look-up in a mapped list is the look-up in the list, by the test of what is mapped, and then mapped
pub find-map : {X Y : Type 0} (f : X → Y) (p : Y → Bool) (xs : List X) → find p (map f xs) ≡ option_map f (find (λ x. p (f x)) xs)
find-map f p [] = refl
find-map f p (x ∷ xs) = find-here f p x xs (p (f x)) refl (find-map f p xs)

-- a test holds of some element of a mapped list exactly where it holds, once mapped, of some of the list
pub list_any-map : {X Y : Type 0} (f : X → Y) (p : Y → Bool) (xs : List X) → list_any p (map f xs) ≡ list_any (λ x. p (f x)) xs
list_any-map f p [] = refl
list_any-map f p (x ∷ xs) = ap (λ b. p (f x) || b) (list_any-map f p xs)

filter-here : {X Y : Type 0} (f : X → Y) (x : X) (ys : List Y) (xs : List X) (b : Bool) → ys ≡ map f xs → cond b (f x ∷ ys) ys ≡ map f (cond b (x ∷ xs) xs)
filter-here f x ys xs true is = ap (λ zs. f x ∷ zs) is
filter-here f x ys xs false is = is

-- those of a mapped list that pass a test are those of the list that pass it once mapped, and then mapped
pub filter-map : {X Y : Type 0} (f : X → Y) (p : Y → Bool) (xs : List X) → filter p (map f xs) ≡ map f (filter (λ x. p (f x)) xs)
filter-map f p [] = refl
filter-map f p (x ∷ xs) = filter-here f x (filter p (map f xs)) (filter (λ x. p (f x)) xs) (p (f x)) (filter-map f p xs)

-- a test counts in a mapped list as many as it counts, once mapped, in the list
pub count-map : {X Y : Type 0} (f : X → Y) (p : Y → Bool) (xs : List X) → count_by p (map f xs) ≡ count_by (λ x. p (f x)) xs
count-map f p [] = refl
count-map f p (x ∷ xs) = let h = count-map f p xs in omega (arith, sum_by-cons (λ y. cond (p y) 1 0) (f x) (map f xs), sum_by-cons (λ y. cond (p (f y)) 1 0) x xs, h)

found-here : {X : Type 0} (P : X → Type 0) (p : X → Bool) (x : X) (xs : List X) (y : X) (b : Bool) → P x → (find p xs ≡ Some y → P y) → cond b (Some x) (find p xs) ≡ Some y → P y
found-here P p x xs y true here later is = let same : x ≡ y = cc in subst P same here
found-here P p x xs y false here later is = later is

-- what is found has what all have
pub find-All : {X : Type 0} (P : X → Type 0) (p : X → Bool) (xs : List X) (y : X) → All P xs → find p xs ≡ Some y → P y
find-All P p [] y all is = cc
find-All P p (x ∷ xs) y all is = found-here P p x xs y (p x) (All-head P x xs all) (find-All P p xs y (All-tail P x xs all)) is

-- those that pass a test are no more than all
pub length-filter-le : {X : Type 0} (p : X → Bool) (xs : List X) → length (filter p xs) ≤ length xs
length-filter-le p xs = omega (arith, length-filter p xs, count_by-le-length p xs)
