-- What changes of lists keep: what holds of all elements, the length, and that numbers rise.
use Rattle.std.proofs.Common.{◌≡◌, ℕ, ◌<◌, ◌≤◌, List, [], ◌∷◌, ◌++◌, Bool, true, false, cond, map, filter, length, refl, arith}
use Rattle.std.specs.List.{AllByRecursion}
use Rattle.book_machine.specs.Laws.{RiseFrom}

-- where one property implies another, all elements with the one have the other
pub all_weaken : {X : Type 0} (P Q : X → Type 0) → ((x : X) → P x → Q x) → (xs : List X) → AllByRecursion P xs → AllByRecursion Q xs
all_weaken P Q h [] all = tt
all_weaken P Q h (x ∷ xs) all = (h x all.0, all_weaken P Q h xs all.1)

-- what holds of all elements, and of one more, holds of all with it at the end
pub all_end : {X : Type 0} (P : X → Type 0) (xs : List X) (x : X) → AllByRecursion P xs → P x → AllByRecursion P (xs ++ x ∷ [])
all_end P [] x all h = (h, tt)
all_end P (y ∷ xs) x all h = (all.0, all_end P xs x all.1 h)

-- where all elements have one property, and a change gives each with it another, all changed elements have the other
pub all_map : {X : Type 0} (P Q : X → Type 0) (f : X → X) → ((x : X) → P x → Q (f x)) → (xs : List X) → AllByRecursion P xs → AllByRecursion Q (map f xs)
all_map P Q f h [] all = tt
all_map P Q f h (x ∷ xs) all = (h x all.0, all_map P Q f h xs all.1)

-- where all elements have one property, and each with it that passes a test has another, all that pass have the other
pub all_filter : {X : Type 0} (P Q : X → Type 0) (test : X → Bool) → ((x : X) → test x ≡ true → P x → Q x) → (xs : List X) → AllByRecursion P xs → AllByRecursion Q (filter test xs)
all_filter P Q test h [] all = tt
all_filter P Q test h (x ∷ xs) all = go (test x) refl (all_filter P Q test h xs all.1)
  where
    go : (b : Bool) → test x ≡ b → AllByRecursion Q (filter test xs) → AllByRecursion Q (cond b (x ∷ filter test xs) (filter test xs))
    go true e rest = (h x e all.0, rest)
    go false e rest = rest

-- those elements that pass a test are no more than all
pub length_filter : {X : Type 0} (test : X → Bool) (xs : List X) → length (filter test xs) ≤ length xs
length_filter test [] = omega arith
length_filter test (x ∷ xs) = go (test x) (length_filter test xs)
  where
    go : (b : Bool) → length (filter test xs) ≤ length xs → length (cond b (x ∷ filter test xs) (filter test xs)) ≤ length (x ∷ xs)
    go true h = omega arith
    go false h = omega arith

pub rise_lower : (low n : ℕ) (ms : List ℕ) → low ≤ n → RiseFrom n ms → RiseFrom low ms
rise_lower low n [] le h = tt
rise_lower low n (m ∷ ms) le h = (omega (arith, le, h.0), h.1)

-- where the numbers of elements rise, so do those of the elements that pass a test
pub rise_filter : {X : Type 0} (f : X → ℕ) (test : X → Bool) (n : ℕ) (xs : List X) → RiseFrom n (map f xs) → RiseFrom n (map f (filter test xs))
rise_filter f test n [] h = tt
rise_filter f test n (x ∷ xs) h = go (test x) (rise_filter f test (f x) xs h.1)
  where
    go : (b : Bool) → RiseFrom (f x) (map f (filter test xs)) → RiseFrom n (map f (cond b (x ∷ filter test xs) (filter test xs)))
    go true rest = (h.0, rest)
    go false rest = rise_lower n (f x) (map f (filter test xs)) (let lt : n < f x = h.0 in omega arith) rest

-- where the numbers of elements rise, all below the next, they rise with one more of the next at the end
pub rise_end : {X : Type 0} (f : X → ℕ) (next : ℕ) (x : X) → f x ≡ next → (n : ℕ) (xs : List X) → n < next → AllByRecursion (λ y. f y < next) xs → RiseFrom n (map f xs) → RiseFrom n (map f (xs ++ x ∷ []))
rise_end f next x is n [] lt all h = (omega (arith, is), tt)
rise_end f next x is n (y ∷ xs) lt all h = (h.0, rise_end f next x is (f y) xs all.0 all.1 h.1)
