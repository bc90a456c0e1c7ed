-- A collection has one rising arrangement: by two numbers of each element, the second of which no two share.
-- Two rising lists of the same elements are one, and a list that does not fall rises where its numbers are distinct.
use Rattle.std.proofs.Common.{◌≡◌, ◌≢◌, ◌⊎◌, ℕ, suc, ◌+◌, ◌≤◌, ◌<◌, List, [], ◌∷◌, length, get_or, subst, Bool, true, false, nat_eq, cond, All, count_by, refl, sym, ◌∙◌, arith, inl, inr}
use Rattle.std.specs.List.Sorted.{IsPermutation}
use Rattle.std.proofs.lemmas.List.Sorted.{IsPermutation-sym, All-permutation, sum_by-IsPermutation}
use Rattle.std.proofs.lemmas.List.Sums.{sum_by-cons}
use Rattle.std.proofs.lemmas.List.Elements.{All-nil, All-cons, All-head, All-tail, All-weaker}
use Rattle.std.proofs.lemmas.Bool.{cond-true, eq-eqb, true≢false}
use Rattle.std.proofs.lemmas.Bool.Decides.{nat_tests}
use Rattle.swf_text.specs.Log.{submits_before}

-- the pair (s, n) comes before (t, m)
abbrev pub comes : ℕ → ℕ → ℕ → ℕ → Bool
comes s n t m = submits_before s n t m

-- what comes before a pair comes before all that this pair comes before
pub comes-trans : (a b c d e f : ℕ) → comes a b c d ≡ true → comes c d e f ≡ true → comes a b e f ≡ true
comes-trans a b c d e f h k = grind (arith, nat_tests)

-- no pair comes before itself
pub comes-itself : (a b : ℕ) → comes a b a b ≡ false
comes-itself a b = grind (arith, nat_tests)

-- of two pairs that come one before the other, the later does not come before the earlier
pub comes-back : (a b c d : ℕ) → comes a b c d ≡ true → comes c d a b ≡ false
comes-back a b c d h = grind (arith, nat_tests)

-- where a pair does not come before one with another second number, that one comes before it
pub comes-other : (a b c d : ℕ) → comes a b c d ≡ false → d ≢ b → comes c d a b ≡ true
comes-other a b c d h k = grind (arith, nat_tests)

pub falls-trans : (a b c d e f : ℕ) → comes c d a b ≡ false → comes e f c d ≡ false → comes e f a b ≡ false
falls-trans a b c d e f h k = grind (arith, nat_tests)

-- an element of a list
abbrev pub In : {X : Type 0} → X → List X → Type 0
In z [] = ⊥
In z (x ∷ xs) = (x ≡ z) ⊎ In z xs

All-In : {X : Type 0} (P : X → Type 0) (z : X) (xs : List X) → All P xs → In z xs → P z
All-In P z [] a i = absurd i
All-In P z (x ∷ xs) a (inl e) = subst P e (All-head P x xs a)
All-In P z (x ∷ xs) a (inr i) = All-In P z xs (All-tail P x xs a) i

all-In : {X : Type 0} (xs : List X) → All (λ z. In z xs) xs
all-In [] = All-nil (λ z. In z [])
all-In (x ∷ xs) = All-cons (λ z. In z (x ∷ xs)) x xs (inl refl) (All-weaker (λ z. In z xs) (λ z. In z (x ∷ xs)) (λ z i. inr i) xs (all-In xs))

-- each element of a permutation of a list is an element of the list
pub In-permutation : {X : Type 0} (xs ys : List X) → IsPermutation xs ys → (z : X) → In z ys → In z xs
In-permutation xs ys p z i = All-In (λ z. In z xs) z ys (All-permutation (λ z. In z xs) xs ys p (all-In xs)) i

-- x comes before each of these
abbrev pub Leads : {X : Type 0} → (X → ℕ) → (X → ℕ) → X → List X → Type 0
Leads at num x [] = Unit {0}
Leads at num x (y ∷ ys) = (comes (at x) (num x) (at y) (num y) ≡ true) × Leads at num x ys

-- each comes before all later ones
abbrev pub Rises : {X : Type 0} → (X → ℕ) → (X → ℕ) → List X → Type 0
Rises at num [] = Unit {0}
Rises at num (x ∷ xs) = Leads at num x xs × Rises at num xs

-- none of these comes before x
abbrev pub Opens : {X : Type 0} → (X → ℕ) → (X → ℕ) → X → List X → Type 0
Opens at num x [] = Unit {0}
Opens at num x (y ∷ ys) = (comes (at y) (num y) (at x) (num x) ≡ false) × Opens at num x ys

-- no later one comes before an earlier one
abbrev pub Climbs : {X : Type 0} → (X → ℕ) → (X → ℕ) → List X → Type 0
Climbs at num [] = Unit {0}
Climbs at num (x ∷ xs) = Opens at num x xs × Climbs at num xs

Leads-In : {X : Type 0} (at num : X → ℕ) (x z : X) (ys : List X) → Leads at num x ys → In z ys → comes (at x) (num x) (at z) (num z) ≡ true
Leads-In at num x z [] l i = absurd i
Leads-In at num x z (y ∷ ys) l (inl e) = subst (λ w. comes (at x) (num x) (at w) (num w) ≡ true) e l.0
Leads-In at num x z (y ∷ ys) l (inr i) = Leads-In at num x z ys l.1 i

same-head : {X : Type 0} (at num : X → ℕ) (x y : X) (xs ys : List X) → Leads at num x xs → Leads at num y ys → (y ≡ x) ⊎ In x ys → (x ≡ y) ⊎ In y xs → x ≡ y
same-head at num x y xs ys p q (inl e) k = sym e
same-head at num x y xs ys p q (inr i) (inl e) = e
same-head at num x y xs ys p q (inr i) (inr j) =
    let a = Leads-In at num y x ys q i in
    let b = Leads-In at num x y xs p j in
    absurd (true≢false (sym b ∙ comes-back (at y) (num y) (at x) (num x) a))

In-tail : {X : Type 0} (at num : X → ℕ) (x y z : X) (xs ys : List X) → x ≡ y → Leads at num x xs → (y ≡ z) ⊎ In z ys → In z xs → In z ys
In-tail at num x y z xs ys e l (inr k) i = k
In-tail at num x y z xs ys e l (inl k) i =
    let t = Leads-In at num x z xs l i in
    let t' : comes (at z) (num z) (at z) (num z) ≡ true = subst (λ w. comes (at w) (num w) (at z) (num z) ≡ true) (e ∙ k) t in
    absurd (true≢false (sym t' ∙ comes-itself (at z) (num z)))

pub rising-unique : {X : Type 0} (at num : X → ℕ) (xs ys : List X) → Rises at num xs → Rises at num ys → ((z : X) → In z xs → In z ys) → ((z : X) → In z ys → In z xs) → xs ≡ ys
rising-unique at num [] [] p q f g = refl
rising-unique at num [] (y ∷ ys) p q f g = absurd (g y (inl refl))
rising-unique at num (x ∷ xs) [] p q f g = absurd (f x (inl refl))
rising-unique at num (x ∷ xs) (y ∷ ys) p q f g =
    let e : x ≡ y = same-head at num x y xs ys p.0 q.0 (f x (inl refl)) (g y (inl refl)) in
    let rest : xs ≡ ys = rising-unique at num xs ys p.1 q.1 (λ z i. In-tail at num x y z xs ys e p.0 (f z (inr i)) i) (λ z i. In-tail at num y x z ys xs (sym e) q.0 (g z (inr i)) i) in
    cc

-- of a collection, the rising arrangement is unique
pub arrangement-unique : {X : Type 0} (at num : X → ℕ) (all xs ys : List X) → IsPermutation all xs → IsPermutation all ys → Rises at num xs → Rises at num ys → xs ≡ ys
arrangement-unique at num all xs ys p q r s =
    rising-unique at num xs ys r s
    (λ z i. In-permutation ys all (IsPermutation-sym all ys q) z (In-permutation all xs p z i))
    (λ z i. In-permutation xs all (IsPermutation-sym all xs p) z (In-permutation all ys q z i))

-- how many have the number
abbrev pub numbered : {X : Type 0} → (X → ℕ) → ℕ → List X → ℕ
numbered num n xs = count_by (λ x. nat_eq (num x) n) xs

numbered-cons : {X : Type 0} (num : X → ℕ) (n : ℕ) (x : X) (xs : List X) → numbered num n (x ∷ xs) ≡ cond (nat_eq (num x) n) 1 0 + numbered num n xs
numbered-cons num n x xs = sum_by-cons (λ z. cond (nat_eq (num z) n) 1 0) x xs

numbered-tail : {X : Type 0} (num : X → ℕ) (n : ℕ) (x : X) (xs : List X) → numbered num n (x ∷ xs) ≤ 1 → numbered num n xs ≤ 1
numbered-tail num n x xs h = omega (arith, numbered-cons num n x xs)

differs : {X : Type 0} (num : X → ℕ) (x y : X) (xs : List X) → numbered num (num x) (x ∷ y ∷ xs) ≤ 1 → num x ≢ num y
differs num x y xs h e =
    let a = numbered-cons num (num x) x (y ∷ xs) in
    let b = numbered-cons num (num x) y xs in
    let c = cond-true {A = ℕ} (nat_eq (num x) (num x)) 1 0 (eq-eqb (num x) (num x) refl) in
    let d = cond-true {A = ℕ} (nat_eq (num y) (num x)) 1 0 (eq-eqb (num y) (num x) (sym e)) in
    omega (arith, a, b, c, d, h)

-- where y does not come before x, and none of these comes before y, none of them comes before x
pub Opens-later : {X : Type 0} (at num : X → ℕ) (x y : X) (zs : List X) → comes (at y) (num y) (at x) (num x) ≡ false → Opens at num y zs → Opens at num x zs
Opens-later at num x y [] h o = tt
Opens-later at num x y (z ∷ zs) h o = (falls-trans (at x) (num x) (at y) (num y) (at z) (num z) h o.0, Opens-later at num x y zs h o.1)

-- where no element comes before the one that it follows at once, no later one comes before an earlier one
pub Climbs-adjacent : {X : Type 0} (at num : X → ℕ) (xs : List X) → ((k : ℕ) (d : X) → k + 1 < length xs → comes (at (get_or xs (k + 1) d)) (num (get_or xs (k + 1) d)) (at (get_or xs k d)) (num (get_or xs k d)) ≡ false) → Climbs at num xs
Climbs-adjacent at num [] h = tt
Climbs-adjacent at num (x ∷ []) h = (tt, tt)
Climbs-adjacent {X = X} at num (x ∷ y ∷ ys) h =
    let rest : Climbs at num (y ∷ ys) = Climbs-adjacent at num (y ∷ ys) (λ k d l. shifted k d (h (suc k) d (omega arith))) in
    let first : comes (at y) (num y) (at x) (num x) ≡ false = h 0 x (omega arith) in
    ((first, Opens-later at num x y ys first rest.0), rest)
  where
    shifted : (k : ℕ) (d : X) → comes (at (get_or (x ∷ y ∷ ys) (suc k + 1) d)) (num (get_or (x ∷ y ∷ ys) (suc k + 1) d)) (at (get_or (y ∷ ys) k d)) (num (get_or (y ∷ ys) k d)) ≡ false
        → comes (at (get_or (y ∷ ys) (k + 1) d)) (num (get_or (y ∷ ys) (k + 1) d)) (at (get_or (y ∷ ys) k d)) (num (get_or (y ∷ ys) k d)) ≡ false
    shifted k d h = let e : suc k + 1 ≡ suc (k + 1) = omega arith in rw e at h

Leads-Opens : {X : Type 0} (at num : X → ℕ) (x : X) (ys : List X) → numbered num (num x) (x ∷ ys) ≤ 1 → Opens at num x ys → Leads at num x ys
Leads-Opens at num x [] h o = tt
Leads-Opens at num x (y ∷ ys) h o =
    let fewer : numbered num (num x) (x ∷ ys) ≤ 1 = omega (arith, h, numbered-cons num (num x) x (y ∷ ys), numbered-cons num (num x) y ys, numbered-cons num (num x) x ys) in
    (comes-other (at y) (num y) (at x) (num x) o.0 (differs num x y ys h), Leads-Opens at num x ys fewer o.1)

-- where no two share a number, and no later one comes before an earlier one, each comes before all later ones
pub Rises-Climbs : {X : Type 0} (at num : X → ℕ) (xs : List X) → ((n : ℕ) → numbered num n xs ≤ 1) → Climbs at num xs → Rises at num xs
Rises-Climbs at num [] h c = tt
Rises-Climbs at num (x ∷ xs) h c = (Leads-Opens at num x xs (h (num x)) c.0, Rises-Climbs at num xs (λ n. numbered-tail num n x xs (h n)) c.1)

-- a permutation has as many elements with each number
pub numbered-permutation : {X : Type 0} (num : X → ℕ) (xs ys : List X) → IsPermutation xs ys → (n : ℕ) → numbered num n ys ≡ numbered num n xs
numbered-permutation num xs ys p n = sum_by-IsPermutation (λ z. cond (nat_eq (num z) n) 1 0) xs ys p
