-- The start that is found for a number: the same one where starts are sorted by number, and an early one where all are.
use Rattle.std.proofs.Common.{◌≡◌, ℕ, ◌≤◌, ◌<◌, ◌^◌, ◌&&◌, Bool, true, false, cond, eqb, not, nat_eq, List, [], ◌∷◌, Option, Some, None, All, filter, refl, sym, ap, arith, ◌∙◌, ⊎_elim}
use Rattle.std.specs.Prelude.{IfSome, find}
use Rattle.std.specs.List.Sorted.{IsStableByKey, ties}
use Rattle.std.specs.Option.{option_map}
use Rattle.std.specs.Ordering.{nat_cmp, is_lt}
use Rattle.std.proofs.lemmas.Bool.{cases_eq, cases_lt, eq-eqb, ne_eqb, lt-ltb, le-ltb}
use Rattle.std.proofs.lemmas.List.Elements.{All-head, All-tail}
use Rattle.easy_rule.specs.declared.start.Start.{Start}
use Rattle.easy_rule.specs.Simulation.{start_of}

find-filter : {X : Type 0} (p : X → Bool) (xs ys : List X) → filter p xs ≡ filter p ys → find p xs ≡ find p ys
find-filter p xs ys e = first p xs ∙ ap head e ∙ sym (first p ys)
  where
    head : {X : Type 0} → List X → Option X
    head [] = None
    head (x ∷ xs) = Some x

    first : {X : Type 0} (p : X → Bool) (xs : List X) → find p xs ≡ head (filter p xs)
    first p [] = refl
    first p (x ∷ xs) = go (p x) (first p xs) where
      go : (b : Bool) → find p xs ≡ head (filter p xs) → cond b (Some x) (find p xs) ≡ head (cond b (x ∷ filter p xs) (filter p xs))
      go true i = refl
      go false i = i

same-number : (m n : ℕ) → (not (is_lt (nat_cmp n m)) && not (is_lt (nat_cmp m n))) ≡ nat_eq m n
same-number m n =
    ⊎_elim
    (λ (l : m < n). rw (le-ltb n m (omega arith), lt-ltb m n l, ne_eqb n m (λ e. omega (arith, l, e)), ne_eqb m n (λ e. omega (arith, l, e))) refl)
    (λ (le : n ≤ m).
    ⊎_elim
    (λ (e : m ≡ n). rw (le-ltb n m (omega arith), le-ltb m n le, eq-eqb m n e, eq-eqb n m (sym e)) refl)
    (λ (ne : m ≡ n → ⊥). rw (lt-ltb n m (omega (arith, le, ne)), ne_eqb m n ne) refl)
    (cases_eq m n))
    (cases_lt m n)

filter-agree : {X : Type 0} (p q : X → Bool) → ((x : X) → p x ≡ q x) → (xs : List X) → filter p xs ≡ filter q xs
filter-agree p q h [] = refl
filter-agree p q h (x ∷ xs) = ap (λ b. cond b (x ∷ filter p xs) (filter p xs)) (h x) ∙ ap (λ l. cond (q x) (x ∷ l) l) (filter-agree p q h xs)

-- starts that are sorted by number, those of one number in their old order, give each number the same start as before
pub sorted-starts : (xs ys : List Start) → IsStableByKey (λ (x : Start). x.number) nat_cmp xs ys → (n : ℕ) → start_of ys n ≡ start_of xs n
sorted-starts xs ys stable n =
    let at : Start = record { number = n; at = 0 } in
    let by : Start → Bool = ties (λ x y. is_lt (nat_cmp x.number y.number)) at in
    let mine : Start → Bool = λ x. nat_eq x.number n in
    let agree : (zs : List Start) → filter by zs ≡ filter mine zs = filter-agree by mine (λ x. same-number x.number n) in
    ap (λ (o : Option Start). option_map (λ (x : Start). x.at) o) (find-filter mine ys xs (sym (agree ys) ∙ stable at ∙ agree xs))

early-first : (b : Bool) (x : Start) (xs : List Start) (n : ℕ) → eqb x.number n ≡ b → x.at < 2 ^ 49 → IfSome (start_of xs n) (λ at. at < 2 ^ 49) → IfSome (start_of (x ∷ xs) n) (λ at. at < 2 ^ 49)
early-first true x xs n same first later = rw same first
early-first false x xs n other first later = rw other later

-- where all starts come before second 2^49, so does the one that is found for a number
pub found-early : (xs : List Start) (n : ℕ) → All (λ (s : Start). s.at < 2 ^ 49) xs → IfSome (start_of xs n) (λ at. at < 2 ^ 49)
found-early [] n all = tt
found-early (x ∷ xs) n all = early-first (eqb x.number n) x xs n refl (All-head (λ (s : Start). s.at < 2 ^ 49) x xs all) (found-early xs n (All-tail (λ (s : Start). s.at < 2 ^ 49) x xs all))
