-- A merge of two lists: that a loop makes one, that its keys rise, and what its entries and their sums are.
use Rattle.std.proofs.Common.{◌≡◌, ◌⊎◌, inl, inr, ℕ, ◌+◌, ◌-◌, ◌<◌, ◌≤◌, Bool, true, false, cond, List, [], ◌∷◌, ◌++◌, length, take, drop, get_or, refl, ap, sym, ◌∙◌, arith, All, subst, Ordering, Less, Equal, Greater}
use Rattle.std.specs.Ordering.{ordering_reverse}
use Rattle.std.specs.Cmp.{IsTotalOrder}
use Rattle.std.specs.Map.{keys_of}
use Rattle.std.specs.List.{AllByRecursion}
use Rattle.std.specs.List.Sorted.{IsStrictlySortedBy}
use Rattle.std.proofs.lemmas.List.{append_assoc, append-nil, drop_all, drop_more, take_rest}
use Rattle.std.proofs.lemmas.List.Elements.{All-cons, All-tail}
use Rattle.std.proofs.lemmas.List.Sums.{sum_by-cons}
use Rattle.metrics.specs.Entries.{total_at, IsMerge, no_left, no_right, from_left, from_right, from_both}

-- what a merge has once it has gone over the first i and j entries of two lists: with a merge of what is left of both behind it, it is one of both
abbrev pub IsMergedTo : {K X : Type 0} → (K → K → Ordering) → (X → X → X → Type 0) → List (K × X) → List (K × X) → ℕ → ℕ → List (K × X) → Type 0
IsMergedTo R Adds l r i j us = (es : List _) → IsMerge R Adds (drop i l) (drop j r) es → IsMerge R Adds l r (us ++ es)

module _ {K X : Type 0} {R : K → K → Ordering} {Adds : X → X → X → Type 0} (l r us vs : List (K × X)) (i j : ℕ) where
  module _ (x y : K × X) (a : i < length l) (b : j < length r) (p : x ≡ get_or l i x) (q : y ≡ get_or r j y) (h : IsMergedTo R Adds l r i j us) where
    next : drop i l ≡ x ∷ drop (i + 1) l
    next = drop_more l i x a ∙ ap (λ z. z ∷ drop (i + 1) l) (sym p)

    other : drop j r ≡ y ∷ drop (j + 1) r
    other = drop_more r j y b ∙ ap (λ z. z ∷ drop (j + 1) r) (sym q)

    pushed : (z : K × X) (es : List (K × X)) → vs ≡ us ++ z ∷ [] → IsMerge R Adds l r (us ++ z ∷ es) → IsMerge R Adds l r (vs ++ es)
    pushed z es is = subst (IsMerge R Adds l r) (sym (ap (λ xs. xs ++ es) is ∙ append_assoc us (z ∷ []) es))

    goes : (es : List (K × X)) → IsMerge R Adds (x ∷ drop (i + 1) l) (y ∷ drop (j + 1) r) es → IsMerge R Adds l r (us ++ es)
    goes es m = h es (subst (λ ls. IsMerge R Adds ls (drop j r) es) (sym next) (subst (λ rs. IsMerge R Adds (x ∷ drop (i + 1) l) rs es) (sym other) m))

    -- a merge takes the next entry of the left list, where it is below that of the right one
    pub merged_left : R x.0 y.0 ≡ Less → vs ≡ us ++ x ∷ [] → IsMergedTo R Adds l r (i + 1) j vs
    merged_left low is = λ es m. pushed x es is (goes (x ∷ es) (from_left x y (drop (i + 1) l) (drop (j + 1) r) es low (subst (λ rs. IsMerge R Adds (drop (i + 1) l) rs es) other m)))

    -- a merge takes the next entry of the right list, where that of the left one is above it
    pub merged_right : R x.0 y.0 ≡ Greater → vs ≡ us ++ y ∷ [] → IsMergedTo R Adds l r i (j + 1) vs
    merged_right high is = λ es m. pushed y es is (goes (y ∷ es) (from_right x y (drop (i + 1) l) (drop (j + 1) r) es high (subst (λ ls. IsMerge R Adds ls (drop (j + 1) r) es) next m)))

    -- a merge takes the next entries of both lists as one, where they have one key
    pub merged_both : (s : X) → R x.0 y.0 ≡ Equal → Adds x.1 y.1 s → vs ≡ us ++ (x.0, s) ∷ [] → IsMergedTo R Adds l r (i + 1) (j + 1) vs
    merged_both s same add is = λ es m. pushed (x.0, s) es is (goes ((x.0, s) ∷ es) (from_both x y s (drop (i + 1) l) (drop (j + 1) r) es same add m))

  -- a merge that has gone over all of one list has, with what is left of both behind it, all
  pub merged_all : (ts : List (K × X)) → (length l ≤ i) ⊎ (length r ≤ j) → ts ≡ us ++ take (length l - i) (drop i l) → vs ≡ ts ++ take (length r - j) (drop j r) → IsMergedTo R Adds l r i j us → IsMerge R Adds l r vs
  merged_all ts end e f h = subst (IsMerge R Adds l r) (sym (f ∙ (λ k. e k ++ take_rest r j k) ∙ ap (λ xs. (us ++ xs) ++ drop j r) (take_rest l i))) (all end)
    where
      all : (length l ≤ i) ⊎ (length r ≤ j) → IsMerge R Adds l r ((us ++ drop i l) ++ drop j r)
      all (inl a) =
          let e = drop_all i l a in
          subst (λ xs. IsMerge R Adds l r ((us ++ xs) ++ drop j r)) (sym e) (subst (λ xs. IsMerge R Adds l r (xs ++ drop j r)) (sym (append-nil us)) (h (drop j r) (subst (λ ls. IsMerge R Adds ls (drop j r) (drop j r)) (sym e) (no_left (drop j r)))))
      all (inr b) =
          let e = drop_all j r b in
          subst (λ xs. IsMerge R Adds l r ((us ++ drop i l) ++ xs)) (sym e) (subst (IsMerge R Adds l r) (sym (append-nil (us ++ drop i l))) (h (drop i l) (subst (λ rs. IsMerge R Adds (drop i l) rs (drop i l)) (sym e) (no_right (drop i l)))))

further : {K : Type 0} {R : K → K → Ordering} → IsTotalOrder R → (j k : K) (ks : List K) → R j k ≡ Less → AllByRecursion (λ q. R k q ≡ Less) ks → AllByRecursion (λ q. R j q ≡ Less) ks
further o j k [] b h = tt
further o j k (q ∷ ks) b h = (o.trans j k q b h.0, further o j k ks b h.1)

one : {K X : Type 0} (n : X → ℕ) (t : K → Bool) (e : K × X) (es : List (K × X)) → total_at t n (e ∷ es) ≡ cond (t e.0) (n e.1) 0 + total_at t n es
one {K} {X} n t e es = sum_by-cons (λ (x : K × X). cond (t x.0) (n x.1) 0) e es

module _ {K X : Type 0} {R : K → K → Ordering} {Adds : X → X → X → Type 0} where
  below : {l r es : List (K × X)} (k : K) → IsMerge R Adds l r es → AllByRecursion (λ q. R k q ≡ Less) (keys_of l) → AllByRecursion (λ q. R k q ≡ Less) (keys_of r) → AllByRecursion (λ q. R k q ≡ Less) (keys_of es)
  below k (no_left r) a b = b
  below k (no_right l) a b = a
  below k (from_left x y l r es low m) a b = (a.0, below k m a.1 b)
  below k (from_right x y l r es high m) a b = (b.0, below k m a b.1)
  below k (from_both x y s l r es same add m) a b = (a.0, below k m a.1 b.1)

  -- where keys rise in both lists, they do in their merge
  pub merge_rises : {l r es : List (K × X)} → IsTotalOrder R → ((j k : K) → R j k ≡ Equal → j ≡ k) → IsMerge R Adds l r es → IsStrictlySortedBy R (keys_of l) → IsStrictlySortedBy R (keys_of r) → IsStrictlySortedBy R (keys_of es)
  unfolding IsStrictlySortedBy
  merge_rises o exact (no_left r) a b = b
  merge_rises o exact (no_right l) a b = a
  merge_rises o exact (from_left x y l r es low m) a b = (below x.0 m a.0 (low, further o x.0 y.0 (keys_of r) low b.0), merge_rises o exact m a.1 b)
  merge_rises o exact (from_right x y l r es high m) a b =
      let low : R y.0 x.0 ≡ Less = o.antisymm y.0 x.0 ∙ ap ordering_reverse high in
      (below y.0 m (low, further o y.0 x.0 (keys_of l) low a.0) b.0, merge_rises o exact m a b.1)
  merge_rises o exact (from_both x y s l r es same add m) a b =
      (below x.0 m a.0 (subst (λ k. AllByRecursion (λ q. R k q ≡ Less) (keys_of r)) (sym (exact x.0 y.0 same)) b.0), merge_rises o exact m a.1 b.1)

  -- what holds of each entry of both lists, and of what two values at one key are together, holds of each entry of their merge
  pub merge_each : {l r es : List (K × X)} (P : K × X → Type 0) → ((k : K) (a b c : X) → P (k, a) → Adds a b c → P (k, c)) → IsMerge R Adds l r es → All P l → All P r → All P es
  merge_each P both (no_left r) a b = b
  merge_each P both (no_right l) a b = a
  merge_each P both (from_left x y l r es low m) a b = All-cons P x es (a 0 x (omega arith)) (merge_each P both m (All-tail P x l a) b)
  merge_each P both (from_right x y l r es high m) a b = All-cons P y es (b 0 y (omega arith)) (merge_each P both m a (All-tail P y r b))
  merge_each P both (from_both x y s l r es same add m) a b = All-cons P (x.0, s) es (both x.0 x.1 y.1 s (a 0 x (omega arith)) add) (merge_each P both m (All-tail P x l a) (All-tail P y r b))

  -- a measure by which two values at one key add up is over their merge what it is over both lists
  pub merge_sums : {l r es : List (K × X)} → ((j k : K) → R j k ≡ Equal → j ≡ k) → (n : X → ℕ) → ((a b c : X) → Adds a b c → n c ≡ n a + n b) → (t : K → Bool) → IsMerge R Adds l r es → total_at t n es ≡ total_at t n l + total_at t n r
  merge_sums exact n adds t (no_left r) = omega arith
  merge_sums exact n adds t (no_right l) = omega arith
  merge_sums exact n adds t (from_left x y l r es low m) =
      let ih = merge_sums exact n adds t m in let a = one n t x es in let b = one n t x l in omega (arith, ih, a, b)
  merge_sums exact n adds t (from_right x y l r es high m) =
      let ih = merge_sums exact n adds t m in let a = one n t y es in let b = one n t y r in omega (arith, ih, a, b)
  merge_sums exact n adds t (from_both x y s l r es same add m) =
      let ih = merge_sums exact n adds t m in let a = one n t (x.0, s) es in let b = one n t x l in let c = one n t y r in
      let e : cond (t x.0) (n s) 0 ≡ cond (t x.0) (n x.1) 0 + cond (t y.0) (n y.1) 0 = both (t x.0) (n s) (n x.1) (n y.1) (adds x.1 y.1 s add) ∙ ap (λ k. cond (t x.0) (n x.1) 0 + cond (t k) (n y.1) 0) (exact x.0 y.0 same) in
      omega (arith, ih, a, b, c, e)
    where
      both : (v : Bool) (c f g : ℕ) → c ≡ f + g → cond v c 0 ≡ cond v f 0 + cond v g 0
      both true c f g e = e
      both false c f g e = refl

  -- a merge is one by what follows of two values and what they are together
  pub merge_weaker : {l r es : List (K × X)} {Sums : X → X → X → Type 0} → ((a b c : X) → Adds a b c → Sums a b c) → IsMerge R Adds l r es → IsMerge R Sums l r es
  merge_weaker f (no_left r) = no_left r
  merge_weaker f (no_right l) = no_right l
  merge_weaker f (from_left x y l r es low m) = from_left x y l r es low (merge_weaker f m)
  merge_weaker f (from_right x y l r es high m) = from_right x y l r es high (merge_weaker f m)
  merge_weaker f (from_both x y s l r es same add m) = from_both x y s l r es same (f x.1 y.1 s add) (merge_weaker f m)
