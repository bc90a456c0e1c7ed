-- Lists of entries whose keys rise: what they add up to at a key, their order with an entry changed or added, and what a binary search among them
-- finds.
use Rattle.std.proofs.Common.{◌≡◌, ℕ, ◌+◌, ◌-◌, ◌<◌, ◌≤◌, eqb, Result, Ok, Err, Bool, true, false, cond, List, [], ◌∷◌, length, take, drop, set, get_or, refl, ap, sym, ◌∙◌, arith, unwrap_or, inl, inr, Option, Some, None, All, subst, zero, suc, Ordering, Less, Equal, Greater}
use Rattle.std.specs.Ordering.{is_lt, ordering_reverse}
use Rattle.std.specs.BTreeMap.{is_at}
use Rattle.std.specs.Cmp.{IsTotalOrder}
use Rattle.std.specs.Map.{keys_of, lookup}
use Rattle.std.specs.Option.{option_map}
use Rattle.std.specs.List.{AllByRecursion, AllWithin, insert, sum_by, slice_get}
use Rattle.std.specs.List.Sorted.{IsStrictlySortedBy, IsSearchInRange, IsBinarySearchResult}
use Rattle.std.proofs.Math.Seq.{map-set_same}
use Rattle.std.proofs.lemmas.Bool.{cases_Bool}
use Rattle.std.proofs.lemmas.Bool.Decides.{nat_tests, Decides-eqb}
use Rattle.std.proofs.lemmas.List.{get_or-map, length-map}
use Rattle.std.proofs.lemmas.List.Sorted.{searchable_from_sorted}
use Rattle.std.proofs.lemmas.Cmp.{eq_by_cmp_equiv}
use Rattle.std.proofs.lemmas.List.Elements.{All-append, All-cons, All-take, All-drop}
use Rattle.std.proofs.lemmas.List.Sums.{sum_by-cons, sum_by-set}
use Rattle.std.proofs.lemmas.Map.{NonePasses}
use Rattle.std.proofs.lemmas.Map.Entries.{none_past_head, lookup_at_gap, lookup_from_place}
use Rattle.std.proofs.lemmas.Map.Lookups.{CmpEqualImpliesEq}
use Rattle.std.proofs.lemmas.Option.{slice_get_within, get_or_from_slice_get}
use Rattle.std.proofs.lemmas.Map.Keys.{IsDistinct-from_sorted, Less-from_sorted, sorted_tail}
use Rattle.metrics.specs.Entries.{total_at, IsFound}

abbrev stands : {X : Type 0} → Option X → Type 0
stands None = ⊥
stands (Some x) = Unit {0}

-- where there is something there is not none
pub some_is_none : {X : Type 0} (x : X) → Some x ≡ None → ⊥
some_is_none {X} x e = let P : Option X → Type 0 = stands in subst P e tt

-- what holds of each element and of one more holds of all with it inserted
pub All-insert : {X : Type 0} (P : X → Type 0) (xs : List X) (i : ℕ) (y : X) → All P xs → P y → All P (insert xs i y)
All-insert P xs i y h p = All-append P (take i xs) (y ∷ drop i xs) (All-take P i xs h) (All-cons P y (drop i xs) p (All-drop P i xs h))

module _ {K X : Type 0} {R : K → K → Ordering} (o : IsTotalOrder R) where
  none_adds : (n : X → ℕ) (q : K) (es : List (K × X)) → NonePasses (is_at (R q)) es → total_at (is_at (R q)) n es ≡ 0
  none_adds n q [] h = refl
  none_adds n q (e ∷ es) h = sum_by-cons (λ (x : K × X). cond (is_at (R q) x.0) (n x.1) 0) e es ∙ rw h.0 (let z = none_adds n q es h.1 in omega (arith, z))

  -- a list whose keys rise adds up to what it has at a key
  pub total_is : (n : X → ℕ) (q : K) (es : List (K × X)) → IsStrictlySortedBy R (keys_of es) → total_at (is_at (R q)) n es ≡ unwrap_or (option_map n (lookup (is_at (R q)) es)) 0
  total_is n q [] h = refl
  total_is n q (e ∷ es) h = sum_by-cons (λ (x : K × X). cond (is_at (R q) x.0) (n x.1) 0) e es ∙ elim (cases_Bool (is_at (R q) e.0)) [
    | inl s ↦ let none : NonePasses (is_at (R q)) es = none_past_head (eq_by_cmp_equiv o) q e es (IsDistinct-from_sorted R (keys_of (e ∷ es)) h) s in
        rw s (let z = none_adds n q es none in omega (arith, z))
    | inr d ↦ rw d (let ih = total_is n q es (sorted_tail R e.0 (keys_of es) h) in omega (arith, ih))
  ]

  -- keys that rise do so with another value at one of them
  pub rises-set : (es : List (K × X)) (i : ℕ) (d w : K × X) → w.0 ≡ (get_or es i d).0 → IsStrictlySortedBy R (keys_of es) → IsStrictlySortedBy R (keys_of (set es i w))
  rises-set es i d w same s = subst (IsStrictlySortedBy R) (sym (map-set_same (λ (x : K × X). x.0) es i w d same)) s

  -- keys that rise do so with one more, behind those below it and before those above
  pub rises-insert : (es : List (K × X)) (i : ℕ) (y : K × X) → i ≤ length es → AllWithin (λ (e : K × X). R e.0 y.0 ≡ Less) es 0 i → AllWithin (λ (e : K × X). R e.0 y.0 ≡ Greater) es i (length es) → IsStrictlySortedBy R (keys_of es) → IsStrictlySortedBy R (keys_of (insert es i y))
  unfolding IsStrictlySortedBy
  rises-insert es zero y l low high s = (first es (λ k d m. let g = high k d (omega arith) m in o.antisymm y.0 (get_or es k d).0 ∙ ap ordering_reverse g), s)
    where
      first : (xs : List (K × X)) → All (λ (e : K × X). R y.0 e.0 ≡ Less) xs → AllByRecursion (λ k. R y.0 k ≡ Less) (keys_of xs)
      first [] h = tt
      first (x ∷ xs) h = (h 0 x (omega arith), first xs (λ k d m. h (suc k) d (omega (arith, m))))
  rises-insert [] (suc i) y l low high s = absurd (omega (arith, l))
  rises-insert (e ∷ es) (suc i) y l low high s = (front es i s.0, rises-insert es i y (omega (arith, l)) (λ k d m p. low (suc k) d (omega arith) (omega (arith, p))) (λ k d m p. high (suc k) d (omega (arith, m)) (omega (arith, p))) s.1)
    where
      front : (xs : List (K × X)) (j : ℕ) → AllByRecursion (λ k. R e.0 k ≡ Less) (keys_of xs) → AllByRecursion (λ k. R e.0 k ≡ Less) (keys_of (insert xs j y))
      front xs zero h = (low 0 e (omega arith) (omega arith), h)
      front [] (suc j) h = (low 0 e (omega arith) (omega arith), tt)
      front (x ∷ xs) (suc j) h = (h.0, front xs j h.1)

  -- with more at an entry, a list adds up to as much more at its key, and to what it did at others
  pub total-set : (n : X → ℕ) (q : K) (es : List (K × X)) (i : ℕ) (d w : K × X) (m : ℕ) → i < length es → w.0 ≡ (get_or es i d).0 → n w.1 ≡ n (get_or es i d).1 + m → total_at (is_at (R q)) n (set es i w) ≡ total_at (is_at (R q)) n es + cond (is_at (R q) w.0) m 0
  total-set n q es i d w m l same more =
      let f : K × X → ℕ = λ x. cond (is_at (R q) x.0) (n x.1) 0 in
      let s : sum_by f (set es i w) + f (get_or es i d) ≡ sum_by f es + f w = sum_by-set f es i w d l in
      let a : f (get_or es i d) + cond (is_at (R q) w.0) m 0 ≡ f w = ap (λ k. cond (is_at (R q) k) (n (get_or es i d).1) 0 + cond (is_at (R q) w.0) m 0) (sym same) ∙ both (is_at (R q) w.0) in
      omega (arith, s, a)
    where
      both : (b : Bool) → cond b (n (get_or es i d).1) 0 + cond b m 0 ≡ cond b (n w.1) 0
      both true = sym more
      both false = refl

  -- where keys rise and the last is below another, all are
  pub below_last : (es : List (K × X)) (k : K) (last : K × X) → IsStrictlySortedBy R (keys_of es) → Some last ≡ slice_get es (length es - 1) → R last.0 k ≡ Less → AllWithin (λ (e : K × X). R e.0 k ≡ Less) es 0 (length es)
  below_last es k last s e h i d m l =
      let n = length-map es (λ (x : K × X). x.0) in
      let end : get_or es (length es - 1) d ≡ last = get_or_from_slice_get es (length es - 1) last d (sym e) in
      elim (cases_Bool (eqb i (length es - 1))) [
        | inl t ↦ ap (λ j. R (get_or es j d).0 k) ((Decides-eqb i (length es - 1)).0 t) ∙ ap (λ (x : K × X). R x.0 k) end ∙ h
        | inr t ↦ let b : i < length es - 1 = grind (arith, nat_tests, t, l) in
            let r = Less-from_sorted R (keys_of es) i (length es - 1) d.0 s b (omega (arith, n, l)) in
            let a = get_or-map (λ (x : K × X). x.0) es i d d.0 l in
            let z = get_or-map (λ (x : K × X). x.0) es (length es - 1) d d.0 (omega (arith, l)) in
            o.trans (get_or es i d).0 last.0 k ((λ j. R (sym a j) (sym (z ∙ ap (λ (x : K × X). x.0) end) j)) ∙ r) h
      ]

  -- a binary search among keys that rise answers the place of the key's entry, or else the place behind all lesser keys
  pub search_finds : (es : List (K × X)) (k : K) (r : Result ℕ ℕ) → IsStrictlySortedBy R (keys_of es) → IsSearchInRange r (length es) → IsBinarySearchResult (λ (e : K × X). R e.0 k) es r → IsFound R k es r
  search_finds es k (Ok i) s b p = (b, p)
  search_finds es k (Err i) s b p = (
    b,
    p (searchable_from_sorted o (λ (e : K × X). e.0) es k (λ j d m l.
        let n = length-map es (λ (x : K × X). x.0) in
        let r = Less-from_sorted R (keys_of es) j (j + 1) d.0 s (omega arith) (omega (arith, n, l)) in
        let a = get_or-map (λ (x : K × X). x.0) es j d d.0 (omega (arith, l)) in
        let z = get_or-map (λ (x : K × X). x.0) es (j + 1) d d.0 l in
        ap is_lt (o.antisymm (get_or es (j + 1) d).0 (get_or es j d).0 ∙ ap ordering_reverse ((λ i. R (sym a i) (sym z i)) ∙ r)))),
  )

  -- where keys rise, the value of an entry is what stands at a key that is equal to its own
  pub found_at : CmpEqualImpliesEq R → (es : List (K × X)) (k : K) (i : ℕ) (e : K × X) → IsStrictlySortedBy R (keys_of es) → slice_get es i ≡ Some e → R e.0 k ≡ Equal → lookup (is_at (R k)) es ≡ Some e.1
  found_at x es k i e s at same =
      let there = lookup_from_place (eq_by_cmp_equiv o) es i e.0 e.1 (IsDistinct-from_sorted R (keys_of es) s) at in
      subst (λ q. lookup (is_at (R q)) es ≡ Some e.1) (x e.0 k same) there

  -- where a search among keys that rise finds no entry at a key, none stands there
  pub missed_at : (es : List (K × X)) (k : K) (i : ℕ) → IsStrictlySortedBy R (keys_of es) → IsFound R k es (Err i) → lookup (is_at (R k)) es ≡ None
  missed_at es k i s (l, sides) =
      lookup_at_gap o k es i s
      (λ j e m at. let w = slice_get_within es j e at in o.antisymm k e.0 ∙ ap ordering_reverse (ap (λ (y : K × X). R y.0 k) (sym (get_or_from_slice_get es j e e at)) ∙ sides.0 j e (omega arith) m))
      (λ e at. let w = slice_get_within es i e at in o.antisymm k e.0 ∙ ap ordering_reverse (ap (λ (y : K × X). R y.0 k) (sym (get_or_from_slice_get es i e e at)) ∙ sides.1 i e (omega arith) w))

-- what a search answers in a list it answers in the same list
pub found_in : {K X : Type 0} (R : K → K → Ordering) (k : K) (es fs : List (K × X)) (r : Result ℕ ℕ) → es ≡ fs → IsFound R k es r → IsFound R k fs r
found_in R k es fs r e h = subst (λ xs. IsFound R k xs r) e h
