-- Jobs have one part: lists whose keys rise, with the same value at each key, are the same.
use Rattle.std.proofs.Common.{◌≡◌, true, false, List, [], ◌∷◌, refl, ap, sym, ◌∙◌, inl, inr, Some, None, unwrap_or, Ordering, Less, Equal, Greater}
use Rattle.std.specs.Ordering.{is_eq, ordering_reverse}
use Rattle.std.specs.BTreeMap.{is_at}
use Rattle.std.specs.Cmp.{IsTotalOrder}
use Rattle.std.specs.Map.{lookup, keys_of}
use Rattle.std.specs.List.Sorted.{IsStrictlySortedBy}
use Rattle.std.proofs.lemmas.Bool.{cases_Bool}
use Rattle.std.proofs.lemmas.Cmp.{int_cmp_total, nat_cmp_total, tied_itself, eq_by_cmp_equiv}
use Rattle.std.proofs.lemmas.Map.{NonePasses, lookup-none}
use Rattle.std.proofs.lemmas.Map.Entries.{none_below_head, none_past_head}
use Rattle.std.proofs.lemmas.Map.Keys.{IsDistinct-from_sorted, sorted_tail}
use Rattle.std.proofs.lemmas.Map.Lookups.{CmpEqualImpliesEq, exact_signed, exact_unsigned}
use Rattle.scenarios.specs.declared.placed.Placed.{Placed}
use Rattle.metrics.specs.Part.{PartSums, IsPartOf}
use Rattle.metrics.proofs.RisingLists.{some_is_none}

first_found : {K X : Type 0} {R : K → K → Ordering} → IsTotalOrder R → (e : K × X) (es : List (K × X)) → lookup (is_at (R e.0)) (e ∷ es) ≡ Some e.1
first_found {K} {X} {R} o e es = let t : is_at (R e.0) e.0 ≡ true = ap is_eq (tied_itself o e.0) in rw t refl

skipped : {K X : Type 0} (R : K → K → Ordering) (q : K) (e : K × X) (es : List (K × X)) → is_at (R q) e.0 ≡ false → lookup (is_at (R q)) (e ∷ es) ≡ lookup (is_at (R q)) es
skipped R q e es t = rw t refl

none_behind : {K X : Type 0} {R : K → K → Ordering} → IsTotalOrder R → (q : K) (e : K × X) (es : List (K × X)) → IsStrictlySortedBy R (keys_of (e ∷ es)) → is_at (R q) e.0 ≡ true → lookup (is_at (R q)) es ≡ None
none_behind {K} {X} {R} o q e es s t =
    let none : NonePasses (is_at (R q)) es = none_past_head (eq_by_cmp_equiv o) q e es (IsDistinct-from_sorted R (keys_of (e ∷ es)) s) t in
    lookup-none (is_at (R q)) es none

rest_same : {K X : Type 0} {R : K → K → Ordering} → IsTotalOrder R → (e f : K × X) (es fs : List (K × X)) → IsStrictlySortedBy R (keys_of (e ∷ es)) → IsStrictlySortedBy R (keys_of (f ∷ fs)) → ((q : K) → lookup (is_at (R q)) (e ∷ es) ≡ lookup (is_at (R q)) (f ∷ fs)) → e.0 ≡ f.0 → (q : K) → lookup (is_at (R q)) es ≡ lookup (is_at (R q)) fs
rest_same {K} {X} {R} o e f es fs s t h k q = elim (cases_Bool (is_at (R q) e.0)) [
  | inl b ↦ none_behind o q e es s b ∙ sym (none_behind o q f fs t (sym (ap (is_at (R q)) k) ∙ b))
  | inr b ↦ sym (skipped R q e es b) ∙ h q ∙ skipped R q f fs (sym (ap (is_at (R q)) k) ∙ b)
]

firsts_same : {K X : Type 0} {R : K → K → Ordering} → IsTotalOrder R → CmpEqualImpliesEq R → (e f : K × X) (es fs : List (K × X)) → IsStrictlySortedBy R (keys_of (e ∷ es)) → IsStrictlySortedBy R (keys_of (f ∷ fs)) → ((q : K) → lookup (is_at (R q)) (e ∷ es) ≡ lookup (is_at (R q)) (f ∷ fs)) → (((q : K) → lookup (is_at (R q)) es ≡ lookup (is_at (R q)) fs) → es ≡ fs) → (r : Ordering) → R e.0 f.0 ≡ r → e ∷ es ≡ f ∷ fs
firsts_same {K} {X} {R} o x e f es fs s t h rest Less l = absurd (some_is_none e.1 (sym (first_found o e es) ∙ h e.0 ∙ lookup-none (is_at (R e.0)) (f ∷ fs) (none_below_head o e.0 f fs t l)))
firsts_same {K} {X} {R} o x e f es fs s t h rest Greater l =
    let m : R f.0 e.0 ≡ Less = o.antisymm f.0 e.0 ∙ ap ordering_reverse l in
    absurd (some_is_none f.1 (sym (first_found o f fs) ∙ sym (h f.0) ∙ lookup-none (is_at (R f.0)) (e ∷ es) (none_below_head o f.0 e es s m)))
firsts_same {K} {X} {R} o x e f es fs s t h rest Equal l =
    let k : e.0 ≡ f.0 = x e.0 f.0 l in
    let some : Some e.1 ≡ Some f.1 = sym (first_found o e es) ∙ h e.0 ∙ ap (λ q. lookup (is_at (R q)) (f ∷ fs)) k ∙ first_found o f fs in
    let v : e.1 ≡ f.1 = ap (λ w. unwrap_or w e.1) some in
    let r = rest (rest_same o e f es fs s t h k) in
    λ i. (k i, v i) ∷ r i

same_entries : {K X : Type 0} {R : K → K → Ordering} → IsTotalOrder R → CmpEqualImpliesEq R → (es fs : List (K × X)) → IsStrictlySortedBy R (keys_of es) → IsStrictlySortedBy R (keys_of fs) → ((q : K) → lookup (is_at (R q)) es ≡ lookup (is_at (R q)) fs) → es ≡ fs
same_entries o x [] [] s t h = refl
same_entries o x [] (f ∷ fs) s t h = absurd (some_is_none f.1 (sym (first_found o f fs) ∙ sym (h f.0)))
same_entries o x (e ∷ es) [] s t h = absurd (some_is_none e.1 (sym (first_found o e es) ∙ h e.0))
same_entries {K} {X} {R} o x (e ∷ es) (f ∷ fs) s t h = firsts_same o x e f es fs s t h (λ g. same_entries o x es fs (sorted_tail R e.0 (keys_of es) s) (sorted_tail R f.0 (keys_of fs) t) g) (R e.0 f.0) refl

-- two parts of the same jobs are the same
pub one_part : (ps : List Placed) (v w : PartSums) → IsPartOf ps v → IsPartOf ps w → v ≡ w
one_part ps v w h k =
    let t = h.totals ∙ sym k.totals in
    let u = same_entries int_cmp_total exact_signed v.users w.users h.users_rise k.users_rise (λ q. h.users q ∙ sym (k.users q)) in
    let d = same_entries nat_cmp_total exact_unsigned v.days w.days h.days_rise k.days_rise (λ q. h.days q ∙ sym (k.days q)) in
    λ i. record { totals = t i; users = u i; days = d i }
