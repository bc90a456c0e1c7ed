-- Stored sums stand for the entries of a list: first come the short ones, then the others.
use Rattle.std.proofs.Common.{◌≡◌, ℤ, Bool, true, false, cond, List, [], ◌∷◌, ◌++◌, map, refl, ap, sym, ◌∙◌, Option, Some, None, subst, Ordering, Less}
use Rattle.std.specs.Ordering.{int_cmp}
use Rattle.std.specs.Map.{keys_of, lookup}
use Rattle.std.specs.Option.{option_map, option_or}
use Rattle.std.specs.List.{AllByRecursion}
use Rattle.std.specs.List.Sorted.{IsStrictlySortedBy}
use Rattle.metrics.specs.declared.users.UserSums.{UserSums}
use Rattle.metrics.specs.declared.stored.ShortSums.{ShortSums}
use Rattle.metrics.specs.Stored.{long, long_of}

sorted_front : {K : Type 0} (R : K → K → Ordering) (xs ys : List K) → IsStrictlySortedBy R (xs ++ ys) → IsStrictlySortedBy R xs
unfolding IsStrictlySortedBy
sorted_front R [] ys s = tt
sorted_front {K} R (x ∷ xs) ys s = (front xs s.0, sorted_front R xs ys s.1)
  where
    front : (zs : List K) → AllByRecursion (λ k. R x k ≡ Less) (zs ++ ys) → AllByRecursion (λ k. R x k ≡ Less) zs
    front [] h = tt
    front (z ∷ zs) h = (h.0, front zs h.1)

sorted_back : {K : Type 0} (R : K → K → Ordering) (xs ys : List K) → IsStrictlySortedBy R (xs ++ ys) → IsStrictlySortedBy R ys
unfolding IsStrictlySortedBy
sorted_back R [] ys s = s
sorted_back R (x ∷ xs) ys s = sorted_back R xs ys s.1

keys_stored : (ss : List (ℤ × ShortSums)) (es : List (ℤ × UserSums)) → keys_of (map long_of ss ++ es) ≡ keys_of ss ++ keys_of es
keys_stored [] es = refl
keys_stored (s ∷ ss) es = ap (λ ks. s.0 ∷ ks) (keys_stored ss es)

-- where the users of all entries rise, those of the short ones do
pub rises_short : (ss : List (ℤ × ShortSums)) (es : List (ℤ × UserSums)) → IsStrictlySortedBy int_cmp (keys_of (map long_of ss ++ es)) → IsStrictlySortedBy int_cmp (keys_of ss)
rises_short ss es s = sorted_front int_cmp (keys_of ss) (keys_of es) (subst (IsStrictlySortedBy int_cmp) (keys_stored ss es) s)

-- where the users of all entries rise, those of the others do
pub rises_others : (ss : List (ℤ × ShortSums)) (es : List (ℤ × UserSums)) → IsStrictlySortedBy int_cmp (keys_of (map long_of ss ++ es)) → IsStrictlySortedBy int_cmp (keys_of es)
rises_others ss es s = sorted_back int_cmp (keys_of ss) (keys_of es) (subst (IsStrictlySortedBy int_cmp) (keys_stored ss es) s)

pub lookup_stored : (test : ℤ → Bool) (ss : List (ℤ × ShortSums)) (es : List (ℤ × UserSums)) → lookup test (map long_of ss ++ es) ≡ option_or (option_map long (lookup test ss)) (lookup test es)
lookup_stored test [] es = refl
lookup_stored test (s ∷ ss) es = go (test s.0) (lookup_stored test ss es)
  where
    go : (b : Bool) → lookup test (map long_of ss ++ es) ≡ option_or (option_map long (lookup test ss)) (lookup test es) → cond b (Some (long s.1)) (lookup test (map long_of ss ++ es)) ≡ option_or (option_map long (cond b (Some s.1) (lookup test ss))) (lookup test es)
    go true h = refl
    go false h = h

-- the entry at a user is the one that a short one stands for, where the user has a short one
pub at_short : (test : ℤ → Bool) (ss : List (ℤ × ShortSums)) (es all : List (ℤ × UserSums)) (s : ShortSums) (r : UserSums) → map long_of ss ++ es ≡ all → Some s ≡ lookup test ss → r ≡ long s → Some r ≡ lookup test all
at_short test ss es all s r is at same = ap Some same ∙ ap (λ (o : Option ShortSums). option_or (option_map long o) (lookup test es)) at ∙ sym (lookup_stored test ss es) ∙ ap (λ xs. lookup test xs) is

-- the entry at a user is the one among the others, if there is one, where the user has no short one
pub at_other : (test : ℤ → Bool) (ss : List (ℤ × ShortSums)) (es all : List (ℤ × UserSums)) (r : Option UserSums) → map long_of ss ++ es ≡ all → None ≡ lookup test ss → r ≡ lookup test es → r ≡ lookup test all
at_other test ss es all r is none same = same ∙ ap (λ (o : Option ShortSums). option_or (option_map long o) (lookup test es)) none ∙ sym (lookup_stored test ss es) ∙ ap (λ xs. lookup test xs) is
