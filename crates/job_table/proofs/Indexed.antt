-- The index of some entries: their pairs, sorted by number. In any arrangement of them, a number has the same pair.
use Rattle.std.proofs.Common.{◌≡◌, ◌≢◌, ℕ, ◌+◌, ◌≤◌, List, [], ◌∷◌, Option, Some, None, Bool, true, false, ◌==◌, nat_eq, cond, map, find, get_or, option_map, inl, inr, refl, ap, sym, subst, ◌∙◌, arith, if◌then◌else◌}
use Rattle.std.specs.List.Sorted.{IsPermutation, IsNonDecreasingBy}
use Rattle.std.proofs.lemmas.Bool.Decides.{nat_tests}
use Rattle.std.proofs.lemmas.List.Sorted.{IsPermutation-sym}
use Rattle.std.proofs.lemmas.List.Sums.{sum_by-cons}
use Rattle.chunks.specs.declared.numbered.Numbered.{Numbered}
use Rattle.swf_text.specs.Entry.{LogEntry, submit_of, number_of_entry}
use Rattle.job_table.specs.Arranged.{IsDistinct}
use Rattle.job_table.specs.Edit.{entry_of}
use Rattle.job_table.specs.Table.{IsIndex, number_in, second_in, second_of, pair_of}
use Rattle.job_table.proofs.Arrangement.{comes, In, In-permutation, numbered, numbered-permutation, Climbs, Climbs-adjacent, Rises-Climbs}
use Rattle.job_table.proofs.Keyed.{Apart, Lacks, found, found-number, number_differs}
use Rattle.job_table.proofs.Tables.{Apart-counted}
use Rattle.job_table.proofs.Numbers.{rise-from}

not-comes : (a b : ℕ) → b ≤ a → comes a a b b ≡ false
not-comes a b h = grind (arith, nat_tests)

numbered-pairs : (n : ℕ) (es : List LogEntry) → numbered number_in n (map pair_of es) ≡ numbered number_of_entry n es
numbered-pairs n [] = refl
numbered-pairs n (e ∷ es) =
    sum_by-cons (λ z. cond (nat_eq (number_in z) n) 1 0) (pair_of e) (map pair_of es)
    ∙ ap (λ (k : ℕ). cond {A = ℕ} (nat_eq (number_of_entry e) n) 1 0 + k) (numbered-pairs n es)
    ∙ sym (sum_by-cons (λ z. cond (nat_eq (number_of_entry z) n) 1 0) e es)

pairs-give : (q : ℕ) (es : List LogEntry) → second_of (map pair_of es) q ≡ option_map submit_of (entry_of q es)
pairs-give q [] = refl
pairs-give q (e ∷ es) = go (number_of_entry e == q) (pairs-give q es)
  where
    go : (b : Bool) → second_of (map pair_of es) q ≡ option_map submit_of (entry_of q es)
        → option_map second_in (if b then Some (pair_of e) else find (λ p. number_in p == q) (map pair_of es)) ≡ option_map submit_of (if b then Some e else entry_of q es)
    go true i = refl
    go false i = i

In-differs : (n : ℕ) (z : Numbered) (xs : List Numbered) → Lacks number_in number_in n xs → In z xs → number_in z ≢ n
In-differs n z [] l i = absurd i
In-differs n z (x ∷ xs) l (inl e) = subst (λ (w : Numbered). number_in w ≢ n) e l.0
In-differs n z (x ∷ xs) l (inr i) = In-differs n z xs l.1 i

In-found : (z : Numbered) (xs : List Numbered) → Apart number_in number_in xs → In z xs → found number_in number_in (number_in z) xs ≡ Some z
In-found z [] a i = absurd i
In-found z (x ∷ xs) a (inl e) = go (number_in x == number_in z) refl
  where
    go : (b : Bool) → (number_in x == number_in z) ≡ b → (if b then Some x else found number_in number_in (number_in z) xs) ≡ Some z
    go true t = ap (λ (w : Numbered). Some w) e
    go false t = absurd (differ (number_in x) (number_in z) (ap number_in e) t)
      where
        differ : (m n : ℕ) → m ≡ n → (m == n) ≡ false → ⊥
        differ m n e t = grind (arith, nat_tests)
In-found z (x ∷ xs) a (inr i) = rw (number_differs (number_in x) (number_in z) (λ e. In-differs (number_in x) z xs a.0 i (sym e))) (In-found z xs a.1 i)

found-In : (n : ℕ) (xs : List Numbered) (p : Numbered) → found number_in number_in n xs ≡ Some p → In p xs
found-In n [] p h = cc
found-In n (x ∷ xs) p h = go (number_in x == n) h (found-In n xs p)
  where
    go : (b : Bool) → (if b then Some x else found number_in number_in n xs) ≡ Some p → (found number_in number_in n xs ≡ Some p → In p xs) → In p (x ∷ xs)
    go true k i = inl (cc)
    go false k i = inr (i k)

found-same : (q : ℕ) (xs ys : List Numbered) → IsPermutation xs ys → Apart number_in number_in xs → Apart number_in number_in ys → found number_in number_in q ys ≡ found number_in number_in q xs
found-same q xs ys p a b = go (found number_in number_in q ys) refl (found number_in number_in q xs) refl
  where
    moved : (us vs : List Numbered) → IsPermutation us vs → Apart number_in number_in us → (z : Numbered) → found number_in number_in q vs ≡ Some z → found number_in number_in q us ≡ Some z
    moved us vs perm apart z h =
        subst (λ (n : ℕ). found number_in number_in n us ≡ Some z) (found-number number_in number_in q vs z h) (In-found z us apart (In-permutation us vs perm z (found-In q vs z h)))

    go : (o : Option Numbered) → found number_in number_in q ys ≡ o → (r : Option Numbered) → found number_in number_in q xs ≡ r → o ≡ r
    go (Some z) s r t = sym (moved xs ys p a z s) ∙ t
    go None s None t = refl
    go None s (Some z) t = sym s ∙ moved ys xs (IsPermutation-sym xs ys p) b z t

-- where no two entries have one number, their pairs, sorted by number, are an index of them
pub index-sorted : (es : List LogEntry) (sorted : List Numbered) → IsDistinct es → IsPermutation (map pair_of es) sorted → IsNonDecreasingBy number_in sorted → IsIndex sorted es
index-sorted es sorted d p up =
    let few : (n : ℕ) → numbered number_in n (map pair_of es) ≤ 1 = λ n. subst (λ (k : ℕ). k ≤ 1) (sym (numbered-pairs n es)) (d n) in
    let fewer : (n : ℕ) → numbered number_in n sorted ≤ 1 = λ n. subst (λ (k : ℕ). k ≤ 1) (sym (numbered-permutation number_in (map pair_of es) sorted p n)) (few n) in
    let climbs : Climbs number_in number_in sorted = Climbs-adjacent number_in number_in sorted (λ k c lt. not-comes (number_in (get_or sorted (k + 1) c)) (number_in (get_or sorted k c)) (up k (k + 1) c (omega arith) lt)) in
    record {
      rising = rise-from sorted (Rises-Climbs number_in number_in sorted fewer climbs);
      gives = λ q. ap (λ (o : Option Numbered). option_map second_in o) (found-same q (map pair_of es) sorted p (Apart-counted number_in number_in (map pair_of es) few) (Apart-counted number_in number_in sorted fewer)) ∙ pairs-give q es;
    }
