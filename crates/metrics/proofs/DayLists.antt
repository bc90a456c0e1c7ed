-- The days in which something is taken, as a list: by rising day, with what the jobs take.
use Rattle.std.proofs.Common.{◌≡◌, ℕ, zero, suc, ◌+◌, ◌-◌, ◌==◌, ◌<◌, ◌≤◌, Bool, true, false, cond, eqb, ltb, List, [], ◌∷◌, ◌++◌, length, map, get_or, ap, sym, subst, arith, add-one, All, refl, ◌∙◌, inl, inr, Option, Some, None, Less, Greater}
use Rattle.std.specs.Ordering.{nat_cmp}
use Rattle.std.specs.Cmp.{nat_cmp_is}
use Rattle.std.specs.BTreeMap.{is_at}
use Rattle.std.specs.Map.{keys_of, lookup}
use Rattle.std.specs.List.{insert, AllWithin}
use Rattle.std.specs.List.Sorted.{IsStrictlySortedBy}
use Rattle.std.proofs.lemmas.Cmp.{nat_cmp_total}
use Rattle.std.proofs.lemmas.Bool.{cases_Bool}
use Rattle.std.proofs.lemmas.Bool.Decides.{nat_tests, Decides-eqb}
use Rattle.std.proofs.lemmas.List.{append-nil, map-append}
use Rattle.std.proofs.lemmas.List.Elements.{All-append, All-cons, All-nil}
use Rattle.std.proofs.lemmas.List.Edits.{insert-append_right}
use Rattle.scenarios.specs.declared.placed.Placed.{Placed}
use Rattle.metrics.specs.Days.{AreFallsOf, busy_entry, busy_on, day_list, days_below, end_of, from_day}
use Rattle.metrics.proofs.Falls.{busy_between, less_before, none_behind, same_day}
use Rattle.metrics.proofs.RisingLists.{rises-insert}

abbrev first_of : Option ℕ → Option ℕ → Option ℕ
first_of None o = o
first_of (Some x) o = Some x

lookup-push : (t : ℕ → Bool) (es : List (ℕ × ℕ)) (y : ℕ × ℕ) → lookup t (es ++ y ∷ []) ≡ first_of (lookup t es) (cond (t y.0) (Some y.1) None)
lookup-push t [] y = elim (cases_Bool (t y.0)) [
  | inl h ↦ rw h refl
  | inr h ↦ rw h refl
]
lookup-push t (e ∷ es) y = elim (cases_Bool (t e.0)) [
  | inl h ↦ rw h refl
  | inr h ↦ rw h (lookup-push t es y)
]

kept : (o : Option ℕ) → first_of o None ≡ o
kept None = refl
kept (Some x) = refl

not_there : (q n : ℕ) → n < q → is_at (nat_cmp q) n ≡ false
not_there q n h = same_day q n ∙ grind (arith, nat_tests, h)

not_yet : (q n : ℕ) → q < n → is_at (nat_cmp q) n ≡ false
not_yet q n h = same_day q n ∙ grind (arith, nat_tests, h)

just_there : (n : ℕ) → is_at (nat_cmp n) n ≡ true
just_there n = same_day n n ∙ grind (arith, nat_tests)

absent : (f : ℕ → ℕ) (n q : ℕ) → n ≤ q → lookup (is_at (nat_cmp q)) (days_below f n) ≡ None
absent f zero q h = refl
absent f (suc n) q h =
    let ih = absent f n q (omega (arith, h)) in
    let s = not_there q n (omega (arith, h)) in
    elim (cases_Bool (f n == 0)) [
      | inl t ↦ rw t ih
      | inr t ↦ rw t (lookup-push (is_at (nat_cmp q)) (days_below f n) (n, f n) ∙ rw (ih, s) refl)
    ]

its_own : (f : ℕ → ℕ) (n : ℕ) → lookup (is_at (nat_cmp n)) (days_below f (suc n)) ≡ busy_entry (f n)
its_own f n = elim (cases_Bool (f n == 0)) [
  | inl t ↦ rw t (absent f n n (omega arith))
  | inr t ↦ rw t (lookup-push (is_at (nat_cmp n)) (days_below f n) (n, f n) ∙ rw (absent f n n (omega arith), just_there n) refl)
]

present : (f : ℕ → ℕ) (n q : ℕ) → q < n → lookup (is_at (nat_cmp q)) (days_below f n) ≡ busy_entry (f q)
present f zero q h = absurd (omega (arith, h))
present f (suc n) q h = elim (cases_Bool (eqb n q)) [
  | inl same ↦ subst (λ m. lookup (is_at (nat_cmp m)) (days_below f (suc n)) ≡ busy_entry (f m)) ((Decides-eqb n q).0 same) (its_own f n)
  | inr other ↦ let less : q < n = grind (arith, nat_tests, other, h) in
      let ih = present f n q less in
      let s = not_yet q n less in
      elim (cases_Bool (f n == 0)) [
        | inl t ↦ rw t ih
        | inr t ↦ rw t (lookup-push (is_at (nat_cmp q)) (days_below f n) (n, f n) ∙ rw s (kept (lookup (is_at (nat_cmp q)) (days_below f n)) ∙ ih))
      ]
]

pub record Rises (n : ℕ) (es : List (ℕ × ℕ)) : Type 0 where
  pub rise : IsStrictlySortedBy nat_cmp (keys_of es)
  pub below : All (λ (e : ℕ × ℕ). e.0 < n) es

pushed : (n b : ℕ) (es : List (ℕ × ℕ)) → Rises n es → Rises (suc n) (es ++ (n, b) ∷ [])
pushed n b es h = record {
  rise =
      let P : List (ℕ × ℕ) → Type 0 = λ xs. IsStrictlySortedBy nat_cmp (keys_of xs) in
      let at : insert (es ++ []) (length es) (n, b) ≡ es ++ (n, b) ∷ [] = insert-append_right es [] (length es) (length es) (n, b) refl (omega arith) ∙ end in
      subst P at (rises-insert nat_cmp_total (es ++ []) (length es) (n, b) (omega (arith, same_length)) low high (subst P (sym (append-nil es)) h.rise));
  below = All-append (λ (e : ℕ × ℕ). e.0 < suc n) es ((n, b) ∷ []) (λ k d l. let a = h.below k d l in omega (arith, a)) (All-cons (λ (e : ℕ × ℕ). e.0 < suc n) (n, b) [] (omega arith) (All-nil (λ (e : ℕ × ℕ). e.0 < suc n)));
}
  where
    same_length : length (es ++ []) ≡ length es
    same_length = ap length (append-nil es)

    end : es ++ insert [] (length es - length es) (n, b) ≡ es ++ (n, b) ∷ []
    end = let z : length es - length es ≡ 0 = omega arith in rw z refl

    low : AllWithin (λ (e : ℕ × ℕ). nat_cmp e.0 n ≡ Less) (es ++ []) 0 (length es)
    low = subst (λ (xs : List (ℕ × ℕ)). AllWithin (λ (e : ℕ × ℕ). nat_cmp e.0 n ≡ Less) xs 0 (length es)) (sym (append-nil es)) (λ k d m l. sym (nat_cmp_is (get_or es k d).0 n Less (h.below k d l)))

    high : AllWithin (λ (e : ℕ × ℕ). nat_cmp e.0 n ≡ Greater) (es ++ []) (length es) (length (es ++ []))
    high k d m l = absurd (omega (arith, m, l, same_length))

wider : (n : ℕ) (es : List (ℕ × ℕ)) → Rises n es → Rises (suc n) es
wider n es h = record { rise = h.rise; below = λ k d l. let a = h.below k d l in omega (arith, a) }

rises : (f : ℕ → ℕ) (n : ℕ) → Rises n (days_below f n)
unfolding IsStrictlySortedBy
rises f zero = record { rise = tt; below = All-nil (λ (e : ℕ × ℕ). e.0 < 0) }
rises f (suc n) = elim (cases_Bool (f n == 0)) [
  | inl t ↦ rw t (wider n (days_below f n) (rises f n))
  | inr t ↦ rw t (pushed n (f n) (days_below f n) (rises f n))
]

-- the days of a list of days rise
pub day_list-rises : (starts ends : List (ℕ × ℕ)) → IsStrictlySortedBy nat_cmp (keys_of (day_list starts ends))
day_list-rises starts ends = (rises (λ d. from_day d ends - from_day d starts) (end_of ends)).rise

-- what stands in the list for a day is what the jobs take
pub day_list-has : (ps : List Placed) (starts ends : List (ℕ × ℕ)) → AreFallsOf ps starts ends → (q : ℕ) → lookup (is_at (nat_cmp q)) (day_list starts ends) ≡ busy_entry (busy_on q ps)
day_list-has ps starts ends h q =
    let f : ℕ → ℕ = λ d. from_day d ends - from_day d starts in
    let b = busy_between q ps in
    let v : f q ≡ busy_on q ps = omega (arith, b, h.at_starts q, h.at_ends q) in
    elim (cases_Bool (ltb q (end_of ends))) [
      | inl t ↦ let l : q < end_of ends = grind (arith, nat_tests, t) in present f (end_of ends) q l ∙ ap busy_entry v
      | inr t ↦ let l : end_of ends ≤ q = grind (arith, nat_tests, t) in
          let z = none_behind q ends l in
          let n : busy_on q ps ≡ 0 = omega (arith, z, b, h.at_ends q) in absent f (end_of ends) q l ∙ sym (ap busy_entry n)
    ]

-- one day more of the list, with its row where something is taken
pub row_more : {R : Type 0} (row : ℕ × ℕ → R) (f : ℕ → ℕ) (n : ℕ) (rows : List R) → rows ≡ map row (days_below f n) → 0 < f n → rows ++ row (n, f n) ∷ [] ≡ map row (days_below f (n + 1))
row_more {R} row f n rows e h =
    let t : (f n == 0) ≡ false = grind (arith, nat_tests, h) in
    let more : rows ++ row (n, f n) ∷ [] ≡ map row (days_below f (suc n)) = rw t (ap (λ (rs : List R). rs ++ row (n, f n) ∷ []) e ∙ sym (map-append row (days_below f n) ((n, f n) ∷ []))) in
    more ∙ ap (λ m. map row (days_below f m)) (sym (add-one n))

-- one day more in which nothing is
pub row_none : {R : Type 0} (row : ℕ × ℕ → R) (f : ℕ → ℕ) (n : ℕ) → f n ≡ 0 → map row (days_below f n) ≡ map row (days_below f (n + 1))
row_none row f n h =
    let t : (f n == 0) ≡ true = grind (arith, nat_tests, h) in
    let same : map row (days_below f n) ≡ map row (days_below f (suc n)) = rw t refl in
    same ∙ ap (λ m. map row (days_below f m)) (sym (add-one n))

-- of a day of which as much lies before ends as before starts nothing stands in the list
pub nothing_on : (ps : List Placed) (starts ends : List (ℕ × ℕ)) → AreFallsOf ps starts ends → (q : ℕ) → from_day q starts ≡ from_day q ends → None ≡ lookup (is_at (nat_cmp q)) (day_list starts ends)
nothing_on ps starts ends h q e =
    let b = less_before ps starts ends h q in
    let z : busy_on q ps ≡ 0 = omega (arith, b, e) in sym (day_list-has ps starts ends h q ∙ ap busy_entry z)

-- of another day the difference does
pub busy_there : (ps : List Placed) (starts ends : List (ℕ × ℕ)) → AreFallsOf ps starts ends → (q n : ℕ) → (from_day q starts ≡ from_day q ends → ⊥) → n ≡ from_day q ends - from_day q starts → Some n ≡ lookup (is_at (nat_cmp q)) (day_list starts ends)
busy_there ps starts ends h q n apart e =
    let b = less_before ps starts ends h q in
    let v : n ≡ busy_on q ps = omega (arith, b, e) in
    ap (λ (m : ℕ). Some m) v ∙ entry (busy_on q ps) (λ z. apart (omega (arith, b, z))) ∙ sym (day_list-has ps starts ends h q)
  where
    entry : (m : ℕ) → (m ≡ 0 → ⊥) → Some m ≡ busy_entry m
    entry m h = let t : (m == 0) ≡ false = grind (arith, nat_tests, h) in rw t refl
