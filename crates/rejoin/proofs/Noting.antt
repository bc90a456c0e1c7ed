-- Starts by number, in lists and in maps.
use Rattle.std.proofs.Common.{◌≡◌, ℕ, Bool, true, false, cond, not, nat_eq, Equal, List, [], ◌∷◌, ◌++◌, length, count_by, filter, find, Option, Some, None, refl, sym, ◌∙◌, ap, arith, ⊎_elim}
use Rattle.std.specs.Option.{option_map}
use Rattle.std.specs.Ordering.{nat_cmp, is_eq}
use Rattle.std.specs.Cmp.{nat_cmp_is}
use Rattle.std.specs.BTreeMap.{is_at}
use Rattle.std.specs.Map.{lookup}
use Rattle.std.proofs.lemmas.List.Sums.{sum_by-cons}
use Rattle.std.proofs.lemmas.Bool.{cond-true, cond-false, cases_Bool, eq-eqb, eqb-true, false≢true}
use Rattle.easy_rule.specs.declared.start.Start.{Start}
use Rattle.easy_rule.specs.Simulation.{start_of}

seconds-of : (b : Bool) (y : Start) (o : Option Start) → option_map (λ (x : Start). x.at) (cond b (Some y) o) ≡ cond b (Some y.at) (option_map (λ (x : Start). x.at) o)
seconds-of true y o = refl
seconds-of false y o = refl

-- the start of a number is the first start's second, where that is of the number, or else that among the others
pub start-cons : (y : Start) (ys : List Start) (n : ℕ) → start_of (y ∷ ys) n ≡ cond (nat_eq y.number n) (Some y.at) (start_of ys n)
start-cons y ys n = seconds-of (nat_eq y.number n) y (find (λ (x : Start). nat_eq x.number n) ys)

apart : (a b : Bool) (u v w : Option ℕ) → (a ≡ true → b ≡ true → ⊥) → cond a u (cond b v w) ≡ cond b v (cond a u w)
apart true true u v w h = absurd (h refl refl)
apart true false u v w h = refl
apart false true u v w h = refl
apart false false u v w h = refl

not-first : (b : Bool) (a : ℕ) (o : Option ℕ) → cond b (Some a) o ≡ None → (b ≡ false) × (o ≡ None)
not-first true a o e = absurd (let k : Some a ≡ None = e in cc)
not-first false a o e = (refl, e)

-- where a number has no start, the first one isn't its, and it has none among the others
pub without-first : (y : Start) (ys : List Start) (n : ℕ) → start_of (y ∷ ys) n ≡ None → (nat_eq y.number n ≡ false) × (start_of ys n ≡ None)
without-first y ys n e = not-first (nat_eq y.number n) y.at (start_of ys n) (sym (start-cons y ys n) ∙ e)

-- with one start more, of a number that had none, this number has its second, and each other one starts as before
pub start-push : (xs : List Start) (x : Start) (n : ℕ) → start_of xs x.number ≡ None → start_of (xs ++ x ∷ []) n ≡ cond (nat_eq x.number n) (Some x.at) (start_of xs n)
start-push [] x n e = start-cons x [] n
start-push (y ∷ ys) x n e =
    let other = without-first y ys x.number e in
    start-cons y (ys ++ x ∷ []) n ∙ ap (cond (nat_eq y.number n) (Some y.at)) (start-push ys x n other.1)
    ∙ apart (nat_eq y.number n) (nat_eq x.number n) (Some y.at) (Some x.at) (start_of ys n)
    (λ f g. false≢true (sym other.0 ∙ eq-eqb y.number x.number (eqb-true y.number n f ∙ sym (eqb-true x.number n g))))
    ∙ ap (cond (nat_eq x.number n) (Some x.at)) (sym (start-cons y ys n))

-- without the starts of one number it has none, and each other number starts as before
pub start-without : (m : ℕ) (xs : List Start) (n : ℕ) → start_of (filter (λ (y : Start). not (nat_eq m y.number)) xs) n ≡ cond (nat_eq m n) None (start_of xs n)
start-without m [] n = both (nat_eq m n)
  where
    both : (b : Bool) → None ≡ cond {A = Option ℕ} b None None
    both true = refl
    both false = refl
start-without m (y ∷ ys) n =
    ⊎_elim
    (λ (here : nat_eq m y.number ≡ true).
    ap (λ l. start_of l n) (cond-false (not (nat_eq m y.number)) (y ∷ left) left (ap not here)) ∙ start-without m ys n
    ∙ same (nat_eq m n) (nat_eq y.number n) (λ f g. false≢true (sym f ∙ eq-eqb m n (eqb-true m y.number here ∙ eqb-true y.number n g))) ∙ ap (cond (nat_eq m n) None) (sym (start-cons y ys n)))
    (λ (other : nat_eq m y.number ≡ false).
    ap (λ l. start_of l n) (cond-true (not (nat_eq m y.number)) (y ∷ left) left (ap not other)) ∙ start-cons y left n ∙ ap (cond (nat_eq y.number n) (Some y.at)) (start-without m ys n)
    ∙ apart (nat_eq y.number n) (nat_eq m n) (Some y.at) None (start_of ys n) (λ f g. false≢true (sym other ∙ eq-eqb m y.number (eqb-true m n g ∙ sym (eqb-true y.number n f))))
    ∙ ap (cond (nat_eq m n) None) (sym (start-cons y ys n)))
    (cases_Bool (nat_eq m y.number))
  where
    left : List Start
    left = filter (λ (z : Start). not (nat_eq m z.number)) ys

    same : (a b : Bool) → (a ≡ false → b ≡ true → ⊥) → cond a None (start_of ys n) ≡ cond a None (cond b (Some y.at) (start_of ys n))
    same true b h = refl
    same false true h = absurd (h refl refl)
    same false false h = refl

-- a number without a start has none among those of the starts that pass a test
pub start-among : (p : Start → Bool) (xs : List Start) (n : ℕ) → start_of xs n ≡ None → start_of (filter p xs) n ≡ None
start-among p [] n e = refl
start-among p (y ∷ ys) n e = let other = without-first y ys n e in go (p y) other.0 (start-among p ys n other.1)
  where
    go : (b : Bool) → nat_eq y.number n ≡ false → start_of (filter p ys) n ≡ None → start_of (cond b (y ∷ filter p ys) (filter p ys)) n ≡ None
    go false other rest = rest
    go true other rest = start-cons y (filter p ys) n ∙ cond-false (nat_eq y.number n) (Some y.at) (start_of (filter p ys) n) other ∙ rest

-- where no number has a start, there is none
pub no-start : (xs : List Start) → ((n : ℕ) → start_of xs n ≡ None) → xs ≡ []
no-start [] h = refl
no-start (y ∷ ys) h = absurd (false≢true (sym (without-first y ys y.number (h y.number)).0 ∙ eq-eqb y.number y.number refl))

abbrev found : List (ℕ × ℕ) → ℕ → Option ℕ
found es n = lookup (is_at (nat_cmp n)) es

-- where there is no entry, no number is found
pub none-found : (es : List (ℕ × ℕ)) → length es ≡ 0 → (n : ℕ) → found es n ≡ None
none-found [] e n = refl
none-found (x ∷ xs) e n = absurd (omega (arith, e))

-- where no number is found, there is no entry
pub found-none : (es : List (ℕ × ℕ)) → ((n : ℕ) → found es n ≡ None) → length es ≡ 0
found-none [] h = refl
found-none (x ∷ xs) h = absurd (let k : Some x.1 ≡ None = sym (cond-true (is_eq (nat_cmp x.0 x.0)) (Some x.1) (found xs x.0) (same x.0)) ∙ h x.0 in cc)
  where
    same : (n : ℕ) → is_eq (nat_cmp n n) ≡ true
    same n = ap is_eq (sym (nat_cmp_is n n Equal refl))

-- a number of which no start is counted has none
pub no-count : (xs : List Start) (n : ℕ) → count_by (λ (x : Start). nat_eq x.number n) xs ≡ 0 → start_of xs n ≡ None
no-count [] n e = refl
no-count (y ∷ ys) n e =
    let more = sum_by-cons (λ (x : Start). cond {A = ℕ} (nat_eq x.number n) 1 0) y ys in
    ⊎_elim
    (λ (here : nat_eq y.number n ≡ true). absurd (let one = cond-true {A = ℕ} (nat_eq y.number n) 1 0 here in omega (arith, e, more, one)))
    (λ (other : nat_eq y.number n ≡ false).
    let none = cond-false {A = ℕ} (nat_eq y.number n) 1 0 other in
    start-cons y ys n ∙ cond-false (nat_eq y.number n) (Some y.at) (start_of ys n) other ∙ no-count ys n (omega (arith, e, more, none)))
    (cases_Bool (nat_eq y.number n))
