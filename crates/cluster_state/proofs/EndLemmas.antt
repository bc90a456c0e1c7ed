-- Running jobs in the order in which they are expected to end: who starts enters, whoever enters first, and who ends leaves the others as they stand.
-- No two tie where each has a number of its own. And what a list of the ends, with the first to end in front, tells of the running jobs.
use Rattle.std.proofs.Common.{◌≡◌, ◌≢◌, ℕ, suc, ◌+◌, ◌≤◌, ◌<◌, Bool, true, false, cond, ◌||◌, ◌&&◌, ◌==◌, nat_eq, nat_lt, not, List, [], ◌∷◌, All, Any, get_or, filter, sum_by, count_by, length, insert, one-add, Option, Some, None, IfSome, IsNone, slice_get, refl, sym, ◌∙◌, ap, arith, subst, inl, inr, ⊎_elim, ◌⊎◌}
use Rattle.std.specs.List.{position_or_len}
use Rattle.std.specs.Option.{option_map}
use Rattle.std.proofs.lemmas.List.Sums.{sum_by-cons, get_or-le-sum_by}
use Rattle.std.specs.List.Sorted.{IsPermutation}
use Rattle.std.proofs.lemmas.List.{nil_from_length}
use Rattle.std.proofs.lemmas.List.Sorted.{IsPermutation-refl, IsPermutation-cons, IsPermutation-trans, IsPermutation-insert}
use Rattle.std.proofs.lemmas.List.Elements.{All-cons, All-head, All-tail, All-nil, All-weaker, All-filter}
use Rattle.std.proofs.lemmas.Bool.{cond_both, cond-true, cond-false, cases_Bool, cases_lt, lt-ltb, ltb-true, ltb-false, le-ltb, eq-eqb, eqb-true, and_from, and_parts, or_left, or_right, true≢false}
use Rattle.blocks.specs.Rows.{entered as row_entered}
use Rattle.scenarios.specs.Job.{EffectiveJob}
use Rattle.scenarios.specs.declared.placed.Placed.{Placed}
use Rattle.scenarios.specs.Placed.{expected_end, real_end}
use Rattle.cluster_state.specs.State.{State, IsSound, placed, waiting_job}
use Rattle.cluster_state.specs.Ends.{is_sooner, entered, by_end, EndsSooner, RisesByEnd}
use Rattle.cluster_state.proofs.StateLemmas.{sum_by-without}

abbrev pub Sooner : Placed → Placed → Type 0
Sooner a b = EndsSooner a b

-- a is expected to end earlier than b, or at the same second and has no greater number
abbrev pub NotLater : Placed → Placed → Type 0
NotLater a b = (expected_end a < expected_end b) ⊎ ((expected_end a ≡ expected_end b) × (a.job.number ≤ b.job.number))

pub sooner-is : (a b : Placed) → is_sooner a b ≡ true → Sooner a b
sooner-is a b h =
    let l = nat_lt (expected_end a) (expected_end b) in
    let e = expected_end a == expected_end b && nat_lt a.job.number b.job.number in
    ⊎_elim
    (λ (y : l ≡ true). inl (ltb-true (expected_end a) (expected_end b) y))
    (λ (n : l ≡ false).
    let rest : e ≡ true = ap (λ x. x || e) (sym n) ∙ h in
    let p = and_parts (expected_end a == expected_end b) (nat_lt a.job.number b.job.number) rest in
    inr (eqb-true (expected_end a) (expected_end b) p.0, ltb-true a.job.number b.job.number p.1))
    (cases_Bool l)

pub is-sooner : (a b : Placed) → Sooner a b → is_sooner a b ≡ true
is-sooner a b (inl l) = or_left (nat_lt (expected_end a) (expected_end b)) (expected_end a == expected_end b && nat_lt a.job.number b.job.number) (lt-ltb (expected_end a) (expected_end b) l)
is-sooner a b (inr p) =
    or_right (nat_lt (expected_end a) (expected_end b)) (expected_end a == expected_end b && nat_lt a.job.number b.job.number)
    (and_from (expected_end a == expected_end b) (nat_lt a.job.number b.job.number) (eq-eqb (expected_end a) (expected_end b) p.0) (lt-ltb a.job.number b.job.number p.1))

sooner-or : (a b : Placed) → Sooner a b ⊎ NotLater b a
sooner-or a b =
    ⊎_elim
    (λ (l : expected_end a < expected_end b). inl (inl l))
    (λ (l : expected_end b ≤ expected_end a).
    ⊎_elim
    (λ (m : expected_end b < expected_end a). inr (inl m))
    (λ (m : expected_end a ≤ expected_end b).
    let same : expected_end a ≡ expected_end b = omega arith in
    ⊎_elim
    (λ (n : a.job.number < b.job.number). inl (inr (same, n)))
    (λ (n : b.job.number ≤ a.job.number). inr (inr (sym same, n)))
    (cases_lt a.job.number b.job.number))
    (cases_lt (expected_end b) (expected_end a)))
    (cases_lt (expected_end a) (expected_end b))

sooner-never : (a b : Placed) → Sooner a b → NotLater b a → ⊥
sooner-never a b (inl l) (inl m) = omega arith
sooner-never a b (inl l) (inr m) = let k = m.0 in omega (arith, k)
sooner-never a b (inr l) (inl m) = let k = l.0 in omega (arith, k)
sooner-never a b (inr l) (inr m) = let k = l.1 in let n = m.1 in omega (arith, k, n)

pub not-sooner : (a b : Placed) → NotLater b a → is_sooner a b ≡ false
not-sooner a b h = ⊎_elim (λ (y : is_sooner a b ≡ true). absurd (sooner-never a b (sooner-is a b y) h)) (λ (n : is_sooner a b ≡ false). n) (cases_Bool (is_sooner a b))

strictly : (a b : Placed) → a.job.number ≢ b.job.number → NotLater a b → Sooner a b
strictly a b ne (inl l) = inl l
strictly a b ne (inr p) = inr (p.0, (let k = p.1 in ⊎_elim (λ (l : a.job.number < b.job.number). l) (λ (l : b.job.number ≤ a.job.number). absurd (ne (omega (arith, k)))) (cases_lt a.job.number b.job.number)))

pub sooner-than : (a b c : Placed) → Sooner a b → NotLater b c → Sooner a c
sooner-than a b c (inl l) (inl m) = inl (omega arith)
sooner-than a b c (inl l) (inr m) = inl (let k = m.0 in omega (arith, k))
sooner-than a b c (inr l) (inl m) = inl (let k = l.0 in omega (arith, k))
sooner-than a b c (inr l) (inr m) = inr ((let k = l.0 in let n = m.0 in omega (arith, k, n)), (let k = l.1 in let n = m.1 in omega (arith, k, n)))

pub weaker : (a b : Placed) → Sooner a b → NotLater a b
weaker a b (inl l) = inl l
weaker a b (inr p) = inr (p.0, (let k = p.1 in omega (arith, k)))

no-later-than : (a b c : Placed) → NotLater a b → NotLater b c → NotLater a c
no-later-than a b c (inl l) (inl m) = inl (omega arith)
no-later-than a b c (inl l) (inr m) = inl (let k = m.0 in omega (arith, k))
no-later-than a b c (inr l) (inl m) = inl (let k = l.0 in omega (arith, k))
no-later-than a b c (inr l) (inr m) = inr ((let k = l.0 in let n = m.0 in omega (arith, k, n)), (let k = l.1 in let n = m.1 in omega (arith, k, n)))

enters-before : (r x : Placed) (xs : List Placed) → Sooner r x → entered r (x ∷ xs) ≡ r ∷ x ∷ xs
enters-before r x xs s = cond-true (is_sooner r x) (r ∷ x ∷ xs) (x ∷ entered r xs) (is-sooner r x s)

enters-behind : (r x : Placed) (xs : List Placed) → NotLater x r → entered r (x ∷ xs) ≡ x ∷ entered r xs
enters-behind r x xs n = cond-false (is_sooner r x) (r ∷ x ∷ xs) (x ∷ entered r xs) (not-sooner r x n)

-- a sum with one more job entered is the job's own value and the sum over the others
pub sum_by-entered : (f : Placed → ℕ) (r : Placed) (xs : List Placed) → sum_by f (entered r xs) ≡ f r + sum_by f xs
sum_by-entered f r [] = omega arith
sum_by-entered f r (x ∷ xs) =
    cond_both (is_sooner r x) (r ∷ x ∷ xs) (x ∷ entered r xs) (λ l. sum_by f l ≡ f r + sum_by f (x ∷ xs))
    (λ _. sum_by-cons f r (x ∷ xs))
    (λ _. sum_by-cons f x (entered r xs) ∙ omega (arith, sum_by-entered f r xs, sum_by-cons f x xs))

-- a sum over running jobs is the same in the order of expected ends
pub sum_by-by_end : (f : Placed → ℕ) (rs : List Placed) → sum_by f (by_end rs) ≡ sum_by f rs
sum_by-by_end f [] = refl
sum_by-by_end f (r ∷ rs) = omega (arith, sum_by-entered f r (by_end rs), sum_by-by_end f rs, sum_by-cons f r rs)

pub All-entered : (P : Placed → Type 0) (r : Placed) (xs : List Placed) → P r → All P xs → All P (entered r xs)
All-entered P r [] h a = All-cons P r [] h a
All-entered P r (x ∷ xs) h a =
    cond_both (is_sooner r x) (r ∷ x ∷ xs) (x ∷ entered r xs) (λ l. All P l)
    (λ _. All-cons P r (x ∷ xs) h a)
    (λ _. All-cons P x (entered r xs) (All-head P x xs a) (All-entered P r xs h (All-tail P x xs a)))

-- what holds of all running jobs holds of all in the order of expected ends
pub All-by_end : (P : Placed → Type 0) (rs : List Placed) → All P rs → All P (by_end rs)
All-by_end P [] a = a
All-by_end P (r ∷ rs) a = All-entered P r (by_end rs) (All-head P r rs a) (All-by_end P rs (All-tail P r rs a))

pub length-entered : (r : Placed) (xs : List Placed) → length (entered r xs) ≡ length xs + 1
length-entered r [] = refl
length-entered r (x ∷ xs) =
    cond_both (is_sooner r x) (r ∷ x ∷ xs) (x ∷ entered r xs) (λ l. length l ≡ length (x ∷ xs) + 1)
    (λ _. omega arith)
    (λ _. let k = length-entered r xs in omega (arith, k))

-- as many jobs stand in the order of expected ends
pub length-by_end : (rs : List Placed) → length (by_end rs) ≡ length rs
length-by_end [] = refl
length-by_end (r ∷ rs) = let k = length-entered r (by_end rs) in let i = length-by_end rs in omega (arith, k, i)

-- none of these running jobs is expected to end sooner than one before it
abbrev pub NoneEndsSooner : List Placed → Type 0
NoneEndsSooner [] = Unit {0}
NoneEndsSooner (x ∷ xs) = All (NotLater x) xs × NoneEndsSooner xs

rises-entered : (r : Placed) (xs : List Placed) → NoneEndsSooner xs → NoneEndsSooner (entered r xs)
rises-entered r [] h = (All-nil (NotLater r), tt)
rises-entered r (x ∷ xs) h =
    ⊎_elim
    (λ (s : Sooner r x). subst NoneEndsSooner (sym (enters-before r x xs s)) (All-cons (NotLater r) x xs (weaker r x s) (All-weaker (NotLater x) (NotLater r) (λ y n. no-later-than r x y (weaker r x s) n) xs h.0), h))
    (λ (n : NotLater x r). subst NoneEndsSooner (sym (enters-behind r x xs n)) (All-entered (NotLater x) r xs n h.0, rises-entered r xs h.1))
    (sooner-or r x)

-- in the order of expected ends none is expected to end sooner than one before it
pub rises-by_end : (rs : List Placed) → NoneEndsSooner (by_end rs)
rises-by_end [] = tt
rises-by_end (r ∷ rs) = rises-entered r (by_end rs) (rises-by_end rs)

entered-entered : (a b : Placed) (xs : List Placed) → a.job.number ≢ b.job.number → entered a (entered b xs) ≡ entered b (entered a xs)
entered-entered a b [] ne =
    ⊎_elim
    (λ (s : Sooner a b). enters-before a b [] s ∙ sym (enters-behind b a [] (weaker a b s)))
    (λ (n : NotLater b a). enters-behind a b [] n ∙ sym (enters-before b a [] (strictly b a (λ e. ne (sym e)) n)))
    (sooner-or a b)
entered-entered a b (x ∷ xs) ne =
    ⊎_elim
    (λ (p : Sooner a x).
    ⊎_elim
    (λ (q : Sooner b x).
    ap (entered a) (enters-before b x xs q)
    ∙ ⊎_elim
    (λ (s : Sooner a b). enters-before a b (x ∷ xs) s ∙ sym (ap (entered b) (enters-before a x xs p) ∙ enters-behind b a (x ∷ xs) (weaker a b s) ∙ ap (λ l. a ∷ l) (enters-before b x xs q)))
    (λ (n : NotLater b a). enters-behind a b (x ∷ xs) n ∙ ap (λ l. b ∷ l) (enters-before a x xs p) ∙ sym (ap (entered b) (enters-before a x xs p) ∙ enters-before b a (x ∷ xs) (strictly b a (λ e. ne (sym e)) n)))
    (sooner-or a b))
    (λ (q : NotLater x b).
    ap (entered a) (enters-behind b x xs q) ∙ enters-before a x (entered b xs) p
    ∙ sym (ap (entered b) (enters-before a x xs p) ∙ enters-behind b a (x ∷ xs) (weaker a b (sooner-than a x b p q)) ∙ ap (λ l. a ∷ l) (enters-behind b x xs q)))
    (sooner-or b x))
    (λ (p : NotLater x a).
    ⊎_elim
    (λ (q : Sooner b x).
    ap (entered a) (enters-before b x xs q) ∙ enters-behind a b (x ∷ xs) (weaker b a (sooner-than b x a q p)) ∙ ap (λ l. b ∷ l) (enters-behind a x xs p)
    ∙ sym (ap (entered b) (enters-behind a x xs p) ∙ enters-before b x (entered a xs) q))
    (λ (q : NotLater x b).
    ap (entered a) (enters-behind b x xs q) ∙ enters-behind a x (entered b xs) p ∙ ap (λ l. x ∷ l) (entered-entered a b xs ne)
    ∙ sym (ap (entered b) (enters-behind a x xs p) ∙ enters-behind b x (entered a xs) q))
    (sooner-or b x))
    (sooner-or a x)

-- where no other has its number, who is placed among the running jobs by number enters those by expected end
pub by_end-placed : (r : Placed) (rs : List Placed) → count_by (λ (x : Placed). nat_eq x.job.number r.job.number) rs ≡ 0 → by_end (placed r rs) ≡ entered r (by_end rs)
by_end-placed r [] none = refl
by_end-placed r (x ∷ rs) none =
    let k = sum_by-cons (λ (x : Placed). cond {A = ℕ} (nat_eq x.job.number r.job.number) 1 0) x rs in
    let other : r.job.number ≢ x.job.number = λ e. (let one = cond-true {A = ℕ} (nat_eq x.job.number r.job.number) 1 0 (eq-eqb x.job.number r.job.number (sym e)) in omega (arith, none, k, one)) in
    cond_both (nat_lt r.job.number x.job.number) (r ∷ x ∷ rs) (x ∷ placed r rs) (λ l. by_end l ≡ entered r (entered x (by_end rs)))
    (λ _. refl)
    (λ _. ap (entered x) (by_end-placed r rs (omega (arith, none, k))) ∙ sym (entered-entered r x (by_end rs) other))

-- who is expected to end sooner than all others enters in front of them
pub enters-first : (r : Placed) (xs : List Placed) → All (Sooner r) xs → entered r xs ≡ r ∷ xs
enters-first r [] a = refl
enters-first r (x ∷ xs) a = enters-before r x xs (All-head (Sooner r) x xs a)

filter-entered : (p : Placed → Bool) (r : Placed) (xs : List Placed) → NoneEndsSooner xs → filter p (entered r xs) ≡ cond (p r) (entered r (filter p xs)) (filter p xs)
filter-entered p r [] h = refl
filter-entered p r (x ∷ xs) h =
    ⊎_elim
    (λ (s : Sooner r x).
    let all : All (Sooner r) (x ∷ xs) = All-cons (Sooner r) x xs s (All-weaker (NotLater x) (Sooner r) (λ y n. sooner-than r x y s n) xs h.0) in
    let first : entered r (filter p (x ∷ xs)) ≡ r ∷ filter p (x ∷ xs) = enters-first r (filter p (x ∷ xs)) (All-filter p (Sooner r) (x ∷ xs) all) in
    ap (filter p) (enters-before r x xs s) ∙ ap (λ l. cond (p r) l (filter p (x ∷ xs))) (sym first))
    (λ (n : NotLater x r).
    ap (filter p) (enters-behind r x xs n)
    ∙ ap (λ l. cond (p x) (x ∷ l) l) (filter-entered p r xs h.1)
    ∙ go (p x) (p r) n)
    (sooner-or r x)
  where
    go : (c d : Bool) → NotLater x r → cond c (x ∷ cond d (entered r (filter p xs)) (filter p xs)) (cond d (entered r (filter p xs)) (filter p xs))
        ≡ cond d (entered r (cond c (x ∷ filter p xs) (filter p xs))) (cond c (x ∷ filter p xs) (filter p xs))
    go true true n = sym (enters-behind r x (filter p xs) n)
    go true false n = refl
    go false true n = refl
    go false false n = refl

-- those that pass a test stand in the order of expected ends as they stand in that of all
pub by_end-filter : (p : Placed → Bool) (rs : List Placed) → by_end (filter p rs) ≡ filter p (by_end rs)
by_end-filter p [] = refl
by_end-filter p (r ∷ rs) =
    cond_both (p r) (r ∷ filter p rs) (filter p rs) (λ l. by_end l ≡ cond (p r) (entered r (filter p (by_end rs))) (filter p (by_end rs)))
    (λ y. ap (entered r) (by_end-filter p rs) ∙ sym (cond-true (p r) (entered r (filter p (by_end rs))) (filter p (by_end rs)) y))
    (λ n. by_end-filter p rs ∙ sym (cond-false (p r) (entered r (filter p (by_end rs))) (filter p (by_end rs)) n))
    ∙ sym (filter-entered p r (by_end rs) (rises-by_end rs))

pub entered-at : (r : Placed) (rs : List Placed) → entered r rs ≡ insert rs (position_or_len (λ (x : Placed). is_sooner r x) rs) r
entered-at r [] = refl
entered-at r (x ∷ rs) =
    elim (is_sooner r x) as (λ b. cond b (r ∷ x ∷ rs) (x ∷ entered r rs) ≡ insert (x ∷ rs) (cond (not b) (1 + position_or_len (λ (x : Placed). is_sooner r x) rs) 0) r) [
      | true ↦ refl
      | false ↦ rw one-add (ap (λ l. x ∷ l) (entered-at r rs))
    ]

-- one for each element adds up to how many there are
pub sum_by-ones : {X : Type 0} (xs : List X) → sum_by (λ x. 1) xs ≡ length xs
sum_by-ones [] = refl
sum_by-ones (x ∷ xs) = let k = sum_by-cons (λ x. 1) x xs in let i = sum_by-ones xs in omega (arith, k, i)

none-adds : {X : Type 0} (p : X → Bool) (xs : List X) → sum_by (λ x. cond (p x) 1 0) xs ≡ 0 → All (λ x. p x ≡ false) xs
none-adds p [] e = All-nil (λ x. p x ≡ false)
none-adds p (x ∷ xs) e =
    let k = sum_by-cons (λ x. cond {A = ℕ} (p x) 1 0) x xs in
    ⊎_elim
    (λ (y : p x ≡ true). let one = cond-true {A = ℕ} (p x) 1 0 y in absurd (omega (arith, e, k, one)))
    (λ (n : p x ≡ false). All-cons (λ x. p x ≡ false) x xs n (none-adds p xs (omega (arith, e, k))))
    (cases_Bool (p x))

-- where none passes a test none is counted
pub adds-none : {X : Type 0} (p : X → Bool) (xs : List X) → All (λ x. p x ≡ false) xs → sum_by (λ x. cond (p x) 1 0) xs ≡ 0
adds-none p [] a = refl
adds-none p (x ∷ xs) a =
    let k = sum_by-cons (λ x. cond {A = ℕ} (p x) 1 0) x xs in
    let none = cond-false {A = ℕ} (p x) 1 0 (All-head (λ x. p x ≡ false) x xs a) in
    omega (arith, k, none, adds-none p xs (All-tail (λ x. p x ≡ false) x xs a))

Any-first : {X : Type 0} (P : X → Type 0) (x : X) (xs : List X) → P x → Any P (x ∷ xs)
Any-first P x xs h = (0, x, omega arith, refl, h)

Any-later : {X : Type 0} (P : X → Type 0) (x : X) (xs : List X) → Any P xs → Any P (x ∷ xs)
Any-later P x xs (k, y, l, e, h) = (suc k, y, omega (arith, l), e, h)

-- where a test that only those with a property pass counts one at least, one has the property
pub one-adds : {X : Type 0} (P : X → Type 0) (p : X → Bool) (xs : List X) → ((x : X) → p x ≡ true → P x) → 1 ≤ sum_by (λ x. cond (p x) 1 0) xs → Any P xs
one-adds P p [] f l = absurd (omega (arith, l))
one-adds P p (x ∷ xs) f l =
    let k = sum_by-cons (λ x. cond {A = ℕ} (p x) 1 0) x xs in
    ⊎_elim
    (λ (y : p x ≡ true). Any-first P x xs (f x y))
    (λ (n : p x ≡ false). let none = cond-false {A = ℕ} (p x) 1 0 n in Any-later P x xs (one-adds P p xs f (omega (arith, l, k, none))))
    (cases_Bool (p x))

-- where one has a property, a test that all with this property pass counts one at least
pub adds-one : {X : Type 0} (P : X → Type 0) (p : X → Bool) (xs : List X) → ((x : X) → P x → p x ≡ true) → Any P xs → 1 ≤ sum_by (λ x. cond (p x) 1 0) xs
adds-one P p xs f (k, x, l, at, h) =
    let some = get_or-le-sum_by (λ x. cond {A = ℕ} (p x) 1 0) xs k x l in
    let one = cond-true {A = ℕ} (p x) 1 0 (f x h) in
    let here = ap (λ y. cond {A = ℕ} (p y) 1 0) at in
    omega (arith, some, one, here)

module _ {E : Type 0} (at : E → ℕ) where
  -- the seconds of these are those at which the running jobs end: whatever is added up over the ones is added up over the others
  abbrev pub EndsOf : List E → List Placed → Type 0
  EndsOf ends rs = (f : ℕ → ℕ) → sum_by (λ e. f (at e)) ends ≡ sum_by (λ r. f (real_end r)) rs

  pub as-many : (ends : List E) (rs : List Placed) → EndsOf ends rs → length ends ≡ length rs
  as-many ends rs h = sym (sum_by-ones ends) ∙ h (λ _. 1) ∙ sum_by-ones rs

  pub one-ends : (ends : List E) (rs : List Placed) (t i : ℕ) (d : E) → EndsOf ends rs → i < length ends → at (get_or ends i d) ≡ t → Any (λ r. real_end r ≡ t) rs
  one-ends ends rs t i d h l here =
      let f : ℕ → ℕ = λ n. cond (nat_eq n t) 1 0 in
      let one = cond-true {A = ℕ} (nat_eq (at (get_or ends i d)) t) 1 0 (eq-eqb (at (get_or ends i d)) t here) in
      let some = get_or-le-sum_by (λ e. f (at e)) ends i d l in
      let k = h f in
      one-adds (λ (r : Placed). real_end r ≡ t) (λ r. nat_eq (real_end r) t) rs (λ r e. eqb-true (real_end r) t e) (omega (arith, one, some, k))

  -- where none of these ends comes before a second, no running job ends before it
  pub none-sooner : (ends : List E) (rs : List Placed) (t : ℕ) → EndsOf ends rs → All (λ e. t ≤ at e) ends → All (λ r. t ≤ real_end r) rs
  none-sooner ends rs t h a =
      let f : ℕ → ℕ = λ n. cond (nat_lt n t) 1 0 in
      let zero' = adds-none (λ e. nat_lt (at e) t) ends (All-weaker (λ e. t ≤ at e) (λ e. nat_lt (at e) t ≡ false) (λ e l. le-ltb (at e) t l) ends a) in
      All-weaker (λ (r : Placed). nat_lt (real_end r) t ≡ false) (λ r. t ≤ real_end r) (λ r n. ltb-false (real_end r) t n) rs
      (none-adds (λ (r : Placed). nat_lt (real_end r) t) rs (sym (h f) ∙ zero'))

pub first-none : {E : Type 0} (at : E → ℕ) (ends : List E) → option_map at (slice_get ends 0) ≡ None → ends ≡ []
first-none at [] e = refl
first-none at (y ∷ ys) e = let k : Some (at y) ≡ None = e in cc

pub first-some : {E : Type 0} (at : E → ℕ) (ends : List E) (t : ℕ) → option_map at (slice_get ends 0) ≡ Some t → (rs : List Placed) → ((f : ℕ → ℕ) → sum_by (λ e. f (at e)) ends ≡ sum_by (λ r. f (real_end r)) rs) → Any (λ r. real_end r ≡ t) rs
first-some at [] t e rs h = let k : None ≡ Some t = e in cc
first-some at (y ∷ ys) t e rs h = let k : Some (at y) ≡ Some t = e in let same : at y ≡ t = cc in one-ends at (y ∷ ys) rs t 0 y h (omega arith) same

-- where all running jobs end after second t, those that outlast it are all
pub filter-later : (t : ℕ) (rs : List Placed) → All (λ r. t < real_end r) rs → filter (λ r. nat_lt t (real_end r)) rs ≡ rs
filter-later t [] a = refl
filter-later t (r ∷ rs) a =
    cond-true (nat_lt t (real_end r)) (r ∷ filter (λ r. nat_lt t (real_end r)) rs) (filter (λ r. nat_lt t (real_end r)) rs) (lt-ltb t (real_end r) (All-head (λ r. t < real_end r) r rs a))
    ∙ ap (λ l. r ∷ l) (filter-later t rs (All-tail (λ r. t < real_end r) r rs a))

-- nobody of the number of a waiting job runs
pub not-running : (s : State) (n : ℕ) (job : EffectiveJob) → IsSound s → waiting_job s n ≡ Some job → job.number ≡ n → count_by (λ (x : Placed). nat_eq x.job.number n) s.running ≡ 0
not-running s n job h found same =
    let one = cond-true {A = ℕ} (nat_eq job.number n) 1 0 (eq-eqb job.number n same) in
    omega (arith, one, h.once n, sum_by-without (λ (j : EffectiveJob). cond (nat_eq j.number n) 1 0) n s.waiting job found)

-- a list of the running jobs' ends has no first one just where nobody runs
pub next-end-none : {E : Type 0} (at : E → ℕ) (ends : List E) (rs : List Placed) (o : Option ℕ) → o ≡ option_map at (slice_get ends 0) → EndsOf at ends rs → (IsNone o → rs ≡ []) × (rs ≡ [] → IsNone o)
next-end-none at ends rs None e h = (
  λ _. nil_from_length rs (sym (as-many at ends rs h) ∙ ap length (first-none at ends (sym e))),
  λ _. refl,
)
next-end-none at ends rs (Some t) e h = (
  λ n. absurd (true≢false n),
  λ n. let none : ends ≡ [] = nil_from_length ends (as-many at ends rs h ∙ ap length n) in
      let k : Some t ≡ None = e ∙ ap (λ es. option_map at (slice_get es 0)) none in
      cc,
)

-- the first in a list of the running jobs' ends, if there is one, is the second at which one of them ends
pub next-end-found : {E : Type 0} (at : E → ℕ) (ends : List E) (rs : List Placed) (o : Option ℕ) → o ≡ option_map at (slice_get ends 0) → EndsOf at ends rs → IfSome o (λ t. Any (λ r. real_end r ≡ t) rs)
next-end-found at ends rs None e h = tt
next-end-found at ends rs (Some t) e h = first-some at ends t (sym e) rs h

-- a second that none in a list of the running jobs' ends comes before is one that no running job ends before
pub next-end-least : {E : Type 0} (at : E → ℕ) (ends : List E) (rs : List Placed) (o : Option ℕ) → IfSome o (λ t. All (λ e. t ≤ at e) ends) → EndsOf at ends rs → IfSome o (λ t. All (λ r. t ≤ real_end r) rs)
next-end-least at ends rs None a h = tt
next-end-least at ends rs (Some t) a h = none-sooner at ends rs t h a

-- where each is expected to end sooner than all behind it, so it is with one entered whose number none of them has
pub strict-entered : (r : Placed) (xs : List Placed) → RisesByEnd xs → All (λ x. x.job.number ≢ r.job.number) xs → RisesByEnd (entered r xs)
strict-entered r [] h a = (All-nil (EndsSooner r), tt)
strict-entered r (x ∷ xs) h a =
    ⊎_elim
    (λ (s : Sooner r x).
    subst RisesByEnd (sym (enters-before r x xs s)) (All-cons (EndsSooner r) x xs s (All-weaker (EndsSooner x) (EndsSooner r) (λ y n. sooner-than r x y s (weaker x y n)) xs h.0), h))
    (λ (n : NotLater x r).
    let other = All-head (λ x. x.job.number ≢ r.job.number) x xs a in
    subst RisesByEnd (sym (enters-behind r x xs n)) (All-entered (EndsSooner x) r xs (strictly x r other n) h.0, strict-entered r xs h.1 (All-tail (λ x. x.job.number ≢ r.job.number) x xs a)))
    (sooner-or r x)

pub strict-by_end : (rs : List Placed) → ((n : ℕ) → count_by (λ (x : Placed). nat_eq x.job.number n) rs ≤ 1) → RisesByEnd (by_end rs)
strict-by_end [] once = tt
strict-by_end (r ∷ rs) once =
    let n = r.job.number in
    let k = sum_by-cons (λ (x : Placed). cond {A = ℕ} (nat_eq x.job.number n) 1 0) r rs in
    let one = cond-true {A = ℕ} (nat_eq r.job.number n) 1 0 (eq-eqb r.job.number n refl) in
    let none = none-adds (λ (x : Placed). nat_eq x.job.number n) rs (let o = once n in omega (arith, o, k, one)) in
    let others = All-weaker (λ x. nat_eq x.job.number n ≡ false) (λ x. x.job.number ≢ n) (λ x f e. true≢false (sym (eq-eqb x.job.number n e) ∙ f)) rs none in
    strict-entered r (by_end rs)
    (strict-by_end rs (λ m. (let o = once m in let l = sum_by-cons (λ (x : Placed). cond {A = ℕ} (nat_eq x.job.number m) 1 0) r rs in omega (arith, o, l))))
    (All-by_end (λ x. x.job.number ≢ n) rs others)

-- of the running jobs of a sound state, by expected ends, each is expected to end sooner than all those behind it
pub rises-of : (s : State) → IsSound s → RisesByEnd (by_end s.running)
rises-of s h = strict-by_end s.running (λ n. (let o = h.once n in omega (arith, o)))

-- running jobs by their expected ends are the same jobs in another order: each stands there once
pub permuted-by_end : (rs : List Placed) → IsPermutation rs (by_end rs)
permuted-by_end [] = IsPermutation-refl []
permuted-by_end (r ∷ rs) =
    let runners = by_end rs in
    IsPermutation-trans (r ∷ rs) (r ∷ runners) (entered r runners) (IsPermutation-cons r rs runners (permuted-by_end rs))
    (subst (IsPermutation (r ∷ runners)) (sym (entered-at r runners)) (IsPermutation-insert runners (position_or_len (λ (x : Placed). is_sooner r x) runners) r))

-- a job enters a row of blocks where it enters the order of expected ends, if no other there has its number
pub entered-same : (r : Placed) (runners : List Placed) → All (λ x. x.job.number ≢ r.job.number) runners → row_entered expected_end (λ (x : Placed). x.job.number) r runners ≡ entered r runners
entered-same r [] a = refl
entered-same r (x ∷ xs) a =
    ⊎_elim
    (λ (s : Sooner r x). cond-false (is_sooner x r) (x ∷ row_entered expected_end (λ (x : Placed). x.job.number) r xs) (r ∷ x ∷ xs) (not-sooner x r (weaker r x s)) ∙ sym (enters-before r x xs s))
    (λ (n : NotLater x r).
    let other = All-head (λ x. x.job.number ≢ r.job.number) x xs a in
    cond-true (is_sooner x r) (x ∷ row_entered expected_end (λ (x : Placed). x.job.number) r xs) (r ∷ x ∷ xs) (is-sooner x r (strictly x r other n))
    ∙ ap (λ l. x ∷ l) (entered-same r xs (All-tail (λ x. x.job.number ≢ r.job.number) x xs a)) ∙ sym (enters-behind r x xs n))
    (sooner-or r x)
