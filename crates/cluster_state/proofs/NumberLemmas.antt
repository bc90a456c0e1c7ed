-- The running jobs in a row by their expected ends, and in the order of their numbers: where no two have one number, each order is found again
-- from the other.
use Rattle.std.proofs.Common.{◌≡◌, ◌≢◌, ℕ, ◌+◌, ◌≤◌, ◌<◌, Bool, false, cond, nat_eq, nat_lt, zero, suc, List, [], ◌∷◌, ◌++◌, take, length, All, map, filter, get_or, sum_by, count_by, refl, sym, ◌∙◌, ap, arith, subst, ⊎_elim}
use Rattle.std.specs.List.{position_or_len}
use Rattle.std.specs.List.Sorted.{IsPermutation, IsNonDecreasingBy}
use Rattle.std.proofs.lemmas.List.{take_more}
use Rattle.std.proofs.lemmas.List.Sums.{sum_by-cons, sum_by_more_le}
use Rattle.std.proofs.lemmas.List.Sorted.{IsPermutation-refl, IsPermutation-cons, IsPermutation-trans, IsPermutation-insert, IsPermutation-map}
use Rattle.std.proofs.lemmas.List.Elements.{All-nil, All-cons, All-head, All-tail, All-get_or}
use Rattle.std.proofs.lemmas.Bool.{cond_both, cond-true, cond-false, cases_lt, lt-ltb, le-ltb, eq-eqb}
use Rattle.std.proofs.lemmas.Bool.Decides.{nat_tests}
use Rattle.swf_text.specs.Log.{submits_before}
use Rattle.job_table.proofs.Lemmas.{Opens, Climbs, Climbs-adjacent, Rises-Climbs, numbered-permutation, arrangement-unique}
use Rattle.blocks.specs.Rows.{entered as row_entered}
use Rattle.scenarios.specs.declared.placed.Placed.{Placed}
use Rattle.scenarios.specs.Placed.{expected_end}
use Rattle.cluster_state.specs.declared.snapshot.RunningNumber.{RunningNumber}
use Rattle.cluster_state.specs.State.{placed, RisesByNumber}
use Rattle.cluster_state.specs.Snapshot.{number_of, NumbersRise}
use Rattle.cluster_state.specs.Ends.{is_sooner, entered, by_end, by_number, RisesByEnd}
use Rattle.cluster_state.proofs.StateLemmas.{sum_by-placed, sum_by-filter-le, placed-at, once-more}
use Rattle.cluster_state.proofs.EndLemmas.{strict-entered, sum_by-entered, sum_by-by_end, by_end-placed, by_end-filter, enters-first, entered-same, sum_by-ones}
use Rattle.cluster_state.proofs.RiseLemmas.{rises-placed, rises-filter, numbers-rise}
use Rattle.cluster_state.proofs.SnapshotLemmas.{counts-running}

-- how many of these running jobs have the number
abbrev pub Having : ℕ → List Placed → ℕ
Having n rs = count_by (λ (r : Placed). nat_eq r.job.number n) rs

-- no two of these running jobs have one number
abbrev pub Once : List Placed → Type 0
Once rs = (n : ℕ) → Having n rs ≤ 1

once-tail : (r : Placed) (rs : List Placed) → Once (r ∷ rs) → Once rs
once-tail r rs once n = (let o = once n in let k = sum_by-cons (λ (x : Placed). cond {A = ℕ} (nat_eq x.job.number n) 1 0) r rs in omega (arith, o, k))

alone : (r : Placed) (rs : List Placed) → Once (r ∷ rs) → Having r.job.number rs ≡ 0
alone r rs once =
    let n = r.job.number in
    let o = once n in
    let k = sum_by-cons (λ (x : Placed). cond {A = ℕ} (nat_eq x.job.number n) 1 0) r rs in
    let one = cond-true {A = ℕ} (nat_eq r.job.number n) 1 0 (eq-eqb r.job.number n refl) in
    omega (arith, o, k, one)

other : (n : ℕ) (x : Placed) (xs : List Placed) → Having n (x ∷ xs) ≡ 0 → x.job.number ≢ n
other n x xs none e =
    let k = sum_by-cons (λ (x : Placed). cond {A = ℕ} (nat_eq x.job.number n) 1 0) x xs in
    let one = cond-true {A = ℕ} (nat_eq x.job.number n) 1 0 (eq-eqb x.job.number n e) in
    omega (arith, none, k, one)

none-tail : (n : ℕ) (x : Placed) (xs : List Placed) → Having n (x ∷ xs) ≡ 0 → Having n xs ≡ 0
none-tail n x xs none = (let k = sum_by-cons (λ (x : Placed). cond {A = ℕ} (nat_eq x.job.number n) 1 0) x xs in omega (arith, none, k))

others : (n : ℕ) (xs : List Placed) → Having n xs ≡ 0 → All (λ (x : Placed). x.job.number ≢ n) xs
others n [] none = All-nil (λ (x : Placed). x.job.number ≢ n)
others n (x ∷ xs) none = All-cons (λ (x : Placed). x.job.number ≢ n) x xs (other n x xs none) (others n xs (none-tail n x xs none))

placed-before : (r x : Placed) (xs : List Placed) → r.job.number < x.job.number → placed r (x ∷ xs) ≡ r ∷ x ∷ xs
placed-before r x xs l = cond-true (nat_lt r.job.number x.job.number) (r ∷ x ∷ xs) (x ∷ placed r xs) (lt-ltb r.job.number x.job.number l)

placed-behind : (r x : Placed) (xs : List Placed) → x.job.number ≤ r.job.number → placed r (x ∷ xs) ≡ x ∷ placed r xs
placed-behind r x xs l = cond-false (nat_lt r.job.number x.job.number) (r ∷ x ∷ xs) (x ∷ placed r xs) (le-ltb r.job.number x.job.number l)

more : (a b : Placed) → a.job.number ≢ b.job.number → b.job.number ≤ a.job.number → b.job.number < a.job.number
more a b ne l = ⊎_elim (λ (m : b.job.number < a.job.number). m) (λ (m : a.job.number ≤ b.job.number). absurd (ne (omega (arith, l, m)))) (cases_lt b.job.number a.job.number)

placed-placed : (a b : Placed) (xs : List Placed) → a.job.number ≢ b.job.number → placed a (placed b xs) ≡ placed b (placed a xs)
placed-placed a b [] ne =
    ⊎_elim
    (λ (l : a.job.number < b.job.number). placed-before a b [] l ∙ sym (placed-behind b a [] (omega (arith, l))))
    (λ (l : b.job.number ≤ a.job.number). placed-behind a b [] l ∙ sym (placed-before b a [] (more a b ne l)))
    (cases_lt a.job.number b.job.number)
placed-placed a b (x ∷ xs) ne =
    ⊎_elim
    (λ (p : a.job.number < x.job.number).
    ⊎_elim
    (λ (q : b.job.number < x.job.number).
    ap (placed a) (placed-before b x xs q)
    ∙ ⊎_elim
    (λ (l : a.job.number < b.job.number). placed-before a b (x ∷ xs) l ∙ sym (ap (placed b) (placed-before a x xs p) ∙ placed-behind b a (x ∷ xs) (omega (arith, l)) ∙ ap (λ l. a ∷ l) (placed-before b x xs q)))
    (λ (l : b.job.number ≤ a.job.number). placed-behind a b (x ∷ xs) l ∙ ap (λ l. b ∷ l) (placed-before a x xs p) ∙ sym (ap (placed b) (placed-before a x xs p) ∙ placed-before b a (x ∷ xs) (more a b ne l)))
    (cases_lt a.job.number b.job.number))
    (λ (q : x.job.number ≤ b.job.number).
    ap (placed a) (placed-behind b x xs q) ∙ placed-before a x (placed b xs) p
    ∙ sym (ap (placed b) (placed-before a x xs p) ∙ placed-behind b a (x ∷ xs) (omega (arith, p, q)) ∙ ap (λ l. a ∷ l) (placed-behind b x xs q)))
    (cases_lt b.job.number x.job.number))
    (λ (p : x.job.number ≤ a.job.number).
    ⊎_elim
    (λ (q : b.job.number < x.job.number).
    ap (placed a) (placed-before b x xs q) ∙ placed-behind a b (x ∷ xs) (omega (arith, p, q)) ∙ ap (λ l. b ∷ l) (placed-behind a x xs p)
    ∙ sym (ap (placed b) (placed-behind a x xs p) ∙ placed-before b x (placed a xs) q))
    (λ (q : x.job.number ≤ b.job.number).
    ap (placed a) (placed-behind b x xs q) ∙ placed-behind a x (placed b xs) p ∙ ap (λ l. x ∷ l) (placed-placed a b xs ne)
    ∙ sym (ap (placed b) (placed-behind a x xs p) ∙ placed-behind b x (placed a xs) q))
    (cases_lt b.job.number x.job.number))
    (cases_lt a.job.number x.job.number)

placed-first : (r : Placed) (rs : List Placed) → All (λ (x : Placed). r.job.number ≤ x.job.number) rs → Having r.job.number rs ≡ 0 → placed r rs ≡ r ∷ rs
placed-first r [] a none = refl
placed-first r (x ∷ xs) a none =
    let ne : x.job.number ≢ r.job.number = other r.job.number x xs none in
    placed-before r x xs (more x r ne (All-head (λ (x : Placed). r.job.number ≤ x.job.number) x xs a))

placed-last : (r : Placed) (rs : List Placed) → All (λ (x : Placed). x.job.number ≤ r.job.number) rs → placed r rs ≡ rs ++ r ∷ []
placed-last r [] a = refl
placed-last r (x ∷ xs) a =
    placed-behind r x xs (All-head (λ (x : Placed). x.job.number ≤ r.job.number) x xs a) ∙ ap (λ l. x ∷ l) (placed-last r xs (All-tail (λ (x : Placed). x.job.number ≤ r.job.number) x xs a))

before-next : (rs : List Placed) (i : ℕ) (d : Placed) → RisesByNumber rs → i < length rs → All (λ (x : Placed). x.job.number ≤ (get_or rs i d).job.number) (take i rs)
before-next [] i d h l = absurd (omega (arith, l))
before-next (r ∷ rs) zero d h l = All-nil (λ (x : Placed). x.job.number ≤ r.job.number)
before-next (r ∷ rs) (suc i) d h l =
    All-cons (λ (x : Placed). x.job.number ≤ (get_or rs i d).job.number) r (take i rs) (All-get_or (λ (x : Placed). r.job.number ≤ x.job.number) rs i d (omega (arith, l)) h.0) (before-next rs i d h.1 (omega (arith, l)))

-- of those that rise by number the next one is placed behind those before it
pub placed-next : (rs : List Placed) (i : ℕ) (r : Placed) → RisesByNumber rs → i < length rs → r ≡ get_or rs i r → placed r (take i rs) ≡ take (i + 1) rs
placed-next rs i r h l is =
    placed-last r (take i rs) (subst (λ (y : Placed). All (λ (x : Placed). x.job.number ≤ y.job.number) (take i rs)) (sym is) (before-next rs i r h l))
    ∙ ap (λ (y : Placed). take i rs ++ y ∷ []) is ∙ sym (take_more rs i r l)

-- where no two have one number, none of those before the next one has its number
pub none-before : (rs : List Placed) (i : ℕ) (r : Placed) → Once rs → i < length rs → r ≡ get_or rs i r → Having r.job.number (take i rs) ≡ 0
none-before rs i r once l is =
    let n = r.job.number in
    let o = once n in
    let k = sum_by_more_le (λ (x : Placed). cond {A = ℕ} (nat_eq x.job.number n) 1 0) rs i r l in
    let one = cond-true {A = ℕ} (nat_eq (get_or rs i r).job.number n) 1 0 (eq-eqb (get_or rs i r).job.number n (ap (λ (x : Placed). x.job.number) (sym is))) in
    omega (arith, o, k, one)

-- where no other has its number, who enters the jobs by expected end is placed among those by number
pub by_number-entered : (r : Placed) (xs : List Placed) → Having r.job.number xs ≡ 0 → by_number (entered r xs) ≡ placed r (by_number xs)
by_number-entered r [] none = refl
by_number-entered r (x ∷ xs) none =
    cond_both (is_sooner r x) (r ∷ x ∷ xs) (x ∷ entered r xs) (λ l. by_number l ≡ placed r (placed x (by_number xs)))
    (λ _. refl)
    (λ _. ap (placed x) (by_number-entered r xs (none-tail r.job.number x xs none)) ∙ placed-placed x r (by_number xs) (other r.job.number x xs none))

-- a sum over running jobs is the same in the order of their numbers
pub sum_by-by_number : (f : Placed → ℕ) (rs : List Placed) → sum_by f (by_number rs) ≡ sum_by f rs
sum_by-by_number f [] = refl
sum_by-by_number f (r ∷ rs) = omega (arith, sum_by-placed f r (by_number rs), sum_by-by_number f rs, sum_by-cons f r rs)

-- as many jobs stand in the order of their numbers
pub length-by_number : (rs : List Placed) → length (by_number rs) ≡ length rs
length-by_number rs = sym (sum_by-ones (by_number rs)) ∙ sum_by-by_number (λ _. 1) rs ∙ sum_by-ones rs

-- in the order of their numbers the numbers of running jobs do not fall
pub rises-by_number : (rs : List Placed) → RisesByNumber (by_number rs)
rises-by_number [] = tt
rises-by_number (r ∷ rs) = rises-placed r (by_number rs) (rises-by_number rs)

pub once-by_number : (rs : List Placed) → Once rs → Once (by_number rs)
once-by_number rs once n = omega (arith, once n, sum_by-by_number (λ (r : Placed). cond (nat_eq r.job.number n) 1 0) rs)

pub once-filter : (p : Placed → Bool) (rs : List Placed) → Once rs → Once (filter p rs)
once-filter p rs once n = omega (arith, once n, sum_by-filter-le (λ (r : Placed). cond (nat_eq r.job.number n) 1 0) p rs)

-- where no two have one number, no two have with one more entered whose number nobody has
pub once-entered : (r : Placed) (runners : List Placed) → Once runners → Having r.job.number runners ≡ 0 → Once (entered r runners)
once-entered r runners once none n =
    let k = sum_by-entered (λ (x : Placed). cond {A = ℕ} (nat_eq x.job.number n) 1 0) r runners in
    let o = once-more (Having n runners) (cond (nat_eq r.job.number n) 1 0) n r.job.number (λ same. subst (λ m. Having m runners ≡ 0) same none) (once n) refl in
    omega (arith, k, o)

pub permuted-by_number : (rs : List Placed) → IsPermutation rs (by_number rs)
permuted-by_number [] = IsPermutation-refl []
permuted-by_number (r ∷ rs) =
    let runners = by_number rs in
    IsPermutation-trans (r ∷ rs) (r ∷ runners) (placed r runners) (IsPermutation-cons r rs runners (permuted-by_number rs))
    (subst (IsPermutation (r ∷ runners)) (sym (placed-at r runners)) (IsPermutation-insert runners (position_or_len (λ (x : Placed). nat_lt r.job.number x.job.number) runners) r))

pub by_number-by_end : (rs : List Placed) → RisesByNumber rs → Once rs → by_number (by_end rs) ≡ rs
by_number-by_end [] h once = refl
by_number-by_end (r ∷ rs) h once =
    let none = alone r rs once in
    by_number-entered r (by_end rs) (omega (arith, none, sum_by-by_end (λ (x : Placed). cond (nat_eq x.job.number r.job.number) 1 0) rs))
    ∙ ap (placed r) (by_number-by_end rs h.1 (once-tail r rs once)) ∙ placed-first r rs h.0 none

-- a row by expected ends, in which no two have one number, is found again from its jobs by number
pub runners-is : (runners : List Placed) → RisesByEnd runners → Once runners → runners ≡ by_end (by_number runners)
runners-is [] h once = refl
runners-is (r ∷ rs) h once =
    sym
    (by_end-placed r (by_number rs) (omega (arith, alone r rs once, sum_by-by_number (λ (x : Placed). cond (nat_eq x.job.number r.job.number) 1 0) rs))
    ∙ ap (entered r) (sym (runners-is rs h.1 (once-tail r rs once))) ∙ enters-first r rs h.0)

-- a job whose number nobody in the row has enters the row of blocks where it enters the order of expected ends
pub enters-runners : (r : Placed) (runners : List Placed) → Having r.job.number runners ≡ 0 → row_entered expected_end (λ (x : Placed). x.job.number) r runners ≡ entered r runners
enters-runners r runners none = entered-same r runners (others r.job.number runners none)

-- a row in which each is expected to end sooner than all behind it stays so with one entered whose number nobody has
pub rises-joined : (r : Placed) (runners : List Placed) → RisesByEnd runners → Having r.job.number runners ≡ 0 → RisesByEnd (entered r runners)
rises-joined r runners h none = strict-entered r runners h (others r.job.number runners none)

-- those of a row that pass a test, by number, are those that pass of its jobs by number
pub by_number-filter : (p : Placed → Bool) (runners : List Placed) → RisesByEnd runners → Once runners → by_number (filter p runners) ≡ filter p (by_number runners)
by_number-filter p runners h once =
    let rs = by_number runners in
    ap (λ (l : List Placed). by_number (filter p l)) (runners-is runners h once) ∙ ap by_number (sym (by_end-filter p rs))
    ∙ by_number-by_end (filter p rs) (rises-filter p rs (rises-by_number runners)) (once-filter p rs (once-by_number runners once))

abbrev its : RunningNumber → ℕ
its r = r.number

not-comes : (a b : ℕ) → b ≤ a → submits_before a a b b ≡ false
not-comes a b h = grind (arith, nat_tests)

climbs-adjacent : (ns : List RunningNumber) → IsNonDecreasingBy its ns → Climbs its its ns
climbs-adjacent ns up =
    Climbs-adjacent its its ns (λ k d l. not-comes (its (get_or ns (k + 1) d)) (its (get_or ns k d)) (up k (k + 1) d (omega arith) l))

climbs-numbers : (ns : List RunningNumber) → NumbersRise ns → Climbs its its ns
climbs-numbers [] h = tt
climbs-numbers (r ∷ ns) h = (opens ns h.0, climbs-numbers ns h.1)
  where
    opens : (xs : List RunningNumber) → All (λ (x : RunningNumber). r.number ≤ x.number) xs → Opens its its r xs
    opens [] a = tt
    opens (x ∷ xs) a =
        (not-comes x.number r.number (All-head (λ (x : RunningNumber). r.number ≤ x.number) x xs a), opens xs (All-tail (λ (x : RunningNumber). r.number ≤ x.number) x xs a))

-- the numbers of running jobs, of which no two are the same, with their starts, sorted, are those of the jobs by number
pub sorted-numbers : (rs : List Placed) (ns : List RunningNumber) → Once rs → IsPermutation (map number_of rs) ns → IsNonDecreasingBy its ns → ns ≡ map number_of (by_number rs)
sorted-numbers rs ns once p up =
    let rs' = by_number rs in
    arrangement-unique its its (map number_of rs) ns (map number_of rs') p (IsPermutation-map number_of rs rs' (permuted-by_number rs))
    (Rises-Climbs its its ns (λ n. omega (arith, once n, counts-running n rs, numbered-permutation its (map number_of rs) ns p n)) (climbs-adjacent ns up))
    (Rises-Climbs its its (map number_of rs') (λ n. omega (arith, once-by_number rs once n, counts-running n rs')) (climbs-numbers (map number_of rs') (numbers-rise rs' (rises-by_number rs))))
