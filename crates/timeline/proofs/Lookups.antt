-- Looking up by number in a list, after each change of the list.
use Rattle.std.proofs.Common.{◌≡◌, ℕ, ◌+◌, ◌≤◌, ◌<◌, Bool, cond, nat_eq, nat_lt, List, [], ◌∷◌, ◌++◌, Option, Some, None, find, filter, count_by, refl, sym, ◌∙◌, ap, arith, ⊎_elim}
use Rattle.std.specs.List.{filter_map, cons_option}
use Rattle.std.specs.Option.{option_and_then, option_map, option_or}
use Rattle.std.proofs.lemmas.List.Sums.{sum_by-cons}
use Rattle.std.proofs.lemmas.List.Folds.{find-append}
use Rattle.std.proofs.lemmas.Bool.{cond_both, cond-true, cond-false, cases_eq, cases_lt, eq-eqb, ne_eqb, eqb-true}
use Rattle.scenarios.specs.Job.{EffectiveJob}
use Rattle.scenarios.specs.declared.placed.Placed.{Placed}
use Rattle.cluster_state.specs.State.{without, placed}
use Rattle.cluster_state.specs.Ends.{by_number}
use Rattle.cluster_state.proofs.Lemmas.{sum_by-placed, test-find}
use Rattle.easy_rule.specs.declared.start.Start.{Start}
use Rattle.easy_rule.specs.Simulation.{start_of}

-- the first of these that has the number
abbrev pub look : {X : Type 0} → (X → ℕ) → ℕ → List X → Option X
look f n xs = find (λ x. nat_eq (f x) n) xs

-- how many of these have the number
abbrev pub many : {X : Type 0} → (X → ℕ) → ℕ → List X → ℕ
many f n xs = count_by (λ x. nat_eq (f x) n) xs

-- no two have one number
abbrev pub Once : {X : Type 0} → (X → ℕ) → List X → Type 0
Once f xs = (n : ℕ) → many f n xs ≤ 1

-- the number of a job
abbrev pub job_of : EffectiveJob → ℕ
job_of j = j.number

-- the number of a running job
abbrev pub job_in : Placed → ℕ
job_in r = r.job.number

-- a first element that has the number is found
pub look-here : {X : Type 0} (f : X → ℕ) (n : ℕ) (x : X) (xs : List X) → f x ≡ n → look f n (x ∷ xs) ≡ Some x
look-here f n x xs e = cond-true (nat_eq (f x) n) (Some x) (look f n xs) (eq-eqb (f x) n e)

-- a first element of another number is passed over
pub look-past : {X : Type 0} (f : X → ℕ) (n : ℕ) (x : X) (xs : List X) → (f x ≡ n → ⊥) → look f n (x ∷ xs) ≡ look f n xs
look-past f n x xs ne = cond-false (nat_eq (f x) n) (Some x) (look f n xs) (ne_eqb (f x) n ne)

-- a first element that has the number is one more
pub many-here : {X : Type 0} (f : X → ℕ) (n : ℕ) (x : X) (xs : List X) → f x ≡ n → many f n (x ∷ xs) ≡ many f n xs + 1
many-here f n x xs e =
    let k = sum_by-cons (λ y. cond {A = ℕ} (nat_eq (f y) n) 1 0) x xs in
    let one = cond-true {A = ℕ} (nat_eq (f x) n) 1 0 (eq-eqb (f x) n e) in
    omega (arith, k, one)

pub many-past : {X : Type 0} (f : X → ℕ) (n : ℕ) (x : X) (xs : List X) → (f x ≡ n → ⊥) → many f n (x ∷ xs) ≡ many f n xs
many-past f n x xs ne =
    let k = sum_by-cons (λ y. cond {A = ℕ} (nat_eq (f y) n) 1 0) x xs in
    let none = cond-false {A = ℕ} (nat_eq (f x) n) 1 0 (ne_eqb (f x) n ne) in
    omega (arith, k, none)

-- behind the first element no more have the number than in all
pub many-tail : {X : Type 0} (f : X → ℕ) (n : ℕ) (x : X) (xs : List X) → many f n xs ≤ many f n (x ∷ xs)
many-tail f n x xs = (let k = sum_by-cons (λ y. cond {A = ℕ} (nat_eq (f y) n) 1 0) x xs in omega (arith, k))

-- where no two have one number, no two behind the first have
pub once-tail : {X : Type 0} (f : X → ℕ) (x : X) (xs : List X) → Once f (x ∷ xs) → Once f xs
once-tail f x xs once n = (let o = once n in let k = many-tail f n x xs in omega (arith, o, k))

-- where nobody has the number, nobody is found
pub look-none : {X : Type 0} (f : X → ℕ) (n : ℕ) (xs : List X) → many f n xs ≡ 0 → look f n xs ≡ None
look-none f n [] z = refl
look-none f n (x ∷ xs) z =
    ⊎_elim
    (λ (e : f x ≡ n). absurd (let k = many-here f n x xs e in omega (arith, k, z)))
    (λ (ne : f x ≡ n → ⊥). look-past f n x xs ne ∙ look-none f n xs (let k = many-past f n x xs ne in omega (arith, k, z)))
    (cases_eq (f x) n)

-- where nobody is found, nobody has the number
pub none-look : {X : Type 0} (f : X → ℕ) (n : ℕ) (xs : List X) → look f n xs ≡ None → many f n xs ≡ 0
none-look f n [] e = refl
none-look f n (x ∷ xs) e =
    ⊎_elim
    (λ (here : f x ≡ n). absurd (let k : Some x ≡ None = sym (look-here f n x xs here) ∙ e in cc))
    (λ (ne : f x ≡ n → ⊥). many-past f n x xs ne ∙ none-look f n xs (sym (look-past f n x xs ne) ∙ e))
    (cases_eq (f x) n)

-- where one is found, one at least has the number
pub some-look : {X : Type 0} (f : X → ℕ) (n : ℕ) (xs : List X) (x : X) → look f n xs ≡ Some x → 1 ≤ many f n xs
some-look f n xs x e =
    ⊎_elim
    (λ (l : 0 < many f n xs). l)
    (λ (l : many f n xs ≤ 0). absurd (let z : many f n xs ≡ 0 = omega (arith, l) in let k : None ≡ Some x = sym (look-none f n xs z) ∙ e in cc))
    (cases_lt 0 (many f n xs))

-- where the first has the number and one at most does, nobody is found behind it
pub look-others : {X : Type 0} (f : X → ℕ) (n : ℕ) (x : X) (xs : List X) → f x ≡ n → many f n (x ∷ xs) ≤ 1 → look f n xs ≡ None
look-others f n x xs e l = look-none f n xs (let k = many-here f n x xs e in omega (arith, k, l))

-- who is found has the number
pub look-has : {X : Type 0} (f : X → ℕ) (n : ℕ) (xs : List X) (x : X) → look f n xs ≡ Some x → f x ≡ n
look-has f n xs x e = eqb-true (f x) n (test-find (λ y. nat_eq (f y) n) xs x e)

-- the one that is there, if it passes
abbrev pub kept : {X : Type 0} → (X → Bool) → Option X → Option X
kept p None = None
kept p (Some x) = cond (p x) (Some x) None

-- where one at most has the number, among those that pass the same is found, if it passes
pub look-filter : {X : Type 0} (f : X → ℕ) (n : ℕ) (p : X → Bool) (xs : List X) → many f n xs ≤ 1 → look f n (filter p xs) ≡ kept p (look f n xs)
look-filter f n p [] l = refl
look-filter f n p (x ∷ xs) l =
    let rest = look-filter f n p xs (let k = many-tail f n x xs in omega (arith, k, l)) in
    ⊎_elim
    (λ (e : f x ≡ n).
    cond_both (p x) (x ∷ filter p xs) (filter p xs) (λ ys. look f n ys ≡ cond (p x) (Some x) None)
    (λ y. look-here f n x (filter p xs) e ∙ sym (cond-true (p x) (Some x) None y))
    (λ y. rest ∙ ap (kept p) (look-others f n x xs e l) ∙ sym (cond-false (p x) (Some x) None y))
    ∙ sym (ap (kept p) (look-here f n x xs e)))
    (λ (ne : f x ≡ n → ⊥).
    cond_both (p x) (x ∷ filter p xs) (filter p xs) (λ ys. look f n ys ≡ kept p (look f n xs))
    (λ y. look-past f n x (filter p xs) ne ∙ rest)
    (λ y. rest)
    ∙ sym (ap (kept p) (look-past f n x xs ne)))
    (cases_eq (f x) n)

-- where one job at most has the number, without it nobody is found
pub look-without : (n : ℕ) (js : List EffectiveJob) → many job_of n js ≤ 1 → look job_of n (without n js) ≡ None
look-without n [] l = refl
look-without n (j ∷ js) l =
    cond_both (nat_eq j.number n) js (j ∷ without n js) (λ xs. look job_of n xs ≡ None)
    (λ y. look-others job_of n j js (eqb-true j.number n y) l)
    (λ y. cond-false (nat_eq j.number n) (Some j) (look job_of n (without n js)) y ∙ look-without n js (let k = many-tail job_of n j js in omega (arith, k, l)))

-- without a job of another number the same is found
pub look-without-other : (n m : ℕ) (js : List EffectiveJob) → (m ≡ n → ⊥) → look job_of n (without m js) ≡ look job_of n js
look-without-other n m [] ne = refl
look-without-other n m (j ∷ js) ne =
    cond_both (nat_eq j.number m) js (j ∷ without m js) (λ xs. look job_of n xs ≡ look job_of n (j ∷ js))
    (λ y. sym (look-past job_of n j js (λ e. ne (sym (eqb-true j.number m y) ∙ e))))
    (λ y. ap (λ o. cond (nat_eq j.number n) (Some j) o) (look-without-other n m js ne))

-- one more running job is found, where nobody had its number
pub look-placed : (n : ℕ) (r : Placed) (rs : List Placed) → r.job.number ≡ n → many job_in n rs ≡ 0 → look job_in n (placed r rs) ≡ Some r
look-placed n r [] e none = look-here job_in n r [] e
look-placed n r (x ∷ xs) e none =
    let past : x.job.number ≡ n → ⊥ = λ h. (let k = many-here job_in n x xs h in omega (arith, k, none)) in
    cond_both (nat_lt r.job.number x.job.number) (r ∷ x ∷ xs) (x ∷ placed r xs) (λ l. look job_in n l ≡ Some r)
    (λ y. look-here job_in n r (x ∷ xs) e)
    (λ y. look-past job_in n x (placed r xs) past ∙ look-placed n r xs e (let k = many-tail job_in n x xs in omega (arith, k, none)))

-- with one more running job of another number the same is found
pub look-placed-other : (n : ℕ) (r : Placed) (rs : List Placed) → (r.job.number ≡ n → ⊥) → look job_in n (placed r rs) ≡ look job_in n rs
look-placed-other n r [] ne = look-past job_in n r [] ne
look-placed-other n r (x ∷ xs) ne =
    cond_both (nat_lt r.job.number x.job.number) (r ∷ x ∷ xs) (x ∷ placed r xs) (λ l. look job_in n l ≡ look job_in n (x ∷ xs))
    (λ y. look-past job_in n r (x ∷ xs) ne)
    (λ y. ap (λ o. cond (nat_eq x.job.number n) (Some x) o) (look-placed-other n r xs ne))

-- sorted by number, as many running jobs have the number
pub many-by_number : (n : ℕ) (rs : List Placed) → many job_in n (by_number rs) ≡ many job_in n rs
many-by_number n [] = refl
many-by_number n (r ∷ rs) =
    let f : Placed → ℕ = λ x. cond (nat_eq x.job.number n) 1 0 in
    omega (arith, sum_by-placed f r (by_number rs), many-by_number n rs, sum_by-cons f r rs)

-- sorted by number, running jobs find the same, where one at most has the number
pub look-by_number : (n : ℕ) (rs : List Placed) → many job_in n rs ≤ 1 → look job_in n (by_number rs) ≡ look job_in n rs
look-by_number n [] l = refl
look-by_number n (r ∷ rs) l =
    ⊎_elim
    (λ (e : r.job.number ≡ n).
    look-placed n r (by_number rs) e (let k = many-here job_in n r rs e in let m = many-by_number n rs in omega (arith, k, m, l)) ∙ sym (look-here job_in n r rs e))
    (λ (ne : r.job.number ≡ n → ⊥).
    look-placed-other n r (by_number rs) ne ∙ look-by_number n rs (let k = many-tail job_in n r rs in omega (arith, k, l)) ∙ sym (look-past job_in n r rs ne))
    (cases_eq r.job.number n)

-- what is made of an element, if anything is, has its number
abbrev pub Keeps : {X Y : Type 0} → (X → ℕ) → (Y → ℕ) → (X → Option Y) → Type 0
Keeps {X = X} {Y = Y} f h g = (x : X) (y : Y) → g x ≡ Some y → h y ≡ f x

-- where numbers are kept, no more have the number among what is made than before
pub many-filter_map : {X Y : Type 0} (f : X → ℕ) (h : Y → ℕ) (g : X → Option Y) (n : ℕ) (xs : List X) → Keeps f h g → many h n (filter_map g xs) ≤ many f n xs
many-filter_map f h g n [] k = omega arith
many-filter_map {X = X} {Y = Y} f h g n (x ∷ xs) k = go (g x) refl (many-filter_map f h g n xs k)
  where
    go : (o : Option Y) → g x ≡ o → many h n (filter_map g xs) ≤ many f n xs → many h n (cons_option o (filter_map g xs)) ≤ many f n (x ∷ xs)
    go None e i = let a = many-tail f n x xs in omega (arith, a, i)
    go (Some y) e i =
        let a = sum_by-cons (λ z. cond {A = ℕ} (nat_eq (f z) n) 1 0) x xs in
        let b = sum_by-cons (λ z. cond {A = ℕ} (nat_eq (h z) n) 1 0) y (filter_map g xs) in
        let c = ap (λ m. cond {A = ℕ} (nat_eq m n) 1 0) (k x y e) in
        omega (arith, a, b, c, i)

-- where numbers are kept and one at most has the number, what is found is what is made of the one that was found
pub look-filter_map : {X Y : Type 0} (f : X → ℕ) (h : Y → ℕ) (g : X → Option Y) (n : ℕ) (xs : List X) → Keeps f h g → many f n xs ≤ 1 → look h n (filter_map g xs) ≡ option_and_then g (look f n xs)
look-filter_map f h g n [] k l = refl
look-filter_map {X = X} {Y = Y} f h g n (x ∷ xs) k l =
    let rest = look-filter_map f h g n xs k (let m = many-tail f n x xs in omega (arith, m, l)) in
    ⊎_elim
    (λ (e : f x ≡ n). here e (g x) refl (rest ∙ ap (option_and_then g) (look-others f n x xs e l)) ∙ sym (ap (option_and_then g) (look-here f n x xs e)))
    (λ (ne : f x ≡ n → ⊥). past ne (g x) refl ∙ rest ∙ sym (ap (option_and_then g) (look-past f n x xs ne)))
    (cases_eq (f x) n)
  where
    here : f x ≡ n → (o : Option Y) → g x ≡ o → look h n (filter_map g xs) ≡ None → look h n (cons_option o (filter_map g xs)) ≡ o
    here e None same none = none
    here e (Some y) same none = look-here h n y (filter_map g xs) (k x y same ∙ e)

    past : (f x ≡ n → ⊥) → (o : Option Y) → g x ≡ o → look h n (cons_option o (filter_map g xs)) ≡ look h n (filter_map g xs)
    past ne None same = refl
    past ne (Some y) same = look-past h n y (filter_map g xs) (λ e. ne (sym (k x y same) ∙ e))

second-of : (a b : Option Start) → option_map (λ (x : Start). x.at) (option_or a b) ≡ option_or (option_map (λ (x : Start). x.at) a) (option_map (λ (x : Start). x.at) b)
second-of None b = refl
second-of (Some x) b = refl

-- in one list of starts and then another, a number's start is that in the first, or else that in the second
pub start-append : (n : ℕ) (xs ys : List Start) → start_of (xs ++ ys) n ≡ option_or (start_of xs n) (start_of ys n)
start-append n xs ys =
    let p : Start → Bool = λ x. nat_eq x.number n in
    ap (option_map (λ (x : Start). x.at)) (find-append p xs ys) ∙ second-of (find p xs) (find p ys)
