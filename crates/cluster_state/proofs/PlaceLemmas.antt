-- Waiting jobs at places of their own, and the places of the candidates: what they hold as one comes or leaves, and that who stands at a place is
-- found by its number.
use Rattle.std.proofs.Common.{◌≡◌, ℕ, zero, suc, ◌+◌, ◌≤◌, ◌<◌, true, false, cond, nat_eq, List, [], ◌∷◌, ◌++◌, length, drop, set, map, remove, find, count_by, slice_get, Option, Some, None, IfSome, All, refl, sym, ◌∙◌, ap, arith, subst, ⊎_elim}
use Rattle.std.proofs.lemmas.Bool.{cond-true, cond-false, cases_Bool, eq-eqb, eqb-true, true≢false}
use Rattle.std.proofs.lemmas.List.{drop-map}
use Rattle.std.proofs.lemmas.List.Sums.{sum_by-cons}
use Rattle.std.proofs.lemmas.List.Elements.{All-cons, All-head, All-tail, All-nil, All-weaker, filter_map-append}
use Rattle.scenarios.specs.Job.{EffectiveJob}
use Rattle.scenarios.specs.declared.order.Order.{Order}
use Rattle.scenarios.specs.declared.order.Order.TheVariants.{Arrival, Shortest}
use Rattle.waiting_places.specs.Offers.{holds}
use Rattle.waiting_places.specs.Places.{NonePasses, at_place, waiting}
use Rattle.cluster_state.specs.State.{without}
use Rattle.cluster_state.specs.Candidates.{by_estimate, in_order, candidates_of, candidates_places}
use Rattle.cluster_state.proofs.CandidatesLemmas.{All-by_estimate, sum_by-by_estimate, without-by_estimate}

-- how many of these jobs have the number
abbrev pub Having : ℕ → List EffectiveJob → ℕ
Having n js = count_by (λ (j : EffectiveJob). nat_eq j.number n) js

-- no two of these jobs have one number
abbrev pub Once : List EffectiveJob → Type 0
Once js = (n : ℕ) → Having n js ≤ 1

-- of a job and others, those behind it that have the number are counted, and the job itself if it has it
pub counts : (n : ℕ) (j : EffectiveJob) (js : List EffectiveJob) → Having n (j ∷ js) ≡ cond (nat_eq j.number n) 1 0 + Having n js
counts n j js = sum_by-cons (λ (j : EffectiveJob). cond {A = ℕ} (nat_eq j.number n) 1 0) j js

-- a job that has the number counts as one
pub one : (n : ℕ) (j : EffectiveJob) → nat_eq j.number n ≡ true → cond {A = ℕ} (nat_eq j.number n) 1 0 ≡ 1
one n j e = cond-true {A = ℕ} (nat_eq j.number n) 1 0 e

fewer : (n : ℕ) (j : EffectiveJob) (js : List EffectiveJob) → Having n (j ∷ js) ≤ 1 → Having n js ≤ 1
fewer n j js once = omega (arith, once, counts n j js)

once-tail : (j : EffectiveJob) (js : List EffectiveJob) → Once (j ∷ js) → Once js
once-tail j js once n = fewer n j js (once n)

pub all_wait : (js : List EffectiveJob) → waiting (map (λ job. Some job) js) ≡ js
all_wait [] = refl
all_wait (j ∷ js) = ap (λ l. j ∷ l) (all_wait js)

-- at places of which none is empty, the jobs stand as in their list
pub at_map : (js : List EffectiveJob) (k : ℕ) → at_place (map (λ job. Some job) js) k ≡ slice_get js k
at_map [] k = refl
at_map (j ∷ js) zero = refl
at_map (j ∷ js) (suc k) = at_map js k

-- at the candidates' places the waiting jobs stand in the order in which they are looked at
pub candidates_is : (o : Order) (places : List (Option EffectiveJob)) (candidates : List EffectiveJob) → candidates ≡ candidates_of o (waiting places) → waiting (candidates_places o places candidates) ≡ in_order o (waiting places)
candidates_is Arrival places candidates e = refl
candidates_is Shortest places candidates e = all_wait candidates ∙ e

-- who comes to a new last place waits behind all others
pub waiting-push : (xs new : List (Option EffectiveJob)) (x : EffectiveJob) → new ≡ xs ++ Some x ∷ [] → waiting new ≡ waiting xs ++ x ∷ []
waiting-push xs new x e = ap waiting e ∙ filter_map-append (λ (place : Option EffectiveJob). place) xs (Some x ∷ [])

-- one at least of those who wait has the number of who stands at a place
pub counted : (xs : List (Option EffectiveJob)) (k : ℕ) (x : EffectiveJob) → at_place xs k ≡ Some x → 1 ≤ Having x.number (waiting xs)
counted [] k x e = cc
counted (None ∷ xs) zero x e = cc
counted (None ∷ xs) (suc k) x e = counted xs k x e
counted (Some y ∷ xs) zero x e =
    let same : y ≡ x = cc in
    omega (arith, counts x.number y (waiting xs), one x.number y (eq-eqb y.number x.number (ap (λ (j : EffectiveJob). j.number) same)))
counted (Some y ∷ xs) (suc k) x e = omega (arith, counts x.number y (waiting xs), counted xs k x e)

pub other : (y : EffectiveJob) (js : List EffectiveJob) (n : ℕ) → Having n (y ∷ js) ≤ 1 → 1 ≤ Having n js → nat_eq y.number n ≡ false
other y js n once l =
    ⊎_elim
    (λ (e : nat_eq y.number n ≡ true). absurd (omega (arith, once, counts n y js, one n y e, l)))
    (λ (f : nat_eq y.number n ≡ false). f)
    (cases_Bool (nat_eq y.number n))

-- to empty the place of a job whose number no other has takes the one of that number from those who wait
pub waiting-set : (xs : List (Option EffectiveJob)) (k : ℕ) (x : EffectiveJob) → Having x.number (waiting xs) ≤ 1 → at_place xs k ≡ Some x → waiting (set xs k None) ≡ without x.number (waiting xs)
waiting-set [] k x once e = cc
waiting-set (None ∷ xs) zero x once e = cc
waiting-set (None ∷ xs) (suc k) x once e = waiting-set xs k x once e
waiting-set (Some y ∷ xs) zero x once e =
    let same : y ≡ x = cc in
    sym (cond-true (nat_eq y.number x.number) (waiting xs) (y ∷ without x.number (waiting xs)) (eq-eqb y.number x.number (ap (λ (j : EffectiveJob). j.number) same)))
waiting-set (Some y ∷ xs) (suc k) x once e =
    ap (λ l. y ∷ l) (waiting-set xs k x (fewer x.number y (waiting xs) once) e)
    ∙ sym (cond-false (nat_eq y.number x.number) (waiting xs) (y ∷ without x.number (waiting xs)) (other y (waiting xs) x.number once (counted xs k x e)))

-- to empty the place of a job takes the one of a number from those who wait, where the job has that number and no other has
pub leaves-numbered : (xs : List (Option EffectiveJob)) (k n : ℕ) → Having n (waiting xs) ≤ 1 → holds (λ (j : EffectiveJob). nat_eq j.number n) (at_place xs k) ≡ true → waiting (set xs k None) ≡ without n (waiting xs)
leaves-numbered xs k n once e = go (at_place xs k) refl
  where
    go : (o : Option EffectiveJob) → at_place xs k ≡ o → waiting (set xs k None) ≡ without n (waiting xs)
    go None is = absurd (true≢false (sym e ∙ ap (holds (λ (j : EffectiveJob). nat_eq j.number n)) is))
    go (Some x) is =
        let same : x.number ≡ n = eqb-true x.number n (sym (ap (holds (λ (j : EffectiveJob). nat_eq j.number n)) is) ∙ e) in
        waiting-set xs k x (subst (λ m. Having m (waiting xs) ≤ 1) (sym same) once) is ∙ ap (λ m. without m (waiting xs)) same

-- where no two who wait have one number, to empty a place takes the one of the number that stands there from those who wait
pub leaves-there : (xs : List (Option EffectiveJob)) (k : ℕ) → Once (waiting xs) → IfSome (at_place xs k) (λ x. waiting (set xs k None) ≡ without x.number (waiting xs))
leaves-there xs k once = go (at_place xs k) refl
  where
    go : (o : Option EffectiveJob) → at_place xs k ≡ o → IfSome o (λ x. waiting (set xs k None) ≡ without x.number (waiting xs))
    go None is = tt
    go (Some x) is = waiting-set xs k x (once x.number) is

-- the number of who stands at a place stands once at most, where it is one that stands once at most
pub once-numbered : (xs : List (Option EffectiveJob)) (k n : ℕ) → Having n (waiting xs) ≤ 1 → holds (λ (j : EffectiveJob). nat_eq j.number n) (at_place xs k) ≡ true → IfSome (at_place xs k) (λ x. Having x.number (waiting xs) ≤ 1)
once-numbered xs k n once e = go (at_place xs k) e
  where
    go : (o : Option EffectiveJob) → holds (λ (j : EffectiveJob). nat_eq j.number n) o ≡ true → IfSome o (λ x. Having x.number (waiting xs) ≤ 1)
    go None h = tt
    go (Some x) h = subst (λ m. Having m (waiting xs) ≤ 1) (sym (eqb-true x.number n h)) once

-- where no two have one number, the number of any job stands once at most
pub once-there : (js : List EffectiveJob) (o : Option EffectiveJob) → Once js → IfSome o (λ x. Having x.number js ≤ 1)
once-there js None once = tt
once-there js (Some x) once = once x.number

-- where nobody at the places has the number, those who wait without it are all who wait
pub without-nobody : (n : ℕ) (xs : List (Option EffectiveJob)) → NonePasses (holds (λ (j : EffectiveJob). nat_eq j.number n)) xs 0 (length xs) → waiting xs ≡ without n (waiting xs)
without-nobody n [] none = refl
without-nobody n (None ∷ xs) none = without-nobody n xs (λ p l u. none (suc p) (omega arith) (omega (arith, u)))
without-nobody n (Some y ∷ xs) none =
    ap (λ l. y ∷ l) (without-nobody n xs (λ p l u. none (suc p) (omega arith) (omega (arith, u))))
    ∙ sym (cond-false (nat_eq y.number n) (waiting xs) (y ∷ without n (waiting xs)) (none 0 (omega arith) (omega arith)))

pub remove-is : (js : List EffectiveJob) (k : ℕ) (x : EffectiveJob) → Once js → slice_get js k ≡ Some x → remove js k ≡ without x.number js
remove-is [] k x once e = cc
remove-is (y ∷ js) zero x once e =
    let same : y ≡ x = cc in
    sym (cond-true (nat_eq y.number x.number) js (y ∷ without x.number js) (eq-eqb y.number x.number (ap (λ (j : EffectiveJob). j.number) same)))
remove-is (y ∷ js) (suc k) x once e =
    ap (λ l. y ∷ l) (remove-is js k x (once-tail y js once) e)
    ∙ sym (cond-false (nat_eq y.number x.number) js (y ∷ without x.number js) (other y js x.number (once x.number) (in_list js k x e)))
  where
    in_list : (zs : List EffectiveJob) (i : ℕ) (z : EffectiveJob) → slice_get zs i ≡ Some z → 1 ≤ Having z.number zs
    in_list [] i z h = cc
    in_list (w ∷ zs) zero z h =
        let same : w ≡ z = cc in
        omega (arith, counts z.number w zs, one z.number w (eq-eqb w.number z.number (ap (λ (j : EffectiveJob). j.number) same)))
    in_list (w ∷ zs) (suc i) z h = omega (arith, counts z.number w zs, in_list zs i z h)

pub once-by_estimate : (js : List EffectiveJob) → Once js → Once (by_estimate js)
once-by_estimate js once n = omega (arith, once n, sum_by-by_estimate (λ (j : EffectiveJob). cond {A = ℕ} (nat_eq j.number n) 1 0) js)

past-none : (js : List EffectiveJob) (k : ℕ) → slice_get js k ≡ None → length js ≤ k
past-none [] k e = omega arith
past-none (j ∷ js) zero e = cc
past-none (j ∷ js) (suc k) e = omega (arith, past-none js k e)

-- the candidates by estimate without the one at a place are those of the queue that this one has left
pub candidates-leaves : (js left candidates : List EffectiveJob) (k : ℕ) → Once js → candidates ≡ by_estimate js → k < length candidates → IfSome (slice_get candidates k) (λ x. left ≡ without x.number js) → remove candidates k ≡ by_estimate left
candidates-leaves js left candidates k once is l h = go (slice_get candidates k) refl h
  where
    go : (o : Option EffectiveJob) → slice_get candidates k ≡ o → IfSome o (λ x. left ≡ without x.number js) → remove candidates k ≡ by_estimate left
    go None e g = absurd (omega (arith, l, past-none candidates k e))
    go (Some x) e g =
        remove-is candidates k x (subst Once (sym is) (once-by_estimate js once)) e
        ∙ ap (without x.number) is ∙ without-by_estimate x.number js (once x.number) ∙ ap by_estimate (sym g)

drop-remove : (k : ℕ) (js : List EffectiveJob) → drop k (remove js k) ≡ drop (suc k) js
drop-remove zero [] = refl
drop-remove zero (j ∷ js) = refl
drop-remove (suc k) [] = refl
drop-remove (suc k) (j ∷ js) = drop-remove k js

-- once the one at a place is removed, those who stand from this place on are those who stood behind it
pub rest-remove : (js : List EffectiveJob) (k : ℕ) → waiting (drop k (map (λ job. Some job) (remove js k))) ≡ waiting (drop (k + 1) (map (λ job. Some job) js))
rest-remove js k =
    let more : suc k ≡ k + 1 = omega arith in
    ap waiting (drop-map (λ job. Some job) k (remove js k)) ∙ all_wait (drop k (remove js k)) ∙ drop-remove k js ∙ ap (λ n. drop n js) more
    ∙ sym (ap waiting (drop-map (λ job. Some job) (k + 1) js) ∙ all_wait (drop (k + 1) js))

abbrev IsFound : List EffectiveJob → EffectiveJob → Type 0
IsFound js x = find (λ (j : EffectiveJob). nat_eq j.number x.number) js ≡ Some x

found-counted : (js : List EffectiveJob) (x : EffectiveJob) → IsFound js x → 1 ≤ Having x.number js
found-counted [] x e = cc
found-counted (y ∷ js) x e =
    ⊎_elim
    (λ (h : nat_eq y.number x.number ≡ true). omega (arith, counts x.number y js, one x.number y h))
    (λ (h : nat_eq y.number x.number ≡ false).
    let rest : IsFound js x = sym (cond-false (nat_eq y.number x.number) (Some y) (find (λ (j : EffectiveJob). nat_eq j.number x.number) js) h) ∙ e in
    omega (arith, counts x.number y js, found-counted js x rest))
    (cases_Bool (nat_eq y.number x.number))

found-all : (js : List EffectiveJob) → Once js → All (IsFound js) js
found-all [] once = All-nil (IsFound [])
found-all (y ∷ js) once =
    All-cons (IsFound (y ∷ js)) y js
    (cond-true (nat_eq y.number y.number) (Some y) (find (λ (j : EffectiveJob). nat_eq j.number y.number) js) (eq-eqb y.number y.number refl))
    (All-weaker (IsFound js) (IsFound (y ∷ js))
    (λ x h. cond-false (nat_eq y.number x.number) (Some y) (find (λ (j : EffectiveJob). nat_eq j.number x.number) js) (other y js x.number (once x.number) (found-counted js x h)) ∙ h)
    js (found-all js (once-tail y js once)))

All-in_order : (P : EffectiveJob → Type 0) (o : Order) (js : List EffectiveJob) → All P js → All P (in_order o js)
All-in_order P Arrival js a = a
All-in_order P Shortest js a = All-by_estimate P js a

All-at : (P : EffectiveJob → Type 0) (xs : List (Option EffectiveJob)) (k : ℕ) (x : EffectiveJob) → at_place xs k ≡ Some x → All P (waiting xs) → P x
All-at P [] k x e a = cc
All-at P (None ∷ xs) zero x e a = cc
All-at P (None ∷ xs) (suc k) x e a = All-at P xs k x e a
All-at P (Some y ∷ xs) zero x e a = let same : y ≡ x = cc in subst P same (All-head P y (waiting xs) a)
All-at P (Some y ∷ xs) (suc k) x e a = All-at P xs k x e (All-tail P y (waiting xs) a)

-- who stands at a place of the candidates is the job that its number finds in the queue
pub stands : (o : Order) (js : List EffectiveJob) (xs : List (Option EffectiveJob)) (k : ℕ) (x : EffectiveJob) → Once js → waiting xs ≡ in_order o js → at_place xs k ≡ Some x → find (λ (j : EffectiveJob). nat_eq j.number x.number) js ≡ Some x
stands o js xs k x once candidates e = All-at (IsFound js) xs k x e (subst (All (IsFound js)) (sym candidates) (All-in_order (IsFound js) o js (found-all js once)))

-- the first job is the one that its number finds
pub first-found : (js : List EffectiveJob) (x : EffectiveJob) → slice_get js 0 ≡ Some x → find (λ (j : EffectiveJob). nat_eq j.number x.number) js ≡ Some x
first-found [] x e = cc
first-found (y ∷ js) x e =
    let same : y ≡ x = cc in
    cond-true (nat_eq y.number x.number) (Some y) (find (λ (j : EffectiveJob). nat_eq j.number x.number) js) (eq-eqb y.number x.number (ap (λ (j : EffectiveJob). j.number) same)) ∙ e
