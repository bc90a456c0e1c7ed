-- Which jobs are still to come, and what the loop knows over those that arrive.
use Rattle.std.proofs.Common.{◌≡◌, ◌≢◌, ℕ, ◌+◌, ◌≤◌, ◌<◌, true, false, cond, nat_eq, nat_le, List, [], ◌∷◌, ◌++◌, append-nil, Option, Some, All, filter, refl, sym, ◌∙◌, ap, arith, subst, inl, inr, ⊎_elim}
use Rattle.std.proofs.lemmas.List.Sums.{sum_by-cons, sum_by-append}
use Rattle.std.proofs.lemmas.List.Elements.{All-nil, All-cons, All-head, All-tail, All-weaker, All-filter}
use Rattle.std.proofs.lemmas.Bool.{cases_lt, cond-true, cond-false, eq-eqb, ne_eqb}
use Rattle.scenarios.specs.Job.{EffectiveJob}
use Rattle.scenarios.specs.Plan.{from_on}
use Rattle.cluster_state.specs.State.{State, IsSound, holders}
use Rattle.easy_rule.specs.Simulation.{joined}
use Rattle.scenarios.specs.SoundPlan as sound
use Rattle.scenarios.proofs.Lemmas.{Lex, Lex-true, from-in, from-out}
use Rattle.event_loop.specs.Upcoming.{NonFalling, first_submit}

-- the jobs that are submitted at second t
abbrev pub at_second : ℕ → List EffectiveJob → List EffectiveJob
at_second t js = filter (λ (j : EffectiveJob). nat_eq j.submit t) js

-- a first job that is submitted at t is the first of those of t
pub at-in : (t : ℕ) (j : EffectiveJob) (js : List EffectiveJob) → j.submit ≡ t → at_second t (j ∷ js) ≡ j ∷ at_second t js
at-in t j js e = cond-true (nat_eq j.submit t) (j ∷ at_second t js) (at_second t js) (eq-eqb j.submit t e)

pub at-out : (t : ℕ) (j : EffectiveJob) (js : List EffectiveJob) → (j.submit ≡ t → ⊥) → at_second t (j ∷ js) ≡ at_second t js
at-out t j js e = cond-false (nat_eq j.submit t) (j ∷ at_second t js) (at_second t js) (ne_eqb j.submit t e)

-- where each job comes before the next, no later one is submitted earlier
pub non-falling : (js : List EffectiveJob) → sound.IsRising js → NonFalling js
non-falling [] r = tt
non-falling (j ∷ []) r = (All-nil (λ (k : EffectiveJob). j.submit ≤ k.submit), tt)
non-falling (j ∷ k ∷ js) r =
    let i = non-falling (k ∷ js) r.1 in
    let l : j.submit ≤ k.submit = low (Lex-true j.submit j.number k.submit k.number r.0) in
    (All-cons (λ (x : EffectiveJob). j.submit ≤ x.submit) k js l (All-weaker (λ (x : EffectiveJob). k.submit ≤ x.submit) (λ (x : EffectiveJob). j.submit ≤ x.submit) (λ x m. omega arith) js i.0), i)
  where
    low : Lex j.submit j.number k.submit k.number → j.submit ≤ k.submit
    low (inl m) = omega arith
    low (inr m) = let n = m.0 in omega (arith, n)

-- those from t on are submitted at t or later
pub from-All : (t : ℕ) (js : List EffectiveJob) → All (λ (j : EffectiveJob). t ≤ j.submit) (from_on t js)
from-All t [] = All-nil (λ (j : EffectiveJob). t ≤ j.submit)
from-All t (j ∷ js) =
    ⊎_elim
    (λ (l : j.submit < t). subst (λ xs. All (λ (j : EffectiveJob). t ≤ j.submit) xs) (sym (from-out t j js l)) (from-All t js))
    (λ (l : t ≤ j.submit). subst (λ xs. All (λ (j : EffectiveJob). t ≤ j.submit) xs) (sym (from-in t j js l)) (All-cons (λ (j : EffectiveJob). t ≤ j.submit) j (from_on t js) l (from-All t js)))
    (cases_lt j.submit t)

-- where no later job is submitted earlier, so it is among those from t on
pub from-falling : (t : ℕ) (js : List EffectiveJob) → NonFalling js → NonFalling (from_on t js)
from-falling t [] r = tt
from-falling t (j ∷ js) r =
    ⊎_elim
    (λ (l : j.submit < t). subst NonFalling (sym (from-out t j js l)) (from-falling t js r.1))
    (λ (l : t ≤ j.submit). subst NonFalling (sym (from-in t j js l)) (All-filter (λ (k : EffectiveJob). nat_le t k.submit) (λ (k : EffectiveJob). j.submit ≤ k.submit) js r.0, from-falling t js r.1))
    (cases_lt j.submit t)

-- of those from t on, those from a later second on are all of these
pub from-later : (t u : ℕ) (js : List EffectiveJob) → t ≤ u → from_on u (from_on t js) ≡ from_on u js
from-later t u [] le = refl
from-later t u (j ∷ js) le =
    ⊎_elim
    (λ (l : j.submit < t). ap (from_on u) (from-out t j js l) ∙ from-later t u js le ∙ sym (from-out u j js (omega arith)))
    (λ (l : t ≤ j.submit).
    ap (from_on u) (from-in t j js l)
    ∙ ⊎_elim
    (λ (m : j.submit < u). from-out u j (from_on t js) m ∙ from-later t u js le ∙ sym (from-out u j js m))
    (λ (m : u ≤ j.submit). from-in u j (from_on t js) m ∙ ap (λ xs. j ∷ xs) (from-later t u js le) ∙ sym (from-in u j js m))
    (cases_lt j.submit u))
    (cases_lt j.submit t)

-- those of second u are among those from an earlier one on
pub at-from : (t u : ℕ) (js : List EffectiveJob) → t ≤ u → at_second u (from_on t js) ≡ at_second u js
at-from t u [] le = refl
at-from t u (j ∷ js) le =
    ⊎_elim
    (λ (l : j.submit < t). ap (at_second u) (from-out t j js l) ∙ at-from t u js le ∙ sym (at-out u j js (λ e. omega arith)))
    (λ (l : t ≤ j.submit).
    ap (at_second u) (from-in t j js l)
    ∙ elim (nat_eq j.submit u) as (λ b. cond b (j ∷ at_second u (from_on t js)) (at_second u (from_on t js)) ≡ cond b (j ∷ at_second u js) (at_second u js)) [
      | true ↦ ap (λ xs. j ∷ xs) (at-from t u js le)
      | false ↦ at-from t u js le
    ])
    (cases_lt j.submit t)

-- where all are submitted later than t, none is of second t
pub at-none : (t : ℕ) (js : List EffectiveJob) → All (λ (j : EffectiveJob). t < j.submit) js → at_second t js ≡ []
at-none t [] a = refl
at-none t (j ∷ js) a =
    let l : t < j.submit = All-head (λ (j : EffectiveJob). t < j.submit) j js a in
    at-out t j js (λ e. omega arith) ∙ at-none t js (All-tail (λ (j : EffectiveJob). t < j.submit) j js a)

-- where all are submitted at t or later, those from t on are all
pub from-same : (t : ℕ) (js : List EffectiveJob) → All (λ (j : EffectiveJob). t ≤ j.submit) js → from_on t js ≡ js
from-same t [] a = refl
from-same t (j ∷ js) a =
    from-in t j js (All-head (λ (j : EffectiveJob). t ≤ j.submit) j js a) ∙ ap (λ xs. j ∷ xs) (from-same t js (All-tail (λ (j : EffectiveJob). t ≤ j.submit) j js a))

-- where the first is submitted later, so are all
pub later-all : (t : ℕ) (j : EffectiveJob) (js : List EffectiveJob) → t < j.submit → NonFalling (j ∷ js) → All (λ (k : EffectiveJob). t < k.submit) (j ∷ js)
later-all t j js l r = All-cons (λ (k : EffectiveJob). t < k.submit) j js l (All-weaker (λ (k : EffectiveJob). j.submit ≤ k.submit) (λ (k : EffectiveJob). t < k.submit) (λ k m. omega arith) js r.0)

abbrev with_queue : State → List EffectiveJob → State
with_queue s js = record { procs = s.procs; order = s.order; waiting = js; running = s.running }

pub joined-none : (s : State) → joined s [] ≡ s
joined-none s = ap (with_queue s) (append-nil s.waiting)

-- while the jobs of t arrive: with those of t that are left the state will be the wanted one, and the same jobs come after t as at first
pub record Arriving (s z : State) (t : ℕ) (jobs left : List EffectiveJob) : Type 0 where
  pub state : joined z (at_second t left) ≡ joined s (at_second t jobs)
  pub later : from_on (t + 1) left ≡ from_on (t + 1) jobs
  pub from : All (λ (j : EffectiveJob). t ≤ j.submit) left
  pub falling : NonFalling left

arriving-here : (s z : State) (t : ℕ) (jobs left rest : List EffectiveJob) (job : EffectiveJob) → Arriving s z t jobs left → left ≡ job ∷ rest → job.submit ≤ t → job.submit ≡ t
arriving-here s z t jobs left rest job h e low =
    let from : t ≤ job.submit = All-head (λ (j : EffectiveJob). t ≤ j.submit) job rest (subst (λ xs. All (λ (j : EffectiveJob). t ≤ j.submit) xs) e h.from) in
    omega (arith, from, low)

-- who comes next is not there yet, and fits the machine
pub can-arrive : (s z : State) (t : ℕ) (jobs left rest : List EffectiveJob) (job : EffectiveJob) → Arriving s z t jobs left → left ≡ job ∷ rest → job.submit ≤ t → IsSound (joined s (at_second t jobs))
    → (holders z job.number ≡ 0) × (job.size ≤ z.procs)
can-arrive s z t jobs left rest job h e low sound =
    let here = arriving-here s z t jobs left rest job h e low in
    let same : joined s (at_second t jobs) ≡ joined z (job ∷ at_second t rest) = sym h.state ∙ ap (λ xs. joined z (at_second t xs)) e ∙ ap (joined z) (at-in t job rest here) in
    let there : IsSound (joined z (job ∷ at_second t rest)) = subst IsSound same sound in
    let f : EffectiveJob → ℕ = λ j. cond (nat_eq j.number job.number) 1 0 in
    let one = cond-true {A = ℕ} (nat_eq job.number job.number) 1 0 (eq-eqb job.number job.number refl) in
    let fit : All (λ (j : EffectiveJob). j.size ≤ z.procs) (job ∷ at_second t rest) = behind z.waiting (job ∷ at_second t rest) there.waiting_fit in (
      omega (arith, there.once job.number, one, sum_by-append f z.waiting (job ∷ at_second t rest), sum_by-cons f job (at_second t rest)),
      All-head (λ (j : EffectiveJob). j.size ≤ z.procs) job (at_second t rest) fit,
    )
  where
    behind : (xs ys : List EffectiveJob) → All (λ (j : EffectiveJob). j.size ≤ z.procs) (xs ++ ys) → All (λ (j : EffectiveJob). j.size ≤ z.procs) ys
    behind [] ys a = a
    behind (x ∷ xs) ys a = behind xs ys (All-tail (λ (j : EffectiveJob). j.size ≤ z.procs) x (xs ++ ys) a)

-- where the first that is left is none of second t, all of t have arrived, and those from t + 1 on are left
pub arriving-done : (s z : State) (t : ℕ) (jobs left : List EffectiveJob) → Arriving s z t jobs left → first_submit left ≢ Some t
    → (z ≡ joined s (at_second t jobs)) × (left ≡ from_on (t + 1) jobs)
arriving-done s z t jobs [] h other = (sym (joined-none z) ∙ h.state, h.later)
arriving-done s z t jobs (j ∷ js) h other =
    let from : t ≤ j.submit = All-head (λ (j : EffectiveJob). t ≤ j.submit) j js h.from in
    let later : t < j.submit =
    ⊎_elim (λ (l : t < j.submit). l) (λ (l : j.submit ≤ t). absurd (other (some-same j.submit t (omega arith)))) (cases_lt t j.submit) in
    let all = later-all t j js later h.falling in (
      sym (joined-none z) ∙ ap (joined z) (sym (at-none t (j ∷ js) all)) ∙ h.state,
      sym (from-same (t + 1) (j ∷ js) (All-weaker (λ (k : EffectiveJob). t < k.submit) (λ (k : EffectiveJob). t + 1 ≤ k.submit) (λ k m. omega arith) (j ∷ js) all)) ∙ h.later,
    )
  where
    some-same : (a b : ℕ) → a ≡ b → ◌≡◌ {A = Option ℕ} (Some a) (Some b)
    some-same a b e = ap Some e
