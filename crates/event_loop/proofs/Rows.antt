-- The jobs that come next, in a row, and those behind them: at a position, after those of its second have arrived, and in the loop that takes
-- jobs up.
use Rattle.std.proofs.Common.{◌≡◌, ◌≢◌, ℕ, ◌+◌, ◌≤◌, ◌<◌, nat_le, List, [], ◌∷◌, ◌++◌, append-nil, append_assoc, Option, Some, None, IfSome, All, refl, sym, ◌∙◌, ap, arith, subst, ⊎_elim}
use Rattle.std.proofs.lemmas.List.Elements.{All-nil, All-cons, All-head, All-tail, All-weaker, All-append, All-filter, filter-append}
use Rattle.std.proofs.lemmas.Bool.{cases_lt}
use Rattle.scenarios.specs.Job.{EffectiveJob}
use Rattle.scenarios.specs.Plan.{from_on}
use Rattle.event_loop.specs.Upcoming.{NonFalling, NextJobs, IsUpcoming, from_any, first_submit, next_of}
use Rattle.scenarios.proofs.Lemmas.{from-out}
use Rattle.event_loop.proofs.ToCome.{at_second, at-from, at-none, from-All, from-falling, from-later, from-same}

abbrev upcoming_of : List EffectiveJob → Option ℕ → NextJobs
upcoming_of row later = record { row = row; later = later }

All-front : (P : EffectiveJob → Type 0) (xs ys : List EffectiveJob) → All P (xs ++ ys) → All P xs
All-front P [] ys a = All-nil P
All-front P (x ∷ xs) ys a = All-cons P x xs (All-head P x (xs ++ ys) a) (All-front P xs ys (All-tail P x (xs ++ ys) a))

All-back : (P : EffectiveJob → Type 0) (xs ys : List EffectiveJob) → All P (xs ++ ys) → All P ys
All-back P [] ys a = a
All-back P (x ∷ xs) ys a = All-back P xs ys (All-tail P x (xs ++ ys) a)

falling-front : (xs ys : List EffectiveJob) → NonFalling (xs ++ ys) → NonFalling xs
falling-front [] ys r = tt
falling-front (x ∷ xs) ys r = (All-front (λ (k : EffectiveJob). x.submit ≤ k.submit) xs ys r.0, falling-front xs ys r.1)

from-none : (t : ℕ) (js : List EffectiveJob) → All (λ (j : EffectiveJob). j.submit < t) js → from_on t js ≡ []
from-none t [] a = refl
from-none t (j ∷ js) a =
    from-out t j js (All-head (λ (j : EffectiveJob). j.submit < t) j js a) ∙ from-none t js (All-tail (λ (j : EffectiveJob). j.submit < t) j js a)

from-append : (t : ℕ) (xs ys : List EffectiveJob) → from_on t (xs ++ ys) ≡ from_on t xs ++ from_on t ys
from-append t xs ys = filter-append (λ (j : EffectiveJob). nat_le t j.submit) xs ys

from-first : (t : ℕ) (jobs : List EffectiveJob) (j : EffectiveJob) (js : List EffectiveJob) → NonFalling jobs → from_on t jobs ≡ j ∷ js → from_on j.submit jobs ≡ j ∷ js
from-first t jobs j js r e =
    let falling : NonFalling (j ∷ js) = subst NonFalling e (from-falling t jobs r) in
    let from : t ≤ j.submit = All-head (λ (j : EffectiveJob). t ≤ j.submit) j js (subst (All (λ (j : EffectiveJob). t ≤ j.submit)) e (from-All t jobs)) in
    sym (from-later t j.submit jobs from) ∙ ap (from_on j.submit) e
    ∙ from-same j.submit (j ∷ js) (All-cons (λ (k : EffectiveJob). j.submit ≤ k.submit) j js (omega arith) falling.0)

-- with none in the row, the submit second of the first job from t on tells what comes next from t on
pub upcoming-first : (t : ℕ) (jobs : List EffectiveJob) (later : Option ℕ) → NonFalling jobs → later ≡ first_submit (from_on t jobs) → IsUpcoming (upcoming_of [] later) t jobs
upcoming-first t jobs later r e = subst (λ (o : Option ℕ). IsUpcoming (upcoming_of [] o) t jobs) (sym e) (go (from_on t jobs) refl)
  where
    go : (js : List EffectiveJob) → from_on t jobs ≡ js → IsUpcoming (upcoming_of [] (first_submit js)) t jobs
    go [] h = record { all = h; first = refl; before = tt }
    go (j ∷ js) h =
        let same = from-first t jobs j js r h in
        record {
          all = h ∙ sym same;
          first = ap first_submit (sym same);
          before = All-nil (λ (k : EffectiveJob). k.submit < j.submit);
        }

-- the submit second of the next job is that of the first job from the position on
pub next-is : (c : NextJobs) (t : ℕ) (jobs : List EffectiveJob) → IsUpcoming c t jobs → next_of c ≡ first_submit (from_on t jobs)
next-is c t jobs h = go c.row refl
  where
    go : (row : List EffectiveJob) → c.row ≡ row → next_of c ≡ first_submit (from_on t jobs)
    go [] e = ap (λ (js : List EffectiveJob). next_of (upcoming_of js c.later)) e ∙ h.first ∙ ap (λ (js : List EffectiveJob). first_submit (js ++ from_any c.later jobs)) (sym e) ∙ ap first_submit (sym h.all)
    go (j ∷ js) e =
        ap (λ (js : List EffectiveJob). next_of (upcoming_of js c.later)) e ∙ ap (λ (js : List EffectiveJob). first_submit (js ++ from_any c.later jobs)) (sym e) ∙ ap first_submit (sym h.all)

-- the same jobs come next at another position, from which on the same jobs come
pub upcoming-on : (c : NextJobs) (a b : ℕ) (jobs : List EffectiveJob) → from_on a jobs ≡ from_on b jobs → IsUpcoming c a jobs → IsUpcoming c b jobs
upcoming-on c a b jobs e h = record { all = sym e ∙ h.all; first = h.first; before = h.before }

-- in the row no later job is submitted earlier
pub row-falling : (c : NextJobs) (t : ℕ) (jobs : List EffectiveJob) → NonFalling jobs → IsUpcoming c t jobs → NonFalling c.row
row-falling c t jobs r h = falling-front c.row (from_any c.later jobs) (subst NonFalling h.all (from-falling t jobs r))

all-from : (c : NextJobs) (t : ℕ) (jobs : List EffectiveJob) → IsUpcoming c t jobs → All (λ (j : EffectiveJob). t ≤ j.submit) (c.row ++ from_any c.later jobs)
all-from c t jobs h = subst (All (λ (j : EffectiveJob). t ≤ j.submit)) h.all (from-All t jobs)

-- the jobs of the row are submitted at the position or later
pub row-from : (c : NextJobs) (t : ℕ) (jobs : List EffectiveJob) → IsUpcoming c t jobs → All (λ (j : EffectiveJob). t ≤ j.submit) c.row
row-from c t jobs h = All-front (λ (j : EffectiveJob). t ≤ j.submit) c.row (from_any c.later jobs) (all-from c t jobs h)

-- where jobs behind the row are submitted at the position, the row is empty
pub row-none : (c : NextJobs) (t : ℕ) (jobs : List EffectiveJob) → IsUpcoming c t jobs → c.later ≡ Some t → c.row ≡ []
row-none c t jobs h at = go c.row (row-from c t jobs h) (subst (λ (o : Option ℕ). IfSome o (λ u. All (λ (j : EffectiveJob). j.submit < u) c.row)) at h.before)
  where
    go : (row : List EffectiveJob) → All (λ (j : EffectiveJob). t ≤ j.submit) row → All (λ (j : EffectiveJob). j.submit < t) row → row ≡ []
    go [] a b = refl
    go (j ∷ js) a b =
        let l = All-head (λ (j : EffectiveJob). t ≤ j.submit) j js a in
        let m = All-head (λ (j : EffectiveJob). j.submit < t) j js b in
        absurd (omega (arith, l, m))

-- where the first job behind the row, if there is one, is not submitted at the position, it is submitted later
pub behind-later : (c : NextJobs) (t : ℕ) (jobs : List EffectiveJob) → IsUpcoming c t jobs → c.later ≢ Some t → IfSome c.later (λ u. t < u)
behind-later c t jobs h other = go c.later (from_any c.later jobs) h.first (All-back (λ (j : EffectiveJob). t ≤ j.submit) c.row (from_any c.later jobs) (all-from c t jobs h)) other
  where
    go : (later : Option ℕ) (js : List EffectiveJob) → later ≡ first_submit js → All (λ (j : EffectiveJob). t ≤ j.submit) js → later ≢ Some t → IfSome later (λ u. t < u)
    go None js e a n = tt
    go (Some u) [] e a n = cc
    go (Some u) (j ∷ js) e a n =
        let from : t ≤ j.submit = All-head (λ (j : EffectiveJob). t ≤ j.submit) j js a in
        let same : u ≡ j.submit = some-same u j.submit e in
        ⊎_elim (λ (l : t < u). l) (λ (l : u ≤ t). absurd (n (ap Some (omega (arith, l, from, same))))) (cases_lt t u)
      where
        some-same : (a b : ℕ) → ◌≡◌ {A = Option ℕ} (Some a) (Some b) → a ≡ b
        some-same a b e = cc

behind-none : (t : ℕ) (later : Option ℕ) (jobs : List EffectiveJob) → IfSome later (λ u. t < u) → at_second t (from_any later jobs) ≡ []
behind-none t None jobs l = refl
behind-none t (Some u) jobs l =
    at-none t (from_on u jobs) (All-weaker (λ (j : EffectiveJob). u ≤ j.submit) (λ (j : EffectiveJob). t < j.submit) (λ j m. omega (arith, l, m)) (from_on u jobs) (from-All u jobs))

behind-stays : (t : ℕ) (later : Option ℕ) (jobs : List EffectiveJob) → IfSome later (λ u. t < u) → from_on (t + 1) (from_any later jobs) ≡ from_any later jobs
behind-stays t None jobs l = refl
behind-stays t (Some u) jobs l =
    from-same (t + 1) (from_on u jobs) (All-weaker (λ (j : EffectiveJob). u ≤ j.submit) (λ (j : EffectiveJob). t + 1 ≤ j.submit) (λ j m. omega (arith, l, m)) (from_on u jobs) (from-All u jobs))

-- where the jobs behind the row come later than t, all jobs of second t stand in the row
pub row-has : (c : NextJobs) (t : ℕ) (jobs : List EffectiveJob) → IsUpcoming c t jobs → IfSome c.later (λ u. t < u) → at_second t c.row ≡ at_second t jobs
row-has c t jobs h l =
    sym (append-nil (at_second t c.row)) ∙ ap (λ (js : List EffectiveJob). at_second t c.row ++ js) (sym (behind-none t c.later jobs l))
    ∙ sym (filter-append _ c.row (from_any c.later jobs)) ∙ ap (at_second t) (sym h.all) ∙ at-from t t jobs (omega arith)

-- where the jobs behind the row come later than t, the row without those of t tells what comes next from t + 1 on
pub upcoming-after : (c d : NextJobs) (t : ℕ) (jobs : List EffectiveJob) → IsUpcoming c t jobs → IfSome c.later (λ u. t < u) → d.row ≡ from_on (t + 1) c.row → d.later ≡ c.later → IsUpcoming d (t + 1) jobs
upcoming-after c d t jobs h l row later =
    subst (λ (o : Option ℕ). IsUpcoming (upcoming_of d.row o) (t + 1) jobs) (sym later)
    (subst (λ (js : List EffectiveJob). IsUpcoming (upcoming_of js c.later) (t + 1) jobs) (sym row) (record {
      all = sym (from-later t (t + 1) jobs (omega arith)) ∙ ap (from_on (t + 1)) h.all ∙ from-append (t + 1) c.row (from_any c.later jobs)
          ∙ ap (λ (js : List EffectiveJob). from_on (t + 1) c.row ++ js) (behind-stays t c.later jobs l);
      first = h.first;
      before = kept c.later h.before;
    }))
  where
    kept : (later : Option ℕ) → IfSome later (λ u. All (λ (j : EffectiveJob). j.submit < u) c.row) → IfSome later (λ u. All (λ (j : EffectiveJob). j.submit < u) (from_on (t + 1) c.row))
    kept None a = tt
    kept (Some u) a = All-filter (λ (j : EffectiveJob). nat_le (t + 1) j.submit) (λ (j : EffectiveJob). j.submit < u) c.row a

-- the jobs from t on are those that a loop took and those that are left, where the former are submitted by `last` and the latter no earlier
pub record Taking (t last : ℕ) (row left jobs : List EffectiveJob) : Type 0 where
  pub all : from_on t jobs ≡ row ++ left
  pub since : t ≤ last
  pub taken : All (λ (j : EffectiveJob). j.submit ≤ last) row
  pub from : All (λ (j : EffectiveJob). last ≤ j.submit) left
  pub falling : NonFalling left

-- before the loop takes any, all from t on are left, and `last` is t
pub taking-first : (t : ℕ) (row left jobs : List EffectiveJob) → NonFalling jobs → row ≡ [] → left ≡ from_on t jobs → Taking t t row left jobs
taking-first t row left jobs r none e =
    subst (λ (js : List EffectiveJob). Taking t t js left jobs) (sym none) (subst (λ (js : List EffectiveJob). Taking t t [] js jobs) (sym e) (record {
      all = refl;
      since = omega arith;
      taken = All-nil (λ (j : EffectiveJob). j.submit ≤ t);
      from = from-All t jobs;
      falling = from-falling t jobs r;
    }))

-- when the loop takes the first that is left, `last` is its submit second
pub taking-more : (t last : ℕ) (row row' left rest jobs : List EffectiveJob) (job : EffectiveJob) → Taking t last row left jobs → left ≡ job ∷ rest → row' ≡ row ++ job ∷ [] → Taking t job.submit row' rest jobs
taking-more t last row row' left rest jobs job h e is =
    let h' = subst (λ (js : List EffectiveJob). Taking t last row js jobs) e h in
    let since : last ≤ job.submit = All-head (λ (j : EffectiveJob). last ≤ j.submit) job rest h'.from in
    subst (λ (js : List EffectiveJob). Taking t job.submit js rest jobs) (sym is) (record {
      all = h'.all ∙ sym (append_assoc row (job ∷ []) rest);
      since = (let l = h'.since in omega (arith, l, since));
      taken = All-append (λ (j : EffectiveJob). j.submit ≤ job.submit) row (job ∷ [])
          (All-weaker (λ (j : EffectiveJob). j.submit ≤ last) (λ (j : EffectiveJob). j.submit ≤ job.submit) (λ j m. omega (arith, m, since)) row h'.taken)
          (All-cons (λ (j : EffectiveJob). j.submit ≤ job.submit) job [] (omega arith) (All-nil (λ (j : EffectiveJob). j.submit ≤ job.submit)));
      from = h'.falling.0;
      falling = h'.falling.1;
    })

-- where the loop stops before a job that is submitted later than `last`, what it took and that job's second tell what comes next from t on
pub taking-stop : (t last : ℕ) (row left rest jobs : List EffectiveJob) (job : EffectiveJob) → Taking t last row left jobs → left ≡ job ∷ rest → last < job.submit → IsUpcoming (upcoming_of row (Some job.submit)) t jobs
taking-stop t last row left rest jobs job h e later =
    let h' = subst (λ (js : List EffectiveJob). Taking t last row js jobs) e h in
    let since = h'.since in
    let before : All (λ (j : EffectiveJob). j.submit < job.submit) row =
    All-weaker (λ (j : EffectiveJob). j.submit ≤ last) (λ (j : EffectiveJob). j.submit < job.submit) (λ j m. omega (arith, m, later)) row h'.taken in
    let behind : from_on job.submit jobs ≡ job ∷ rest =
    sym (from-later t job.submit jobs (omega (arith, since, later))) ∙ ap (from_on job.submit) h'.all ∙ from-append job.submit row (job ∷ rest)
    ∙ ap (λ (js : List EffectiveJob). js ++ from_on job.submit (job ∷ rest)) (from-none job.submit row before)
    ∙ from-same job.submit (job ∷ rest) (All-cons (λ (k : EffectiveJob). job.submit ≤ k.submit) job rest (omega arith) h'.falling.0) in
    record {
      all = h'.all ∙ ap (λ (js : List EffectiveJob). row ++ js) (sym behind);
      first = ap first_submit (sym behind);
      before = before;
    }
