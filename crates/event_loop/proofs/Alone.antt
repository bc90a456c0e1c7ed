-- A job that arrives alone: the first of the row, where the next one is not of its second.
use Rattle.std.proofs.Common.{◌≡◌, ◌≢◌, ℕ, ◌+◌, ◌≤◌, ◌<◌, List, [], ◌∷◌, drop, slice_get, Option, Some, None, IfSome, All, refl, sym, ◌∙◌, ap, arith, subst, ⊎_elim}
use Rattle.std.proofs.lemmas.List.Elements.{All-nil, All-head, All-tail, All-weaker}
use Rattle.std.proofs.lemmas.Bool.{cases_lt}
use Rattle.scenarios.specs.Job.{EffectiveJob}
use Rattle.scenarios.specs.Plan.{from_on}
use Rattle.scenarios.proofs.Lemmas.{from-out}
use Rattle.event_loop.specs.Upcoming.{NonFalling, NextJobs, IsUpcoming, first_submit, without_first}
use Rattle.event_loop.proofs.ToCome.{at_second, at-in, at-none, from-same, later-all}
use Rattle.event_loop.proofs.Rows.{row-falling, row-from, row-has, upcoming-after}

first-of : (js : List EffectiveJob) (job : EffectiveJob) → slice_get js 0 ≡ Some job → js ≡ job ∷ drop 1 js
first-of [] job e = cc
first-of (j ∷ js) job e = ap (λ (k : EffectiveJob). k ∷ js) (same j job e)
  where
    same : (a b : EffectiveJob) → ◌≡◌ {A = Option EffectiveJob} (Some a) (Some b) → a ≡ b
    same a b e = cc

rest-later : (t : ℕ) (js : List EffectiveJob) → NonFalling js → All (λ (j : EffectiveJob). t ≤ j.submit) js → first_submit js ≢ Some t → All (λ (j : EffectiveJob). t < j.submit) js
rest-later t [] r a other = All-nil (λ (j : EffectiveJob). t < j.submit)
rest-later t (j ∷ js) r a other =
    ⊎_elim (λ (l : t < j.submit). later-all t j js l r) (λ (l : j.submit ≤ t). absurd (other (some-same j.submit t (here j js a l)))) (cases_lt t j.submit)
  where
    some-same : (a b : ℕ) → a ≡ b → ◌≡◌ {A = Option ℕ} (Some a) (Some b)
    some-same a b e = ap Some e

    here : (j : EffectiveJob) (js : List EffectiveJob) → All (λ (j : EffectiveJob). t ≤ j.submit) (j ∷ js) → j.submit ≤ t → j.submit ≡ t
    here j js a l = let from : t ≤ j.submit = All-head (λ (j : EffectiveJob). t ≤ j.submit) j js a in omega (arith, from, l)

pub record IsAlone (c : NextJobs) (t : ℕ) (jobs : List EffectiveJob) (job : EffectiveJob) : Type 0 where
  pub only : at_second t jobs ≡ job ∷ []
  pub rest : IsUpcoming (without_first c) (t + 1) jobs

pub alone-at : (c : NextJobs) (t : ℕ) (jobs : List EffectiveJob) (job : EffectiveJob) → NonFalling jobs → IsUpcoming c t jobs → IfSome c.later (λ u. t < u) → job.submit ≡ t → slice_get c.row 0 ≡ Some job → first_submit (drop 1 c.row) ≢ Some t → IsAlone c t jobs job
alone-at c t jobs job r h l at first other =
    let rest = drop 1 c.row in
    let parts : c.row ≡ job ∷ rest = first-of c.row job first in
    let falling : NonFalling (job ∷ rest) = subst NonFalling parts (row-falling c t jobs r h) in
    let from : All (λ (j : EffectiveJob). t ≤ j.submit) (job ∷ rest) = subst (All (λ (j : EffectiveJob). t ≤ j.submit)) parts (row-from c t jobs h) in
    let later = rest-later t rest falling.1 (All-tail (λ (j : EffectiveJob). t ≤ j.submit) job rest from) other in
    let out : job.submit < t + 1 = omega (arith, at) in
    record {
      only = sym (row-has c t jobs h l) ∙ ap (at_second t) parts ∙ at-in t job rest at ∙ ap (λ js. job ∷ js) (at-none t rest later);
      rest = upcoming-after c (without_first c) t jobs h l
          (sym (ap (from_on (t + 1)) parts ∙ from-out (t + 1) job rest out
          ∙ from-same (t + 1) rest (All-weaker (λ (j : EffectiveJob). t < j.submit) (λ (j : EffectiveJob). t + 1 ≤ j.submit) (λ j m. omega (arith, m)) rest later)))
          refl;
    }

pub record IsAloneIf (c : NextJobs) (t : ℕ) (jobs : List EffectiveJob) (o : Option EffectiveJob) : Type 0 where
  pub only : IfSome o (λ job. at_second t jobs ≡ job ∷ [])
  pub rest : IfSome o (λ job. IsUpcoming (without_first c) (t + 1) jobs)

-- where the first of the row is submitted at t, the next is not, and those behind come later, it alone is of t, and without it the row has those from t + 1 on
pub alone-if : (c : NextJobs) (t : ℕ) (jobs : List EffectiveJob) (o : Option EffectiveJob) → NonFalling jobs → IsUpcoming c t jobs → IfSome c.later (λ u. t < u) → IfSome o (λ job. (job.submit ≡ t) × (slice_get c.row 0 ≡ Some job)) → IfSome o (λ _. first_submit (drop 1 c.row) ≢ Some t)
    → IsAloneIf c t jobs o
alone-if c t jobs None r h l first other = record { only = tt; rest = tt }
alone-if c t jobs (Some job) r h l first other =
    let a = alone-at c t jobs job r h l first.0 first.1 other in
    record { only = a.only; rest = a.rest }
