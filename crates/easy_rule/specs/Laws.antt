-- What the rule promises, apart from how it searches.
use Rattle.std.specs.Prelude.{◌≡◌, ℕ, ◌≤◌, ◌<◌, ◌⊎◌, Bool, true, false, List, ◌∷◌, length, None, Some, All, MatchOption, slice_get}
use Rattle.scenarios.specs.Job.{EffectiveJob}
use Rattle.scenarios.specs.declared.order.Order.{Order}
use Rattle.scenarios.specs.declared.order.Order.TheVariants.{Arrival, Shortest}
use Rattle.cluster_state.specs.State.{State, free}
use Rattle.easy_rule.specs.declared.shadow_time.Shadow.{Shadow}
use Rattle.easy_rule.specs.Rule.{next, may_backfill, shadow_at, shadow_of}
use Rattle.easy_rule.specs.Pass.{front}
use Rattle.easy_rule.specs.Simulation.{joined}

-- in this order, the job at place k of the queue does not come after the one at place m
abbrev pub IsNotAfter : Order → EffectiveJob → ℕ → EffectiveJob → ℕ → Type 0
IsNotAfter Arrival a k b m = k ≤ m
IsNotAfter Shortest a k b m = (a.estimate < b.estimate) ⊎ ((a.estimate ≡ b.estimate) × (k ≤ m))

-- the job stands among these and passes, and none that passes comes before it in this order
pub record IsFirst (order : Order) (passes : EffectiveJob → Bool) (js : List EffectiveJob) (job : EffectiveJob) : Type 0 where
  pub place : ℕ
  pub stands : slice_get js place ≡ Some job
  pub passed : passes job ≡ true
  pub first : (m : ℕ) (other : EffectiveJob) → slice_get js m ≡ Some other → passes other ≡ true → IsNotAfter order job place other m

-- where the first waiting job does not fit, the next one is the first, in the order, of the later jobs that may be backfilled; none where none may
abbrev pub NextIsTheFirst : Type 0
NextIsTheFirst =
    (s : State) (now : ℕ) (head : EffectiveJob) (rest : List EffectiveJob) → s.waiting ≡ head ∷ rest → free s < head.size
    → MatchOption (next s now) (All (λ j. may_backfill now (free s) (shadow_at s head.size) j ≡ false) rest)
    (λ job. IsFirst s.order (may_backfill now (free s) (shadow_at s head.size)) rest job)

-- where nobody may start, whoever joins the queue lets none of those before him start, and leaves the shadow as it is
abbrev pub ArrivalsUnsettleNobody : Type 0
ArrivalsUnsettleNobody =
    (s : State) (js : List EffectiveJob) (now : ℕ) → next s now ≡ None
    → (next (front (joined s js) (length s.waiting)) now ≡ None) × ((w : Shadow) → shadow_of s ≡ Some w → shadow_of (joined s js) ≡ Some w)
