-- What the layers above need of a rule that starts jobs, whichever rule it is.
use Rattle.std.specs.Prelude.{◌≡◌, ℕ, ◌+◌, ◌≤◌, ◌<◌, Bool, true, nat_eq, List, [], None, All, sum_by, count_by}
use Rattle.scenarios.specs.Limits.{seconds_end}
use Rattle.scenarios.specs.Job.{EffectiveJob}
use Rattle.scenarios.specs.declared.order.Order.{Order}
use Rattle.scenarios.specs.declared.placed.Placed.{Placed}
use Rattle.cluster_state.specs.State.{State, IsSound, empty}
use Rattle.easy_rule.specs.declared.start.Start.{Start}
use Rattle.easy_rule.specs.Rule.{next, state_after, starts_at}

-- under EASY backfilling no job may start at second `now`
abbrev pub IsSettled : State → ℕ → Type 0
IsSettled s now = next s now ≡ None

-- Of a rule that says which states are settled, what state a decision leaves, and its starts:
-- on an empty machine nobody may start. A decision leaves a settled state, and changes no settled one. Who may not start
-- now may not at a later second of the same state.
pub record Settles (Settled : State → ℕ → Type 0) (after : State → ℕ → State) (starts : State → ℕ → List Start) : Type 0 where
  pub empty_machine : (procs : ℕ) (order : Order) (now : ℕ) → Settled (empty procs order) now
  pub after_decision : (s : State) (now : ℕ) → Settled (after s now) now
  pub at_later_second : (s : State) (now later : ℕ) → now ≤ later → Settled s now → Settled s later
  pub state_stays : (s : State) (now : ℕ) → Settled s now → after s now ≡ s
  pub nobody_starts : (s : State) (now : ℕ) → Settled s now → starts s now ≡ []

-- A decision keeps the machine, the order and all that is true of a sound state. Who waits after it waited before; who
-- runs ran before or waited and started at `now`; and every start is of `now`.
pub record Keeps (after : State → ℕ → State) (starts : State → ℕ → List Start) : Type 0 where
  pub procs : (s : State) (now : ℕ) → (after s now).procs ≡ s.procs
  pub order : (s : State) (now : ℕ) → (after s now).order ≡ s.order
  pub sound : (s : State) (now : ℕ) → now < seconds_end → IsSound s → IsSound (after s now)
  pub waits : (p : EffectiveJob → Bool) (s : State) (now : ℕ) → All (λ j. p j ≡ true) s.waiting → All (λ j. p j ≡ true) (after s now).waiting
  pub runs : (p : Placed → Bool) (s : State) (now : ℕ) → All (λ r. p r ≡ true) s.running → All (λ j. p (record { job = j; start = now }) ≡ true) s.waiting → All (λ r. p r ≡ true) (after s now).running
  pub starts_now : (s : State) (now : ℕ) → All (λ x. x.at ≡ now) (starts s now)

-- A decision loses no job and makes none: whatever is added up over the jobs stays the same, and each that leaves the
-- queue is answered as a start.
pub record Conserves (after : State → ℕ → State) (starts : State → ℕ → List Start) : Type 0 where
  pub work :
      (f : EffectiveJob → ℕ) (s : State) (now : ℕ) → now < seconds_end → IsSound s
      → sum_by f (after s now).waiting + sum_by (λ r. f r.job) (after s now).running ≡ sum_by f s.waiting + sum_by (λ r. f r.job) s.running
  pub outcome :
      (number : ℕ) (s : State) (now : ℕ) → now < seconds_end → IsSound s
      → count_by (λ x. nat_eq x.number number) (starts s now) + count_by (λ j. nat_eq j.number number) (after s now).waiting ≡ count_by (λ j. nat_eq j.number number) s.waiting

-- a rule settles, keeps and conserves
pub record IsRule (Settled : State → ℕ → Type 0) (after : State → ℕ → State) (starts : State → ℕ → List Start) : Type 0 where
  pub settles : Settles Settled after starts
  pub keeps : Keeps after starts
  pub conserves : Conserves after starts

-- EASY backfilling is a rule
abbrev pub EasyIsARule : Type 0
EasyIsARule = IsRule IsSettled state_after starts_at
