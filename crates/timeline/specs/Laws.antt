-- What holds of the simulation of each plan, in either order of backfills.
use Rattle.std.specs.Prelude.{◌≡◌, ℕ, ◌+◌, ◌≤◌, ◌<◌, ◌↔◌, nat_eq, List, ◌∷◌, length, None, Some, All, Any, IsSomeAnd, count_by}
use Rattle.scenarios.specs.Job.{EffectiveJob}
use Rattle.scenarios.specs.Plan.{Plan}
use Rattle.scenarios.specs.Placed.{real_end}
use Rattle.cluster_state.specs.State.{IsSound, empty}
use Rattle.easy_rule.specs.declared.shadow_time.Shadow.{Shadow}
use Rattle.easy_rule.specs.Rule.{next, shadow_of, shadow_time}
use Rattle.easy_rule.specs.Pass.{front}
use Rattle.easy_rule.specs.Simulation.{IsEvent, before, ready, bound, sim, start_of, starts_before}
use Rattle.scenarios.specs.SoundPlan.{IsPlan}

-- each job starts exactly once, and nobody else starts
abbrev pub EachJobStartsOnce : Type 0
EachJobStartsOnce = (plan : Plan) (n : ℕ) → IsPlan plan → count_by (λ x. nat_eq x.number n) (sim plan) ≡ count_by (λ j. nat_eq j.number n) plan.jobs

-- each job has a start, at its submit second or later
abbrev pub NoneStartsEarly : Type 0
NoneStartsEarly = (plan : Plan) → IsPlan plan → All (λ j. IsSomeAnd (start_of (sim plan) j.number) (λ t. j.submit ≤ t)) plan.jobs

-- a job of number n starts at second t where, and only where, a job of that number and start runs before second t + 1
abbrev pub StartsAreRunningJobs : Type 0
StartsAreRunningJobs =
    (plan : Plan) (n t : ℕ) → IsPlan plan
    → Any (λ x. (x.number ≡ n) × (x.at ≡ t)) (sim plan) ↔ Any (λ r. (r.job.number ≡ n) × (r.start ≡ t)) (before plan (t + 1)).running

-- after the last submit second and as long again as all jobs run, nobody waits or runs
abbrev pub AllHaveEnded : Type 0
AllHaveEnded = (plan : Plan) (t : ℕ) → IsPlan plan → bound plan < t → before plan t ≡ empty plan.procs plan.order

-- no job ends later than that
abbrev pub AllEndByTheBound : Type 0
AllEndByTheBound = (plan : Plan) (t : ℕ) → IsPlan plan → All (λ r. real_end r ≤ bound plan) (before plan t).running

-- and none starts later
abbrev pub AllStartByTheBound : Type 0
AllStartByTheBound = (plan : Plan) → IsPlan plan → All (λ x. x.at ≤ bound plan) (sim plan)

-- nor does an event second come later
abbrev pub EventsEndByTheBound : Type 0
EventsEndByTheBound = (plan : Plan) (t : ℕ) → IsPlan plan → IsEvent plan t → t ≤ bound plan

-- the state before each second is sound
abbrev pub EachStateIsSound : Type 0
EachStateIsSound = (plan : Plan) (t : ℕ) → IsPlan plan → IsSound (before plan t)

-- before each second nobody may start: all that could have
abbrev pub EachStateIsSettled : Type 0
EachStateIsSettled = (plan : Plan) (t : ℕ) → next (before plan t) t ≡ None

-- no event second from a on, up to before b
abbrev pub IsQuiet : Plan → ℕ → ℕ → Type 0
IsQuiet plan a b = (t : ℕ) → a ≤ t → t < b → IsEvent plan t → ⊥

-- over seconds at which no job ends and none is submitted, no state changes and nobody starts
abbrev pub QuietSecondsChangeNothing : Type 0
QuietSecondsChangeNothing = (plan : Plan) (a b : ℕ) → a ≤ b → IsQuiet plan a b → (before plan b ≡ before plan a) × (starts_before plan b ≡ starts_before plan a)

-- where no job ends at second t, nobody who waited before it may start, and what the first of them leaves stays the same
abbrev pub OnlyEndsUnsettle : Type 0
OnlyEndsUnsettle =
    (plan : Plan) (t : ℕ) → (Any (λ r. real_end r ≡ t) (before plan t).running → ⊥)
    → (next (front (ready plan (before plan t) t) (length (before plan t).waiting)) t ≡ None) × ((w : Shadow) → shadow_of (before plan t) ≡ Some w → shadow_of (ready plan (before plan t) t) ≡ Some w)

-- the job waits first before second t
abbrev pub IsHead : Plan → ℕ → EffectiveJob → Type 0
IsHead plan t job = (rest : List EffectiveJob) × ((before plan t).waiting ≡ job ∷ rest)

-- its shadow time then
abbrev pub head_time : Plan → ℕ → EffectiveJob → ℕ
head_time plan t job = shadow_time (before plan t) job.size

-- while a job waits first, its shadow time never goes up from one second to a later one
abbrev pub ShadowTimesNeverRise : Type 0
ShadowTimesNeverRise =
    (plan : Plan) (t u : ℕ) (job : EffectiveJob) → IsPlan plan → t ≤ u → IsHead plan t job → IsHead plan u job → head_time plan u job ≤ head_time plan t job

-- and it starts no later than any of its shadow times
abbrev pub HeadsStartByTheirShadowTimes : Type 0
HeadsStartByTheirShadowTimes =
    (plan : Plan) (t : ℕ) (job : EffectiveJob) → IsPlan plan → IsHead plan t job → IsSomeAnd (start_of (sim plan) job.number) (λ at. (t ≤ at) × (at ≤ head_time plan t job))
