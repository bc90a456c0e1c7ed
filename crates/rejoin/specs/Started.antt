-- Whether some numbers wait or run, found by their own starts.
use Rattle.std.specs.Prelude.{◌≡◌, ℕ, ◌+◌, ◌≤◌, ◌<◌, ◌↔◌, ◌||◌, Bool, true, false, nat_eq, nat_lt, count_by, sum_by, List, [], ◌∷◌, All, IfSome}
use Rattle.scenarios.specs.Job.{EffectiveJob}
use Rattle.scenarios.specs.Plan.{Plan, job_numbered}
use Rattle.scenarios.specs.SoundPlan.{IsPlan}
use Rattle.cluster_state.specs.Snapshot.{numbers_of}
use Rattle.easy_rule.specs.declared.start.Start.{Start}
use Rattle.easy_rule.specs.Simulation.{before, bound, starts_before, start_of}
use Rattle.timeline.specs.Meeting.{NoneOf}
use Rattle.rejoin.specs.Named.{submit_in}

-- whether a number is one of these
abbrev pub among : List ℕ → ℕ → Bool
among [] n = false
among (m ∷ ms) n = nat_eq m n || among ms n

-- no number stands twice among these
abbrev pub AreSingle : List ℕ → Type 0
AreSingle ns = (n : ℕ) → count_by (λ m. nat_eq m n) ns ≤ 1

-- how many of these starts are those of some numbers
abbrev pub starts_of : List ℕ → List Start → ℕ
starts_of ns starts = count_by (λ x. among ns x.number) starts

-- how many of these seconds come before second t
abbrev pub count_before : ℕ → List ℕ → ℕ
count_before t seconds = count_by (λ s. nat_lt s t) seconds

-- how many of some numbers have a job in the plan that is submitted before second t
abbrev pub submitted_of : List ℕ → Plan → ℕ → ℕ
submitted_of ns plan t = sum_by (λ n. count_before t (submit_in (job_numbered plan.jobs n))) ns

-- of some numbers each that has started has ended before second t
abbrev pub HaveEnded : List ℕ → List EffectiveJob → List Start → ℕ → Type 0
HaveEnded ns jobs starts t = (n : ℕ) → among ns n ≡ true → IfSome (start_of starts n) (λ at. IfSome (job_numbered jobs n) (λ job. at + job.length < t))

-- of these starts those of some numbers have ended before second t
abbrev pub EachHasEnded : List ℕ → List EffectiveJob → List Start → ℕ → Type 0
EachHasEnded ns jobs starts t = All (λ x. among ns x.number ≡ true → IfSome (job_numbered jobs x.number) (λ job. x.at + job.length < t)) starts

-- no more of some numbers have started before a second than are submitted before it; all of these have, and have ended,
-- where none of the numbers waits or runs there, and only there
abbrev pub StartsTellWhoStands : Type 0
StartsTellWhoStands =
    (plan : Plan) (ns : List ℕ) (t : ℕ) → IsPlan plan → t ≤ bound plan + 1 → AreSingle ns
    → (starts_of ns (starts_before plan t) ≤ submitted_of ns plan t)
    × (((starts_of ns (starts_before plan t) ≡ submitted_of ns plan t) × HaveEnded ns plan.jobs (starts_before plan t) t) ↔ NoneOf (among ns) (numbers_of (before plan t)))
