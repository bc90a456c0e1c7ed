-- The simulation of a plan, second by second, under EASY backfilling (Lifka 1995; Mu'alem and Feitelson, IEEE TPDS 12(6), 2001).
use Rattle.std.specs.Prelude.{◌≡◌, ◌≢◌, ℕ, zero, suc, ◌+◌, ◌⊎◌, not, nat_eq, List, [], ◌∷◌, ◌++◌, Option, filter, find, sum_by, max, Any}
use Rattle.std.specs.Option.{option_map}
use Rattle.scenarios.specs.Job.{EffectiveJob}
use Rattle.scenarios.specs.Placed.{real_end}
use Rattle.cluster_state.specs.State.{State, empty}
use Rattle.easy_rule.specs.declared.start.Start.{Start}
use Rattle.easy_rule.specs.Rule.{state_after, starts_at}
use Rattle.scenarios.specs.Plan.{Plan}

-- the running jobs that end at second t leave
abbrev pub ended : State → ℕ → State
ended s t = record { procs = s.procs; order = s.order; waiting = s.waiting; running = filter (λ r. not (nat_eq (real_end r) t)) s.running }

-- the jobs that are submitted at second t, in the order of the log
abbrev pub submitted : Plan → ℕ → List EffectiveJob
submitted plan t = filter (λ j. nat_eq j.submit t) plan.jobs

-- jobs join the queue, at its end
abbrev pub joined : State → List EffectiveJob → State
joined s js = record { procs = s.procs; order = s.order; waiting = s.waiting ++ js; running = s.running }

-- the state of second t before the rule is applied: first jobs end, then jobs arrive
abbrev pub ready : Plan → State → ℕ → State
ready plan s t = joined (ended s t) (submitted plan t)

-- the state that second t leaves
abbrev pub second : Plan → State → ℕ → State
second plan s t = state_after (ready plan s t) t

-- the state before second t
unfoldable pub before : Plan → ℕ → State
before plan zero = empty plan.procs plan.order
before plan (suc t) = second plan (before plan t) t

-- the starts of second t, in order
abbrev pub starts_in : Plan → ℕ → List Start
starts_in plan t = starts_at (ready plan (before plan t) t) t

-- the starts of all seconds before t, in order
unfoldable pub starts_before : Plan → ℕ → List Start
starts_before plan zero = []
starts_before plan (suc t) = starts_before plan t ++ starts_in plan t

-- the greatest submit second
abbrev pub last_submit : List EffectiveJob → ℕ
last_submit [] = 0
last_submit (j ∷ js) = max j.submit (last_submit js)

-- a second by which all jobs have ended: the last submit second and all lengths
abbrev pub bound : Plan → ℕ
bound plan = last_submit plan.jobs + sum_by (λ j. j.length) plan.jobs

-- the starts of all jobs, in order of starting
abbrev pub sim : Plan → List Start
sim plan = starts_before plan (bound plan + 1)

-- the second of the first of these starts that is this job's
abbrev pub start_of : List Start → ℕ → Option ℕ
start_of starts number = option_map (λ (x : Start). x.at) (find (λ x. nat_eq x.number number) starts)

-- an event second: a job is submitted or ends at it
abbrev pub IsEvent : Plan → ℕ → Type 0
IsEvent plan t = (submitted plan t ≢ []) ⊎ Any (λ r. real_end r ≡ t) (before plan t).running
