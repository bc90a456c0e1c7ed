-- How many jobs wait and run before a second: no more than a machine and a log allow.
use Rattle.std.proofs.Common.{ℕ, ◌≤◌, List, [], ◌∷◌, length, All, ap, arith}
use Rattle.std.proofs.lemmas.List.Sums.{length-filter, count_by-le-length, sum_by-cons}
use Rattle.std.proofs.lemmas.List.Elements.{All-head, All-tail}
use Rattle.scenarios.specs.Job.{IsWithinLimits}
use Rattle.scenarios.specs.Plan.{Plan}
use Rattle.scenarios.specs.SoundPlan.{IsPlan}
use Rattle.scenarios.specs.declared.placed.Placed.{Placed}
use Rattle.cluster_state.specs.State.{State, IsSound, busy}
use Rattle.easy_rule.specs.Simulation.{before}
use Rattle.timeline.specs.Closed.{waits_before}
use Rattle.timeline.proofs.Lemmas.{states-follow-from-starts}

one-each : (rs : List Placed) → All (λ r. IsWithinLimits r.job) rs → length rs ≤ busy rs
one-each [] h = omega arith
one-each (r ∷ rs) h =
    let here = All-head (λ r. IsWithinLimits r.job) r rs h in
    let size = here.takes_some in
    let rest = one-each rs (All-tail (λ r. IsWithinLimits r.job) r rs h) in
    omega (arith, size, rest, sum_by-cons (λ (r : Placed). r.job.size) r rs)

-- no more jobs run in a sound state than it has processors
pub few-running : (s : State) → IsSound s → length s.running ≤ s.procs
few-running s h = let a = one-each s.running h.running_limits in let b = h.fits in omega (arith, a, b)

-- no more jobs wait before a second than the plan has
pub few-waiting : (plan : Plan) (t : ℕ) → IsPlan plan → length (before plan t).waiting ≤ length plan.jobs
few-waiting plan t p =
    let e = ap (λ (s : State). length s.waiting) (states-follow-from-starts plan t p) in
    omega (arith, e, length-filter (waits_before plan t) plan.jobs, count_by-le-length (waits_before plan t) plan.jobs)
