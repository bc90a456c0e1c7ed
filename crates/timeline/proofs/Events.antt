-- No event second comes after the bound.
use Rattle.std.proofs.Common.{◌≤◌, ◌<◌, ap, arith, inl, inr, ⊎_elim}
use Rattle.std.proofs.lemmas.Bool.{cases_lt}
use Rattle.scenarios.specs.Placed.{real_end}
use Rattle.easy_rule.specs.Simulation.{bound}
use Rattle.timeline.specs.Laws.{EventsEndByTheBound}
use Rattle.timeline.proofs.Rest.{submitted-none}
use Rattle.timeline.proofs.Bound.{all-end-by-the-bound}

-- each event second comes by the bound
pub events-end-by-the-bound : EventsEndByTheBound
events-end-by-the-bound plan t p (inl come) =
    ⊎_elim
    (λ (l : bound plan < t). absurd (come (submitted-none plan t (omega arith))))
    (λ (l : t ≤ bound plan). l)
    (cases_lt (bound plan) t)
events-end-by-the-bound plan t p (inr (k, r, l, at, e)) =
    let a = all-end-by-the-bound plan t p k r l in
    let f = ap real_end at in
    omega (arith, a, f, e)
