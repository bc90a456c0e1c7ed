-- The bound on seconds is small.
use Rattle.std.proofs.Common.{◌≡◌, ℕ, ap, ◌+◌, ◌*◌, ◌-◌, ◌^◌, ◌≤◌, ◌<◌, List, [], ◌∷◌, All, length, sum_by, arith}
use Rattle.std.proofs.lemmas.List.Sums.{sum_by-cons}
use Rattle.std.proofs.lemmas.List.Elements.{All-head, All-tail}
use Rattle.swf_text.specs.Limits.{whole_limit}
use Rattle.scenarios.specs.Job.{EffectiveJob, IsWithinLimits}
use Rattle.scenarios.specs.Plan.{Plan}
use Rattle.easy_rule.specs.Simulation.{last_submit, bound}
use Rattle.scenarios.specs.SoundPlan.{IsPlan}

lengths-le : (js : List EffectiveJob) → All IsWithinLimits js → sum_by (λ j. j.length) js ≤ 100000000 * length js
lengths-le [] a = omega arith
lengths-le (j ∷ js) a =
    let h = All-head IsWithinLimits j js a in
    let e = sum_by-cons (λ (j : EffectiveJob). j.length) j js in
    let i = lengths-le js (All-tail IsWithinLimits j js a) in
    let x = h.within_estimate in
    let y = h.within_limit in
    omega (arith, e, i, x, y)

submits-le : (js : List EffectiveJob) → All IsWithinLimits js → last_submit js ≤ whole_limit
submits-le [] a = omega arith
submits-le (j ∷ js) a =
    let h = (All-head IsWithinLimits j js a).submitted in
    let i = submits-le js (All-tail IsWithinLimits j js a) in
    omega (arith, h, i)

-- the bound of a plan is no more than 420430400000000
pub bound-le : (plan : Plan) → IsPlan plan → bound plan ≤ 420430400000000
bound-le plan p =
    let a = lengths-le plan.jobs p.limits in
    let b = submits-le plan.jobs p.limits in
    let c = p.few in
    omega (arith, a, b, c)

-- the bound of a plan is less than 2^49 - 1
pub short-plan : (plan : Plan) → IsPlan plan → bound plan < 2 ^ 49 - 1
short-plan plan p = omega (arith, bound-le plan p)

-- the last submit second of a plan's jobs and the sum of their lengths, added, are its bound
pub bound-is : (plan : Plan) (js : List EffectiveJob) (last total : ℕ) → js ≡ plan.jobs → last ≡ last_submit js → total ≡ sum_by (λ j. j.length) js → last + total ≡ bound plan
bound-is plan js last total e l t =
    let a = ap last_submit e in
    let b = ap (λ (xs : List EffectiveJob). sum_by (λ j. j.length) xs) e in
    omega (arith, a, b, l, t)
