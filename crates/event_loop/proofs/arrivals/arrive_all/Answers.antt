use Rattle.std.proofs.Common.{◌≡◌, ap, arith, List, [], ◌∷◌, drop, Option, Some, slice_get}
use Rattle.scenarios.specs.Job.{EffectiveJob}
use Rattle.event_loop.proofs.ToCome.{can-arrive, arriving-done}
use Rattle.event_loop.proofs.arrivals.arrive_all.Goals as goal

first-of : (js : List EffectiveJob) (job : EffectiveJob) → slice_get js 0 ≡ Some job → js ≡ job ∷ drop 1 js
first-of [] job e = cc
first-of (j ∷ js) job e = ap (λ (k : EffectiveJob). k ∷ js) (same j job e)
  where
    same : (a b : EffectiveJob) → ◌≡◌ {A = Option EffectiveJob} (Some a) (Some b) → a ≡ b
    same a b e = cc

pub arrive-requires-clause-absent : goal.arrive-requires-clause-absent
arrive-requires-clause-absent g c =
    let here = c.in-Some.ensures.some.0 in
    (can-arrive c.args.cluster.now.state c.jobs.cluster.state c.args.second c.args.row.now.items c.jobs.row.items (drop 1 c.jobs.row.items) c.in-Some.job c.jobs.invariant.arriving
    (first-of c.jobs.row.items c.in-Some.job c.in-Some.ensures.some.1) (omega (arith, here)) c.requires.sound).0

pub arrive-requires-clause-fits : goal.arrive-requires-clause-fits
arrive-requires-clause-fits g c =
    let here = c.in-Some.ensures.some.0 in
    (can-arrive c.args.cluster.now.state c.jobs.cluster.state c.args.second c.args.row.now.items c.jobs.row.items (drop 1 c.jobs.row.items) c.in-Some.job c.jobs.invariant.arriving
    (first-of c.jobs.row.items c.in-Some.job c.in-Some.ensures.some.1) (omega (arith, here)) c.requires.sound).1

pub returns-clause-state : goal.returns-clause-state
returns-clause-state g c =
    (arriving-done c.args.cluster.now.state c.jobs.cluster.state c.args.second c.args.row.now.items c.jobs.row.items c.jobs.invariant.arriving c.in_default.ensures.none).0

pub returns-clause-row : goal.returns-clause-row
returns-clause-row g c =
    (arriving-done c.args.cluster.now.state c.jobs.cluster.state c.args.second c.args.row.now.items c.jobs.row.items c.jobs.invariant.arriving c.in_default.ensures.none).1
