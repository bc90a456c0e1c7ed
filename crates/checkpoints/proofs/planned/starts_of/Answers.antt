use Rattle.std.proofs.Common.{◌∙◌, ap, List, map, arith}
use Rattle.std.specs.Option.{option_or}
use Rattle.scenarios.specs.Job.{EffectiveJob}
use Rattle.scenarios.specs.PlanView.{plan_in}
use Rattle.easy_rule.specs.Pass.{start_at}
use Rattle.easy_rule.specs.Simulation.{start_of}
use Rattle.checkpoints.specs.Starts.{known_start}
use Rattle.checkpoints.proofs.Noted.{noted-first, noted-step, noted-nearer, noted-all, noted-count}
use Rattle.checkpoints.proofs.planned.starts_of.Goals as goal

pub events-init : goal.events-init
events-init g c =
    noted-first (plan_in c.args.plan.now) (plan_in c.in_ok-copy.field-0) c.new-engine.result c.in_ok-noting.noting c.new-engine.ensures (ap plan_in c.in_ok-copy.ensures)
    c.in_ok-noting.ensures

pub events-smaller : goal.events-smaller
events-smaller g c =
    let some = rw c.in-Some.is at c.in_ok-second.ensures.some in
    noted-nearer (plan_in c.args.plan.now) c.events.engine c.work_next.new.engine c.events.noting c.events.count c.in-Some.second c.events.invariant c.work_next.ensures.plan some.0 some.1

pub events-preserved : goal.events-preserved
events-preserved g c =
    let some = rw c.in-Some.is at c.in_ok-second.ensures.some in
    let started = rw c.in-Some.is at c.in_ok-second.ensures.started in
    noted-step (plan_in c.args.plan.now) c.events.engine c.work_next.new.engine c.events.noting c.note_jobs.new.self c.events.count c.saturating_add-count.result c.work_next.new.started.items c.in-Some.second c.events.invariant
    some.0 some.1 started
    (λ n. c.in_ok-note_jobs.ensures n ∙ ap (λ (js : List EffectiveJob). option_or (known_start c.events.noting n) (start_of (map (start_at c.in-Some.second) js) n)) c.as_slice.ensures.value)
    (omega (arith, c.saturating_add-count.ensures))

pub returns-clause-starts : goal.returns-clause-starts
returns-clause-starts g c = λ n.
    let none = rw c.in_default.is at c.in_ok-second.ensures.none in
    c.in_ok-starts.ensures n ∙ noted-all (plan_in c.args.plan.now) c.events.engine c.events.noting c.events.count c.work_next.ensures.plan none.0 c.events.invariant n

pub returns-clause-count : goal.returns-clause-count
returns-clause-count g c =
    let none = rw c.in_default.is at c.in_ok-second.ensures.none in
    noted-count (plan_in c.args.plan.now) c.events.engine c.events.noting c.events.count c.work_next.ensures.plan none.0 c.events.invariant
