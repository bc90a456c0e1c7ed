use Rattle.std.proofs.Common.{◌∙◌, ap, map, length, arith}
use Rattle.scenarios.specs.Plan.{Plan}
use Rattle.scenarios.specs.PlanView.{PlanView, plan_in}
use Rattle.checkpoints.specs.declared.row.Row.{Row}
use Rattle.checkpoints.proofs.Late.{sim-counted}
use Rattle.checkpoints.proofs.Answered.{outcome-early, outcome-rows, outcome-numbers, outcome-count}
use Rattle.checkpoints.proofs.planned.plan_rows.Goals as goal

pub new-requires-clause-count : goal.new-requires-clause-count
new-requires-clause-count g c =
    let plan : Plan = plan_in c.args.plan.now in
    let jobs = c.jobs.ensures.jobs ∙ ap (λ (v : PlanView). (plan_in v).jobs) c.view.ensures.same in
    let rows = outcome-count plan _ c.view.ensures.sound c.in_ok-starts.ensures.starts _ jobs in
    omega (arith, c.in_ok-starts.ensures.count, sim-counted plan c.view.ensures.sound, rows)

pub new-requires-clause-early : goal.new-requires-clause-early
new-requires-clause-early g c = outcome-early (plan_in c.args.plan.now) _ c.view.ensures.sound c.in_ok-starts.ensures.starts

pub returns-clause-rows : goal.returns-clause-rows
returns-clause-rows g c =
    let plan : Plan = plan_in c.args.plan.now in
    let jobs = c.jobs.ensures.jobs ∙ ap (λ (v : PlanView). (plan_in v).jobs) c.view.ensures.same in
    c.new.ensures ∙ outcome-rows plan _ c.view.ensures.sound c.in_ok-starts.ensures.starts _ jobs

pub returns-clause-each : goal.returns-clause-each
returns-clause-each g c =
    let plan : Plan = plan_in c.args.plan.now in
    let jobs = c.jobs.ensures.jobs ∙ ap (λ (v : PlanView). (plan_in v).jobs) c.view.ensures.same in
    ap (map (λ (r : Row). r.number)) c.new.ensures ∙ outcome-numbers plan _ c.view.ensures.sound c.in_ok-starts.ensures.starts _ jobs

pub returns-clause-count : goal.returns-clause-count
returns-clause-count g c =
    let plan : Plan = plan_in c.args.plan.now in
    let jobs = c.jobs.ensures.jobs ∙ ap (λ (v : PlanView). (plan_in v).jobs) c.view.ensures.same in
    ap length c.new.ensures ∙ outcome-count plan _ c.view.ensures.sound c.in_ok-starts.ensures.starts _ jobs
