use Rattle.std.proofs.Common.{◌∙◌, sym, ap, map, length}
use Rattle.std.specs.Arc.{arc_value}
use Rattle.scenarios.specs.Job.{EffectiveJob}
use Rattle.scenarios.specs.Plan.{plan_of, jobs_of}
use Rattle.scenarios.specs.PlanView.{PlanView, plan_in}
use Rattle.checkpoints.specs.Schedule.{rows_of}
use Rattle.checkpoints.specs.RunView.{RunView}
use Rattle.checkpoints.specs.declared.row.Row.{Row}
use Rattle.checkpoints.proofs.Answered.{outcome-cut, outcome-early, outcome-rows, outcome-numbers, outcome-count}
use Rattle.checkpoints.proofs.run.Run.rows.Goals as goal

pub new-requires-clause-count : goal.new-requires-clause-count
new-requires-clause-count g c =
    let jobs = c.jobs.ensures.jobs ∙ ap (λ (v : PlanView). (plan_in v).jobs) c.view-plan.ensures.same in
    let few = ap (λ (r : RunView). length (jobs_of r.log r.scenario)) c.self.view_is in
    c.job_count.ensures ∙ sym few ∙ sym (outcome-count (plan_in c.self.inside.plan) _ c.view-plan.ensures.sound (outcome-cut (plan_in c.self.inside.plan) _ _ _ c.view-plan.ensures.sound c.self.invariant.0.cut (ap (map arc_value) c.as_slice.ensures.value) c.in_ok-starts.ensures) _ jobs)

pub new-requires-clause-early : goal.new-requires-clause-early
new-requires-clause-early g c = outcome-early (plan_in c.self.inside.plan) _ c.view-plan.ensures.sound (outcome-cut (plan_in c.self.inside.plan) _ _ _ c.view-plan.ensures.sound c.self.invariant.0.cut (ap (map arc_value) c.as_slice.ensures.value) c.in_ok-starts.ensures)

pub returns-clause-rows : goal.returns-clause-rows
returns-clause-rows g c =
    let jobs = c.jobs.ensures.jobs ∙ ap (λ (v : PlanView). (plan_in v).jobs) c.view-plan.ensures.same in
    c.new.ensures ∙ outcome-rows (plan_in c.self.inside.plan) _ c.view-plan.ensures.sound (outcome-cut (plan_in c.self.inside.plan) _ _ _ c.view-plan.ensures.sound c.self.invariant.0.cut (ap (map arc_value) c.as_slice.ensures.value) c.in_ok-starts.ensures) _ jobs
    ∙ ap (λ (r : RunView). rows_of (plan_of r.log r.scenario)) c.self.view_is

pub returns-clause-each : goal.returns-clause-each
returns-clause-each g c =
    let jobs = c.jobs.ensures.jobs ∙ ap (λ (v : PlanView). (plan_in v).jobs) c.view-plan.ensures.same in
    ap (map (λ (r : Row). r.number)) c.new.ensures ∙ outcome-numbers (plan_in c.self.inside.plan) _ c.view-plan.ensures.sound (outcome-cut (plan_in c.self.inside.plan) _ _ _ c.view-plan.ensures.sound c.self.invariant.0.cut (ap (map arc_value) c.as_slice.ensures.value) c.in_ok-starts.ensures) _ jobs
    ∙ ap (λ (r : RunView). map (λ (j : EffectiveJob). j.number) (jobs_of r.log r.scenario)) c.self.view_is

pub returns-clause-count : goal.returns-clause-count
returns-clause-count g c =
    let jobs = c.jobs.ensures.jobs ∙ ap (λ (v : PlanView). (plan_in v).jobs) c.view-plan.ensures.same in
    ap length c.new.ensures ∙ outcome-count (plan_in c.self.inside.plan) _ c.view-plan.ensures.sound (outcome-cut (plan_in c.self.inside.plan) _ _ _ c.view-plan.ensures.sound c.self.invariant.0.cut (ap (map arc_value) c.as_slice.ensures.value) c.in_ok-starts.ensures) _ jobs
    ∙ ap (λ (r : RunView). length (jobs_of r.log r.scenario)) c.self.view_is
