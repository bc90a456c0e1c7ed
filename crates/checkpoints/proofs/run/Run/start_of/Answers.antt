use Rattle.std.proofs.Common.{◌≡◌, ◌∙◌, ap, sym, map, Some, None, rules, arith}
use Rattle.std.specs.Arc.{arc_value}
use Rattle.std.proofs.lemmas.List.Sorted.{IsPartitionPoint-from_clause}
use Rattle.scenarios.specs.Plan.{Plan, plan_of, job_numbered}
use Rattle.scenarios.specs.PlanView.{plan_in}
use Rattle.scenarios.specs.SoundPlan.{IsPlan}
use Rattle.easy_rule.specs.Simulation.{sim, start_of}
use Rattle.checkpoints.specs.Cut.{IsCut, all_starts}
use Rattle.checkpoints.specs.RunView.{RunView}
use Rattle.checkpoints.proofs.Late.{not-started}
use Rattle.checkpoints.proofs.Lookups.{starts-from, begins-by, found-by, parted, rest-is}
use Rattle.checkpoints.proofs.run.Run.start_of.Goals as goal

pub returns-in_err-job : goal.returns-in_err-job
returns-in_err-job g c =
    let plan : Plan = plan_in c.self.inside.plan in
    let p : IsPlan plan = c.view.ensures.sound in
    let none : job_numbered plan.jobs c.args.number ≡ None = sym (rw c.view.ensures.same at c.in_err-job.ensures.job) in
    c.from_residual.ensures ∙ sym (not-started plan c.args.number p none) ∙ ap (λ (r : RunView). start_of (sim (plan_of r.log r.scenario)) c.args.number) c.self.view_is

pub returns : goal.returns
returns g c =
    let plan : Plan = plan_in c.self.inside.plan in
    let p : IsPlan plan = c.view.ensures.sound in
    let job = c.in_ok-job.job in
    let found : job_numbered plan.jobs c.args.number ≡ Some job = sym (rw c.view.ensures.same at c.in_ok-job.ensures.job) in
    let submit = c.submit-submit.ensures.value in
    let cut : IsCut plan (map arc_value c.deref.result.now) = rw c.deref.ensures.value c.self.invariant.0.cut in
    let point = IsPartitionPoint-from_clause (begins-by arc_value c.submit-submit.result) c.deref.result.now c.partition_point-later.result c.partition_point-later.ensures.partitioned (parted arc_value plan c.deref.result.now c.submit-submit.result cut) (λ a r q k. search rules) in
    c.start_in.ensures
    ∙ ap (λ ss. start_of (all_starts (map arc_value ss)) c.args.number) (rest-is c.saturating_sub.result c.as_slice.result.now)
    ∙ ap (λ ss. start_of (starts-from arc_value ss c.saturating_sub.result) c.args.number) (c.as_slice.ensures.value ∙ sym c.deref.ensures.value)
    ∙ found-by arc_value plan c.deref.result.now c.args.number c.partition_point-later.result c.saturating_sub.result c.submit-submit.result job p cut found submit c.partition_point-later.ensures.bound c.saturating_sub.ensures (λ j d l. point.0 j d (omega arith) l)
    ∙ ap (λ (r : RunView). start_of (sim (plan_of r.log r.scenario)) c.args.number) c.self.view_is
