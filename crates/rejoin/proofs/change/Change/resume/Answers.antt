use Rattle.std.proofs.Common.{rules, ◌≡◌, ◌+◌, drop}
use Rattle.std.specs.Arc.{arc_value}
use Rattle.scenarios.specs.PlanView.{plan_in}
use Rattle.rejoin.proofs.Deciding.{resumed-from}
use Rattle.rejoin.proofs.change.Change.resume.Goals as goal

pub resume-requires : goal.resume-requires
resume-requires g c =
    let change = c.args.self.now in
    let seg = arc_value c.segment-old.result.now in
    let first : c.first.result ≡ seg.first = search rules in
    let was : c.before-2.result.now ≡ seg.before = search rules in
    let plan : change.is ≡ plan_in c.in_ok-plan.plan = search rules in
    resumed-from change.is (plan_in c.in_ok-plan.plan) seg c.before-2.result.now c.first.result (c.requires.snapshot seg (drop (c.args.at + 1) change.old) c.segment-old.ensures.here) was first plan
