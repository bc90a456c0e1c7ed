use Rattle.std.proofs.Common.{◌+◌, ◌<◌, IfSome, sym, subst}
use Rattle.scenarios.specs.Plan.{Plan}
use Rattle.scenarios.specs.PlanView.{plan_in}
use Rattle.event_loop.specs.Upcoming.{NextJobs, IsUpcoming, without_first}
use Rattle.event_loop.proofs.ToCome.{non-falling}
use Rattle.event_loop.proofs.Alone.{alone-if}
use Rattle.event_loop.proofs.upcoming.Upcoming.only_at.Goals as goal

pub returns-clause-only : goal.returns-clause-only
returns-clause-only g c =
    let plan : Plan = plan_in c.args.plan.now in
    let t = c.args.second in
    let kept : NextJobs = record { row = c.self.inside.row.items; later = c.self.inside.later } in
    let h : IsUpcoming kept t plan.jobs = subst (λ (n : NextJobs). IsUpcoming n t plan.jobs) (sym c.self.view_is) c.in_ok-take_up.ensures.upcoming in
    let l : IfSome kept.later (λ u. t < u) = subst (λ (n : NextJobs). IfSome n.later (λ u. t < u)) (sym c.self.view_is) c.in_ok-take_up.ensures.later in
    (alone-if kept t plan.jobs c.only_at.result (non-falling plan.jobs c.requires.plan.rising) h l c.only_at.ensures.job c.only_at.ensures.only).only

pub returns-clause-rest : goal.returns-clause-rest
returns-clause-rest g c =
    let plan : Plan = plan_in c.args.plan.now in
    let t = c.args.second in
    let kept : NextJobs = record { row = c.self.inside.row.items; later = c.self.inside.later } in
    let h : IsUpcoming kept t plan.jobs = subst (λ (n : NextJobs). IsUpcoming n t plan.jobs) (sym c.self.view_is) c.in_ok-take_up.ensures.upcoming in
    let l : IfSome kept.later (λ u. t < u) = subst (λ (n : NextJobs). IfSome n.later (λ u. t < u)) (sym c.self.view_is) c.in_ok-take_up.ensures.later in
    subst (λ (n : NextJobs). IfSome c.only_at.result (λ job. IsUpcoming (without_first n) (t + 1) plan.jobs)) c.self.view_is
    (alone-if kept t plan.jobs c.only_at.result (non-falling plan.jobs c.requires.plan.rising) h l c.only_at.ensures.job c.only_at.ensures.only).rest
