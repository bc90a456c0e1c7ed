use Rattle.std.proofs.Common.{◌<◌, ◌∙◌, ap, sym, refl, subst, IfSome}
use Rattle.scenarios.specs.Plan.{Plan}
use Rattle.scenarios.specs.PlanView.{plan_in}
use Rattle.easy_rule.specs.Simulation.{joined}
use Rattle.event_loop.specs.Upcoming.{NextJobs, IsUpcoming}
use Rattle.event_loop.proofs.ToCome.{non-falling}
use Rattle.event_loop.proofs.Rows.{row-falling, row-from, row-has, upcoming-after}
use Rattle.event_loop.proofs.upcoming.Upcoming.arrive.Goals as goal

pub arrive_all-requires-clause-order : goal.arrive_all-requires-clause-order
arrive_all-requires-clause-order g c =
    let plan : Plan = plan_in c.args.plan.now in
    let t = c.args.second in
    let kept : NextJobs = record { row = c.self.inside.row.items; later = c.self.inside.later } in
    let h : IsUpcoming kept t plan.jobs = subst (λ (n : NextJobs). IsUpcoming n t plan.jobs) (sym c.self.view_is) c.in_ok-take_up.ensures.upcoming in
    row-falling kept t plan.jobs (non-falling plan.jobs c.requires.plan.rising) h

pub arrive_all-requires-clause-from : goal.arrive_all-requires-clause-from
arrive_all-requires-clause-from g c =
    let plan : Plan = plan_in c.args.plan.now in
    let t = c.args.second in
    let kept : NextJobs = record { row = c.self.inside.row.items; later = c.self.inside.later } in
    let h : IsUpcoming kept t plan.jobs = subst (λ (n : NextJobs). IsUpcoming n t plan.jobs) (sym c.self.view_is) c.in_ok-take_up.ensures.upcoming in
    row-from kept t plan.jobs h

pub arrive_all-requires-clause-sound : goal.arrive_all-requires-clause-sound
arrive_all-requires-clause-sound g c =
    let plan : Plan = plan_in c.args.plan.now in
    let t = c.args.second in
    let kept : NextJobs = record { row = c.self.inside.row.items; later = c.self.inside.later } in
    let h : IsUpcoming kept t plan.jobs = subst (λ (n : NextJobs). IsUpcoming n t plan.jobs) (sym c.self.view_is) c.in_ok-take_up.ensures.upcoming in
    let l : IfSome kept.later (λ u. t < u) = subst (λ (n : NextJobs). IfSome n.later (λ u. t < u)) (sym c.self.view_is) c.in_ok-take_up.ensures.later in
    rw (row-has kept t plan.jobs h l) c.requires.sound

pub returns-clause-state : goal.returns-clause-state
returns-clause-state g c =
    let plan : Plan = plan_in c.args.plan.now in
    let t = c.args.second in
    let kept : NextJobs = record { row = c.self.inside.row.items; later = c.self.inside.later } in
    let h : IsUpcoming kept t plan.jobs = subst (λ (n : NextJobs). IsUpcoming n t plan.jobs) (sym c.self.view_is) c.in_ok-take_up.ensures.upcoming in
    let l : IfSome kept.later (λ u. t < u) = subst (λ (n : NextJobs). IfSome n.later (λ u. t < u)) (sym c.self.view_is) c.in_ok-take_up.ensures.later in
    c.in_ok-arrive_all.ensures.state ∙ ap (joined c.args.cluster.now.state) (row-has kept t plan.jobs h l)

pub returns-clause-upcoming : goal.returns-clause-upcoming
returns-clause-upcoming g c =
    let plan : Plan = plan_in c.args.plan.now in
    let t = c.args.second in
    let kept : NextJobs = record { row = c.self.inside.row.items; later = c.self.inside.later } in
    let h : IsUpcoming kept t plan.jobs = subst (λ (n : NextJobs). IsUpcoming n t plan.jobs) (sym c.self.view_is) c.in_ok-take_up.ensures.upcoming in
    let l : IfSome kept.later (λ u. t < u) = subst (λ (n : NextJobs). IfSome n.later (λ u. t < u)) (sym c.self.view_is) c.in_ok-take_up.ensures.later in
    upcoming-after kept _ t plan.jobs h l c.in_ok-arrive_all.ensures.row refl
