use Rattle.std.proofs.Common.{◌≡◌, IfSome, List, Option, subst, sym}
use Rattle.scenarios.specs.Job.{EffectiveJob}
use Rattle.waiting_places.specs.Places.{at_place, waiting}
use Rattle.cluster_state.specs.State.{without}
use Rattle.cluster_state.proofs.PlaceLemmas.{leaves-there, once-there}
use Rattle.cluster_state.proofs.queue.Queue.take_head.Goals as goal

pub leave_at-requires-clause-once : goal.leave_at-requires-clause-once
leave_at-requires-clause-once g c =
    let places = c.self.inside.jobs.places in
    once-there (waiting places) (at_place places c.in-Some.head) (rw (← c.self.view_is) at c.requires)

pub returns-in-Some-clause-jobs : goal.returns-in-Some-clause-jobs
returns-in-Some-clause-jobs g c =
    let places = c.self.inside.jobs.places in
    let once = rw (← c.self.view_is) at c.requires in
    rw (← c.self.view_is)
    (subst (λ (o : Option EffectiveJob). IfSome o (λ (job : EffectiveJob). waiting c.leave_at.new.jobs.places ≡ without job.number (waiting places))) c.in-Some.ensures.item
    (subst (λ (new : List (Option EffectiveJob)). IfSome (at_place places c.in-Some.head) (λ (job : EffectiveJob). waiting new ≡ without job.number (waiting places))) (sym c.leave_at.ensures.places)
    (leaves-there places c.in-Some.head once)))
