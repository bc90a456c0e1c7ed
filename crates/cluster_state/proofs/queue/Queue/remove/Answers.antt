use Rattle.std.proofs.Common.{ap, ◌∙◌}
use Rattle.waiting_places.specs.Places.{waiting}
use Rattle.cluster_state.specs.Capacities.{QueueView}
use Rattle.cluster_state.specs.State.{without}
use Rattle.cluster_state.proofs.PlaceLemmas.{leaves-numbered, once-numbered, without-nobody}
use Rattle.cluster_state.proofs.queue.Queue.remove.Goals as goal

pub leave_at-requires-clause-once : goal.leave_at-requires-clause-once
leave_at-requires-clause-once g c =
    let found = rw c.as_slice.ensures at c.in-Some.ensures in
    once-numbered c.self.inside.jobs.places c.in-Some.place c.args.number (rw (← c.self.view_is) at c.requires) found.2

pub returns-in-Some-clause-jobs : goal.returns-in-Some-clause-jobs
returns-in-Some-clause-jobs g c =
    let found = rw c.as_slice.ensures at c.in-Some.ensures in
    ap waiting c.leave_at.ensures.places ∙ leaves-numbered c.self.inside.jobs.places c.in-Some.place c.args.number (rw (← c.self.view_is) at c.requires) found.2 ∙ ap (λ (v : QueueView). without c.args.number v.jobs) c.self.view_is

pub returns-in_default-clause-jobs : goal.returns-in_default-clause-jobs
returns-in_default-clause-jobs g c =
    let none = rw c.as_slice.ensures at c.in_default.ensures in
    rw (← c.self.view_is) (without-nobody c.args.number c.self.inside.jobs.places none)
