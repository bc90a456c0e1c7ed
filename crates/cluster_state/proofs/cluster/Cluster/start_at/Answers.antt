use Rattle.std.proofs.Common.{◌≡◌, ◌≤◌, IfSome, IsSomeAnd, Option, Some, subst, arith, rules}
use Rattle.scenarios.specs.Job.{EffectiveJob}
use Rattle.waiting_places.specs.Places.{at_place}
use Rattle.cluster_state.specs.State.{free, without}
use Rattle.cluster_state.specs.Parts.{state_of}
use Rattle.cluster_state.proofs.StartLemmas.{place-can-run, once-waiting}
use Rattle.cluster_state.proofs.cluster.Cluster.start_at.Goals as goal

pub join-requires-clause-absent : goal.join-requires-clause-absent
join-requires-clause-absent g c =
    let s = state_of c.self.inside in
    let places = c.self.inside.queue.places in
    let job : EffectiveJob = c.in-Some.candidate in
    let at : at_place places c.args.place ≡ Some job = search rules in
    let fits = subst (λ (o : Option EffectiveJob). IsSomeAnd o (λ (j : EffectiveJob). j.size ≤ free s)) at (rw (← c.self.view_is) at c.requires.fits) in
    (place-can-run s places c.args.place job c.args.now c.self.invariant.sound c.get.ensures.candidates at fits c.requires.now).absent

pub take_at-requires-clause-once : goal.take_at-requires-clause-once
take_at-requires-clause-once g c = once-waiting (state_of c.self.inside) c.self.invariant.sound

pub invariant_of-self : goal.invariant_of-self
invariant_of-self g c =
    let s = state_of c.self.inside in
    let places = c.self.inside.queue.places in
    let job : EffectiveJob = c.in-Some.candidate in
    let at : at_place places c.args.place ≡ Some job = search rules in
    let fits = subst (λ (o : Option EffectiveJob). IsSomeAnd o (λ (j : EffectiveJob). j.size ≤ free s)) at (rw (← c.self.view_is) at c.requires.fits) in
    let can = place-can-run s places c.args.place job c.args.now c.self.invariant.sound c.get.ensures.candidates at fits c.requires.now in
    let taken = subst (λ (o : Option EffectiveJob). IfSome o (λ (j : EffectiveJob). c.take_at.new.self.jobs ≡ without j.number s.waiting)) at c.take_at.ensures.jobs in
    record {
      accounted = rw c.join.ensures.running (omega (arith, can.held, fits, c.self.invariant.accounted, c.size.ensures.value));
      sound = rw (c.take_at.ensures.order, taken, c.join.ensures.running) can.sound;
    }
