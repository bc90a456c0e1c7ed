use Rattle.std.proofs.Common.{◌≡◌, ◌≤◌, IfSome, Option, Some, slice_get, sym, subst, arith, rules}
use Rattle.scenarios.specs.Job.{EffectiveJob}
use Rattle.cluster_state.specs.State.{free, without}
use Rattle.cluster_state.specs.Parts.{state_of}
use Rattle.cluster_state.proofs.StartLemmas.{head-can-run, once-waiting}
use Rattle.cluster_state.proofs.cluster.Cluster.start_head.Goals as goal

pub join-requires-clause-absent : goal.join-requires-clause-absent
join-requires-clause-absent g c =
    let s = state_of c.self.inside in
    let head : EffectiveJob = c.in_ok-head.field-0.now in
    let first : slice_get s.waiting 0 ≡ Some head = rw (← c.self.view_is) at (sym c.in_ok-head.ensures) in
    let fits : head.size ≤ free s = search rules in
    (head-can-run s head c.args.now c.self.invariant.sound first fits c.requires.now).absent

pub take_head-requires : goal.take_head-requires
take_head-requires g c = once-waiting (state_of c.self.inside) c.self.invariant.sound

pub invariant_of-self : goal.invariant_of-self
invariant_of-self g c =
    let s = state_of c.self.inside in
    let head : EffectiveJob = c.in_ok-head.field-0.now in
    let first : slice_get s.waiting 0 ≡ Some head = rw (← c.self.view_is) at (sym c.in_ok-head.ensures) in
    let fits : head.size ≤ free s = search rules in
    let can = head-can-run s head c.args.now c.self.invariant.sound first fits c.requires.now in
    let taken = subst (λ (o : Option EffectiveJob). IfSome o (λ (job : EffectiveJob). c.take_head.new.self.jobs ≡ without job.number s.waiting)) first c.take_head.ensures.jobs in
    record {
      accounted = rw c.join.ensures.running (omega (arith, can.held, fits, c.self.invariant.accounted, c.size.ensures.value));
      sound = rw (c.take_head.ensures.order, taken, c.join.ensures.running) can.sound;
    }
