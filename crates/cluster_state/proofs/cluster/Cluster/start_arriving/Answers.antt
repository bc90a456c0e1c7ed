use Rattle.std.proofs.Common.{◌≤◌, sym, arith}
use Rattle.cluster_state.specs.State.{free}
use Rattle.cluster_state.specs.Parts.{state_of}
use Rattle.cluster_state.proofs.ArrivingLemmas.{runs-at-once}
use Rattle.cluster_state.proofs.cluster.Cluster.start_arriving.Goals as goal

pub invariant_of-self : goal.invariant_of-self
invariant_of-self g c =
    let s = state_of c.self.inside in
    let fits : c.args.job.size ≤ free s = rw (← c.self.view_is) at c.requires.fits in
    let runs = runs-at-once s c.args.job c.args.now c.self.invariant.sound (rw (← c.self.view_is) at c.requires.absent) fits c.size-taken.ensures.limits c.requires.now in
    record {
      accounted = rw c.join.ensures.running (omega (arith, runs.held, fits, c.self.invariant.accounted, c.size-taken.ensures.value));
      sound = rw c.join.ensures.running runs.sound;
    }

pub returns-clause-state : goal.returns-clause-state
returns-clause-state g c =
    let s = state_of c.self.inside in
    let fits : c.args.job.size ≤ free s = rw (← c.self.view_is) at c.requires.fits in
    let runs = runs-at-once s c.args.job c.args.now c.self.invariant.sound (rw (← c.self.view_is) at c.requires.absent) fits c.size-taken.ensures.limits c.requires.now in
    rw (← c.self.view_is, c.join.ensures.running) (sym runs.state)
