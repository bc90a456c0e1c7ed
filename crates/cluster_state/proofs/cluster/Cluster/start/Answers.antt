use Rattle.std.proofs.Common.{◌≡◌, ◌≤◌, ◌∙◌, sym, Some, arith, ap, subst}
use Rattle.std.specs.Option.{option_map_or}
use Rattle.scenarios.specs.declared.placed.Placed.{Placed}
use Rattle.cluster_state.specs.State.{IsSound, placed, started, waiting_job, free}
use Rattle.cluster_state.specs.Parts.{state_of}
use Rattle.cluster_state.proofs.EndLemmas.{not-running}
use Rattle.cluster_state.proofs.StateLemmas.{sound-found, sum_by-placed}
use Rattle.cluster_state.proofs.cluster.Cluster.start.Given.{Over}
use Rattle.cluster_state.proofs.cluster.Cluster.start.Goals as goal

facts : (g : Over) (c : goal.After-self-1 g) → (waiting_job (state_of c.self.inside) c.args.number ≡ Some c.in-Some.job) × (c.in-Some.job.number ≡ c.args.number) × (c.in-Some.job.size ≤ free (state_of c.self.inside)) × IsSound (started (state_of c.self.inside) c.in-Some.job c.args.now)
facts g c =
    let f = sound-found (state_of c.self.inside) c.in-Some.job c.args.number c.args.now c.self.invariant.sound (sym c.in-Some.ensures) (rw (← c.self.view_is) at c.requires.fits) c.requires.now in
    (sym c.in-Some.ensures, f.0, f.1, f.2)

pub join-requires-clause-absent : goal.join-requires-clause-absent
join-requires-clause-absent g c =
    let s = state_of c.self.inside in
    let f = sound-found s c.in-Some.job c.args.number c.args.now c.self.invariant.sound (sym c.in-Some.ensures) (rw (← c.self.view_is) at c.requires.fits) c.requires.now in
    rw (c.reserve.ensures.running, f.0) (not-running s c.args.number c.in-Some.job c.self.invariant.sound (sym c.in-Some.ensures) f.0)

pub remove-requires : goal.remove-requires
remove-requires g c = omega (arith, c.self.invariant.sound.once c.args.number)

pub invariant_of-self-2 : goal.invariant_of-self-2
invariant_of-self-2 g c =
    let f = facts g c in
    let r : Placed = record { job = c.in-Some.job; start = c.args.now } in
    let held = sum_by-placed (λ (r : Placed). r.job.size) r c.self.inside.running.running in
    let running : c.join.new.self.running ≡ placed r c.self.inside.running.running = c.join.ensures.running ∙ ap (placed r) c.reserve.ensures.running in
    record {
      accounted = rw running (omega (arith, held, f.2, c.self.invariant.accounted, c.size.ensures.value));
      sound = rw (c.remove.ensures.order, c.remove.ensures.jobs, ← f.1, running) f.3;
    }

pub returns-clause-ok : goal.returns-clause-ok
returns-clause-ok g c =
    let f = facts g c in
    let s = state_of c.self.inside in
    let r : Placed = record { job = c.in-Some.job; start = c.args.now } in
    let running : c.join.new.self.running ≡ placed r s.running = c.join.ensures.running ∙ ap (placed r) c.reserve.ensures.running in
    rw (c.remove.ensures.order, c.remove.ensures.jobs, ← f.1, running, ← c.self.view_is)
    (sym (ap (λ o. option_map_or (λ job. started s job c.args.now) o s) (subst (λ m. waiting_job s m ≡ Some c.in-Some.job) (sym f.1) f.0)))
