use Rattle.std.proofs.Common.{◌≡◌, ◌∙◌, List, IfOk, ap, arith, map, rules, subst}
use Rattle.scenarios.specs.Job.{EffectiveJob}
use Rattle.cluster_state.specs.declared.snapshot.RunningNumber.{RunningNumber}
use Rattle.cluster_state.specs.Snapshot.{Numbers, NumbersRise, numbers_of}
use Rattle.cluster_state.specs.Parts.{state_of}
use Rattle.cluster_state.proofs.SnapshotLemmas.{sound-numbers}
use Rattle.cluster_state.proofs.cluster.Cluster.snapshot.Goals as goal

pub of-requires : goal.of-requires
of-requires g c =
    rw c.in_ok-running.ensures.numbers
    (sound-numbers (state_of c.self.inside) c.self.invariant.sound (subst NumbersRise c.in_ok-running.ensures.numbers c.in_ok-running.ensures.rise))

pub starts_of-requires : goal.starts_of-requires
starts_of-requires g c = λ n. (let o = c.self.invariant.sound.once n in omega (arith, o))

pub returns : goal.returns
returns g c =
    let made : List RunningNumber → Numbers = λ r. record { waiting = map (λ (j : EffectiveJob). j.number) c.self.inside.queue.jobs; running = r } in
    let seen : numbers_of (state_of c.self.inside) ≡ numbers_of c.args.self.now.state = search rules in
    subst (λ (n : Numbers). IfOk c.of.result (λ s. s ≡ n)) (ap made c.in_ok-running.ensures.numbers ∙ seen) c.of.ensures
