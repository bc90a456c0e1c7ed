use Rattle.std.proofs.Common.{nat_eq}
use Rattle.scenarios.specs.Job.{EffectiveJob}
use Rattle.waiting_places.specs.Offers.{holds}
use Rattle.waiting_places.specs.Places.{NonePasses}
use Rattle.cluster_state.proofs.queue.place_numbered.Given as goal

abbrev pub invariant-loop-place : goal.invariant-loop-place
invariant-loop-place l = NonePasses (holds (λ (j : EffectiveJob). nat_eq j.number l.number)) l.places 0 l.place
