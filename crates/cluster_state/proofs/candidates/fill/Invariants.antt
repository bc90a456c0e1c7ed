use Rattle.blocks.specs.Rows.{flat}
use Rattle.cluster_state.proofs.EstimateLemmas.{IsFilling}
use Rattle.cluster_state.proofs.candidates.fill.Given as goal

abbrev pub invariant-loop-place : goal.invariant-loop-place
invariant-loop-place g l = IsFilling l.places l.place l.candidates.spare (flat l.candidates.blocks)
