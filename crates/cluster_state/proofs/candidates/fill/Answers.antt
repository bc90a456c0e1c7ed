use Rattle.std.proofs.Common.{None, Some, ap, refl, sym}
use Rattle.blocks.specs.Rows.{flat}
use Rattle.scenarios.specs.Job.{EffectiveJob}
use Rattle.cluster_state.proofs.EstimateLemmas.{filling-none, filling-one}
use Rattle.cluster_state.proofs.candidates.fill.Goals as goal

pub loop-place-preserved-in_default : goal.loop-place-preserved-in_default
loop-place-preserved-in_default g c = filling-none c.args.places.now c.loop-place.place None _ c.loop-place-test.true c.in_default.is c.loop-place.candidates.spare (flat c.loop-place.candidates.blocks) refl c.loop-place.invariant

pub loop-place-preserved : goal.loop-place-preserved
loop-place-preserved g c =
    filling-one c.args.places.now c.loop-place.place (Some c.in-Some.waiter) _ c.loop-place-test.true c.in-Some.is c.loop-place.candidates.spare c.insert.new.self.spare (record { job = c.waiter.inside.job; place = c.loop-place.place })
    (flat c.loop-place.candidates.blocks) (flat c.insert.new.self.blocks) (ap (λ (j : EffectiveJob). Some j) (sym c.waiter.view_is)) refl c.loop-place.invariant c.insert.ensures.items c.insert.ensures.spare
