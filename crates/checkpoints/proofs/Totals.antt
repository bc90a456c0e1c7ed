-- The sums and the tables of a plan, from the segments of its simulation.
use Rattle.std.proofs.Common.{◌≡◌, List, [], ◌∷◌, length, All, refl, ap, arith, subst}
use Rattle.swf_text.specs.Entry.{LogEntry}
use Rattle.scenarios.specs.Scenario.{ScenarioView}
use Rattle.scenarios.specs.Plan.{Plan, plan_of}
use Rattle.scenarios.specs.SoundPlan.{IsPlan}
use Rattle.scenarios.specs.declared.skip.Skip.{Skip}
use Rattle.scenarios.specs.Skips.{reasons_of, skips_among, skips_of}
use Rattle.easy_rule.specs.Simulation.{sim}
use Rattle.metrics.specs.Part.{PartSums, IsPartOf}
use Rattle.checkpoints.specs.Segment.{SegmentView}
use Rattle.checkpoints.specs.Cut.{IsCut, placed_of}
use Rattle.checkpoints.specs.Nodes.{parts_of}
use Rattle.checkpoints.specs.Merged.{IsMerged, AreFew}
use Rattle.checkpoints.specs.Sums.{HasOwnPart, all_placed}
use Rattle.checkpoints.proofs.Chains.{chain-part, cut-outcome}
use Rattle.checkpoints.proofs.Counting.{jobs-or-skips}
use Rattle.checkpoints.proofs.Late.{placed-fewer, sim-few, sim-fewer}
use Rattle.checkpoints.proofs.Merging.{count-is, own-few, own-merged}

parts-are : (plan : Plan) (ss : List SegmentView) → IsCut plan ss → All (HasOwnPart plan.jobs) ss
parts-are plan ss (e, chain, over) i d l = chain-part plan i 0 e ss d chain l

-- the parts of a cut's segments are over few jobs
pub cut-few : (plan : Plan) (ss : List SegmentView) → IsPlan plan → IsCut plan ss → AreFew (parts_of ss)
cut-few plan ss p cut =
    let e = ap (λ xs. length (placed_of plan.jobs xs)) (cut-outcome plan ss p cut) in
    let a = placed-fewer plan.jobs (sim plan) in
    let b = sim-few plan p in
    own-few plan.jobs ss (parts-are plan ss cut) (omega (arith, e, a, b))

-- the merged part of a cut's segments is that of all jobs of the plan, each at its start
pub total-is : (plan : Plan) (ss : List SegmentView) (v : PartSums) → IsPlan plan → IsCut plan ss → IsMerged (parts_of ss) v → IsPartOf (all_placed plan) v
total-is plan ss v p cut m = subst (λ xs. IsPartOf (placed_of plan.jobs xs) v) (cut-outcome plan ss p cut) (own-merged plan.jobs ss v (parts-are plan ss cut) m)

none-left : (log : List LogEntry) (s : ScenarioView) → length (reasons_of log s) ≡ 0 → skips_of log s ≡ skips_among []
none-left log s e = ap skips_among (go (reasons_of log s) e) where
  go : (rs : List Skip) → length rs ≡ 0 → rs ≡ []
  go [] e = refl
  go (r ∷ rs) e = absurd (omega (arith, e))

-- where as many jobs start as there are entries, none is skipped
pub none-skipped : (log : List LogEntry) (s : ScenarioView) (v : PartSums) → IsPlan (plan_of log s) → IsPartOf (all_placed (plan_of log s)) v → v.totals.count ≡ length log → skips_of log s ≡ skips_among []
none-skipped log s v p h e =
    let plan = plan_of log s in
    let a = count-is (all_placed plan) v h in
    let b = placed-fewer plan.jobs (sim plan) in
    let c = sim-fewer plan p in
    let d = jobs-or-skips s log in
    none-left log s (omega (arith, a, b, c, d, e))
