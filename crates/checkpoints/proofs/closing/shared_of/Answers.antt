use Rattle.std.proofs.Common.{List, [], ◌∷◌, ◌++◌, ◌∙◌, map, sym, ap, subst}
use Rattle.std.specs.Arc.{arc_value}
use Rattle.std.specs.List.{flat_map}
use Rattle.std.specs.List.Sorted.{IsNonDecreasing}
use Rattle.scenarios.specs.Plan.{Plan}
use Rattle.scenarios.specs.PlanView.{plan_in}
use Rattle.checkpoints.specs.Segment.{SegmentView}
use Rattle.checkpoints.specs.Closing.{GapView, base_of, last_of, numbers_at}
use Rattle.checkpoints.proofs.Stood.{behind-rise, stands-behind}
use Rattle.checkpoints.proofs.closing.shared_of.Goals as goal

pub of-requires-clause-rising : goal.of-requires-clause-rising
of-requires-clause-rising g c =
    let plan : Plan = plan_in c.args.plan.now in
    subst IsNonDecreasing (sym (c.in_ok-seconds.ensures ∙ ap (λ t. map (λ p. p.first) c.args.pieces.now ++ t ∷ []) c.first.ensures))
    (behind-rise plan (map arc_value c.args.done.now) c.args.pieces.now c.args.last.now c.requires.chain.0 c.requires.chain.1)

pub returns : goal.returns
returns g c = λ place t e.
    let plan : Plan = plan_in c.args.plan.now in
    let ss : List SegmentView = map arc_value c.args.done.now in
    let gap : GapView = c.in_ok-gap.gap in
    let seconds = ap (λ (v : GapView). v.seconds) c.in_ok-gap.ensures ∙ c.in_ok-seconds.ensures ∙ ap (λ u. map (λ p. p.first) c.args.pieces.now ++ u ∷ []) c.first.ensures in
    let starts = ap (λ (v : GapView). v.starts) c.in_ok-gap.ensures ∙ c.in_ok-starts.ensures ∙ ap (λ o. (base_of o).starts ++ flat_map (λ p. p.starts) c.args.pieces.now) c.last_of-base.ensures in
    c.in_ok-shared.ensures place
    ∙ ap (λ o. numbers_at plan (base_of o) gap c.first-2.result place) c.last_of-base.ensures
    ∙ ap (λ u. numbers_at plan (base_of (last_of ss)) gap u place) c.first-2.ensures
    ∙ stands-behind plan ss c.args.pieces.now c.args.last.now c.requires.chain.0 c.scenario.ensures.sound c.states_stand_in_a_stretch.ensures.waiting c.states_stand_in_a_stretch.ensures.running c.requires.chain.1 gap seconds starts place t e
