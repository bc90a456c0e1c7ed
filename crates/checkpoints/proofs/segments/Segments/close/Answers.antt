use Rattle.std.proofs.Common.{◌≡◌, ℕ, ◌++◌, ◌∙◌, map, sym, ap, subst, Some}
use Rattle.std.specs.Prelude.{slice_get}
use Rattle.std.specs.Arc.{arc_value}
use Rattle.scenarios.specs.Plan.{Plan}
use Rattle.scenarios.specs.PlanView.{plan_in}
use Rattle.cluster_state.specs.Snapshot.{numbers_of}
use Rattle.easy_rule.specs.Simulation.{before}
use Rattle.checkpoints.specs.Cut.{Chain}
use Rattle.checkpoints.specs.Pieces.{PieceView, SegmentsView, all_in, segment_of}
use Rattle.checkpoints.specs.Closing.{numbers_in}
use Rattle.checkpoints.proofs.Stood.{there-in, segments-are, snapshots-there}
use Rattle.checkpoints.proofs.segments.Segments.close.Goals as goal

pub shared_of-requires-clause-chain : goal.shared_of-requires-clause-chain
shared_of-requires-clause-chain g c =
    let plan : Plan = plan_in c.args.plan.now in
    let m = c.requires.0 in
    let pieces = sym c.deref.ensures.value ∙ c.in-Some.ensures.cases.0 in
    let here : Chain plan 0 (map arc_value c.self.inside.done.items ++ map (segment_of plan) c.self.inside.pieces.items) m = subst (λ (s : SegmentsView). Chain plan 0 (all_in plan s) m) (sym c.self.view_is) c.requires.1 in (
      m,
      rw (c.as_slice.ensures.value, ← pieces) here,
    )

pub add_pieces-requires-clause-snapshots : goal.add_pieces-requires-clause-snapshots
add_pieces-requires-clause-snapshots g c = λ place l.
    let plan : Plan = plan_in c.args.plan.now in
    let pieces = sym c.in-Some.ensures.cases.0 ∙ c.deref.ensures.value ∙ sym (ap (λ v. v.items) c.replace-pieces.ensures.value) in
    snapshots-there plan c.in_ok-shared.shared c.replace-pieces.result.items place c.scenario.ensures.sound c.states_stand_in_a_stretch.ensures.running
    (there-in plan c.in_ok-shared.shared c.replace-pieces.result.items (subst (λ ps. (i t : ℕ) → slice_get (map (λ (p : PieceView). p.first) ps) i ≡ Some t → numbers_in i c.in_ok-shared.shared ≡ numbers_of (before plan t)) pieces c.in_ok-shared.ensures)) l

pub returns-clause-done : goal.returns-clause-done
returns-clause-done g c =
    let plan : Plan = plan_in c.args.plan.now in
    let pieces = sym c.in-Some.ensures.cases.0 ∙ c.deref.ensures.value ∙ sym (ap (λ v. v.items) c.replace-pieces.ensures.value) in
    c.in_ok-add_pieces.ensures
    ∙ ap (λ l. map arc_value c.self.inside.done.items ++ l) (segments-are plan c.in_ok-shared.shared 0 c.replace-pieces.result.items
    (there-in plan c.in_ok-shared.shared c.replace-pieces.result.items (subst (λ ps. (i t : ℕ) → slice_get (map (λ (p : PieceView). p.first) ps) i ≡ Some t → numbers_in i c.in_ok-shared.shared ≡ numbers_of (before plan t)) pieces c.in_ok-shared.ensures)))
    ∙ ap (λ ps. map arc_value c.self.inside.done.items ++ map (segment_of plan) ps) (ap (λ v. v.items) c.replace-pieces.ensures.value)
    ∙ ap (λ (s : SegmentsView). all_in plan s) c.self.view_is
