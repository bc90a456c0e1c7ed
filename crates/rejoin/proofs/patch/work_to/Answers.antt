use Rattle.std.proofs.Common.{◌≡◌, ◌∷◌, ◌++◌, [], false, subst, sym, List}
use Rattle.checkpoints.specs.Pieces.{all_in, segment_of}
use Rattle.checkpoints.specs.Segment.{SegmentView}
use Rattle.checkpoints.specs.Worked.{WorksUpTo}
use Rattle.rejoin.specs.Rejoining.{Stands}
use Rattle.rejoin.proofs.Meeting.{stands-spans}
use Rattle.rejoin.proofs.Pieces.{piece-spans, piece-follows, piece-noted, piece-added}
use Rattle.rejoin.proofs.Placed.{from-worked}
use Rattle.rejoin.proofs.Turns.{stands-worked, work-down}
use Rattle.rejoin.proofs.patch.work_to.Goals as goal

pub segments-preserved : goal.segments-preserved
segments-preserved g c =
    let change = c.args.change.now in
    let now = c.segments.patch.engine in
    let new = c.next_piece.new.engine in
    let piece = c.in_ok-piece.piece in
    let s = segment_of change.is piece in
    let p = c.segments.patch in
    let w = c.segments.invariant in
    let before' : List SegmentView = all_in change.is p.segments in
    let spans = piece-spans change c.args.spacing c.args.at now before' p.handled p.reused w.stands piece new.position c.in_ok-piece.ensures.spans in
    let added : all_in change.is c.add.new.self ≡ before' ++ s ∷ [] = piece-added _ change.is p.segments c.add.new.self piece c.plan.ensures.plan c.in_ok-add.ensures in
    let events = subst (λ o. WorksUpTo now new c.args.spacing o) c.first-end.ensures.first c.in_ok-piece.ensures.events in
    record {
      working = w.working;
      stands = subst (λ (ss : List SegmentView). Stands change c.args.spacing c.args.at false new ss p.handled p.reused) (sym added)
          (stands-worked change c.args.spacing c.args.at now new before' s piece.starts p.handled p.reused w.stands c.in_ok-piece.ensures.run spans events);
      noted = c.in_ok-note_worked.ensures.noted now.position new.position (stands-spans change c.args.spacing c.args.at now before' p.handled p.reused w.stands s now.position new.position spans) w.noted;
      places = from-worked change.old before' _ p.places.items _ s w.places added c.in_ok-push.ensures.items;
    }

pub segments-smaller : goal.segments-smaller
segments-smaller g c =
    let change = c.args.change.now in
    let now = c.segments.patch.engine in
    let p = c.segments.patch in
    let piece = c.in_ok-piece.piece in
    let spans = piece-spans change c.args.spacing c.args.at now (all_in change.is p.segments) p.handled p.reused c.segments.invariant.stands piece c.next_piece.new.engine.position c.in_ok-piece.ensures.spans in
    work-down change c.first-end.ensures.sound c.args.spacing c.args.at now c.next_piece.new.engine (all_in change.is p.segments) (segment_of change.is piece) p.handled p.reused c.segments.invariant.stands spans

pub add-requires-clause-chain : goal.add-requires-clause-chain
add-requires-clause-chain g c =
    let change = c.args.change.now in
    let p = c.segments.patch in
    piece-follows change c.args.spacing c.args.at p.engine p.segments p.handled p.reused c.segments.invariant.stands c.in_ok-piece.piece c.next_piece.new.engine.position c.in_ok-piece.ensures.spans _ c.plan.ensures.plan

pub add-requires-clause-noted : goal.add-requires-clause-noted
add-requires-clause-noted g c =
    let change = c.args.change.now in
    let p = c.segments.patch in
    piece-noted change c.args.spacing c.args.at p.engine (all_in change.is p.segments) p.handled p.reused c.segments.invariant.stands c.in_ok-piece.piece c.in_ok-piece.ensures.noted _ c.plan.ensures.plan
