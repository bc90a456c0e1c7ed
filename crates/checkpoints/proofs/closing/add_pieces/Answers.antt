use Rattle.std.proofs.Common.{◌≡◌, ◌++◌, [], ◌∷◌, ◌∙◌, List, length, map, ap, sym, arith, append_assoc}
use Rattle.std.specs.Arc.{arc_value}
use Rattle.std.specs.Vec.Iter.{into_iter_items}
use Rattle.std.proofs.lemmas.List.{length-append}
use Rattle.checkpoints.specs.Segment.{SegmentView}
use Rattle.checkpoints.specs.Pieces.{PieceView}
use Rattle.checkpoints.specs.Closing.{segments_at}
use Rattle.checkpoints.proofs.Stood.{segments-more}
use Rattle.checkpoints.proofs.closing.add_pieces.Goals as goal

pub loop-piece-preserved : goal.loop-piece-preserved
loop-piece-preserved g c =
    let at = c.loop-piece in
    let x : PieceView = c.in-Some.piece in
    let steps : into_iter_items at.piece-iterator ≡ x ∷ into_iter_items c.next.new.self = c.in-Some.ensures.steps.0 in
    let was : List SegmentView = map arc_value c.args.done.now.items in
    record {
      left = append_assoc at.yielded (x ∷ []) (into_iter_items c.next.new.self) ∙ ap (λ l. at.yielded ++ l) (sym steps) ∙ at.invariant.left;
      counted = (let before = at.invariant.counted in
          let gone = c.in-Some.ensures.steps.1 in
          let short = ap length steps in
          omega (arith, before, gone, short));
      at = (let before = at.invariant.at in
          omega (arith, before, length-append at.yielded (x ∷ [])));
      made = c.in_ok-add_piece.ensures ∙ ap (λ l. l ++ segments_at at.place c.args.shared.now (x ∷ [])) at.invariant.made
          ∙ append_assoc was (segments_at 0 c.args.shared.now at.yielded) (segments_at at.place c.args.shared.now (x ∷ []))
          ∙ ap (λ l. was ++ l) (sym (segments-more c.args.shared.now 0 at.place at.yielded x (let before = at.invariant.at in omega (arith, before))));
    }
