-- The new segments, as some of them are still pieces: in the engine's plan, in the new plan, and in that plan as it is lent.
use Rattle.std.proofs.Common.{◌≡◌, ℕ, ◌+◌, Bool, true, false, List, [], ◌∷◌, ◌++◌, Option, IfOk, sym, ◌∙◌, subst}
use Rattle.std.specs.Prelude.{Result, Ok, Err}
use Rattle.scenarios.specs.Plan.{Plan}
use Rattle.event_loop.specs.Events.{Progress}
use Rattle.checkpoints.specs.Segment.{SegmentView}
use Rattle.checkpoints.specs.Cut.{Spans, Chain}
use Rattle.checkpoints.specs.Pieces.{PieceView, SegmentsView, IsNotedIn, all_in, segment_of}
use Rattle.rejoin.specs.Patch.{IsRejoined}
use Rattle.rejoin.specs.Rejoining.{ChangeView, Stands}
use Rattle.rejoin.proofs.Patching.{patched-chain}

-- the new segments are one after another, wherever the re-simulation stands
pub stands-chain : (c : ChangeView) (n at : ℕ) (kept : Bool) (engine : Progress) (ss : List SegmentView) (handled reused : ℕ) → Stands c n at kept engine ss handled reused → (b : ℕ) × Chain c.is 0 ss b
stands-chain c n at true engine ss handled reused (us, count, (b, after)) = (b, patched-chain c.is c.old n 0 b ss us handled after.patched)
stands-chain c n at false engine ss handled reused (us, count, going, plan, on) = (engine.position, patched-chain c.is c.old n 0 engine.position ss us (handled + engine.handled) on.patched)

-- the new segments of a re-simulation that is done are one after another
pub rejoined-chain : (p q : Plan) (old : List SegmentView) (n : ℕ) (ss : List SegmentView) (handled reused : ℕ) → IsRejoined p q old n ss handled reused → (b : ℕ) × Chain q 0 ss b
rejoined-chain p q old n ss handled reused done = (done.patched.0, patched-chain q old n 0 done.patched.0 ss done.taken handled done.patched.1)

-- segments and pieces that are one after another in a plan are so in an equal plan
pub chain-in : (p q : Plan) (v : SegmentsView) → p ≡ q → (b : ℕ) × Chain q 0 (all_in q v) b → (b : ℕ) × Chain p 0 (all_in p v) b
chain-in p q v e chain = subst (λ (r : Plan). (b : ℕ) × Chain r 0 (all_in r v) b) (sym e) chain

-- where an engine is at work, a piece that spans some seconds in its plan still does with the snapshot of the new plan's state
pub piece-spans : (c : ChangeView) (n at : ℕ) (now : Progress) (ss : List SegmentView) (handled reused : ℕ) → Stands c n at false now ss handled reused → (p : PieceView) (b : ℕ) → Spans now.plan (segment_of now.plan p) now.position b
    → Spans now.plan (segment_of c.is p) now.position b
piece-spans c n at now ss handled reused (us, count, going, plan, on) p b sp = subst (λ (q : Plan). Spans now.plan (segment_of q p) now.position b) plan sp

-- where an engine is at work, a piece that spans the seconds from its position on can stand behind the new segments
pub piece-follows : (c : ChangeView) (n at : ℕ) (now : Progress) (v : SegmentsView) (handled reused : ℕ) → Stands c n at false now (all_in c.is v) handled reused → (p : PieceView) (b : ℕ) → Spans now.plan (segment_of now.plan p) now.position b
    → (q : Plan) → q ≡ c.is → (m : ℕ) × (e : ℕ) × Chain q 0 (all_in q v) m × Spans q (segment_of q p) m e
piece-follows c n at now v handled reused (us, count, going, plan, on) p b sp q e =
    let chain = patched-chain c.is c.old n 0 now.position (all_in c.is v) us (handled + now.handled) on.patched in
    subst (λ (r : Plan). (m : ℕ) × (f : ℕ) × Chain r 0 (all_in r v) m × Spans r (segment_of r p) m f) (sym e) (now.position, b, chain, subst (λ (r : Plan). Spans r (segment_of r p) now.position b) plan sp)

-- where an engine is at work, a piece whose snapshot is that of its plan's state, or isn't noted, is such a piece of the new plan
pub piece-noted : (c : ChangeView) (n at : ℕ) (now : Progress) (ss : List SegmentView) (handled reused : ℕ) → Stands c n at false now ss handled reused → (p : PieceView) → IsNotedIn now.plan p → (q : Plan) → q ≡ c.is → IsNotedIn q p
piece-noted c n at now ss handled reused (us, count, going, plan, on) p noted q e = subst (λ (r : Plan). IsNotedIn r p) (plan ∙ sym e) noted

-- a piece that was put behind the segments of a plan is one segment more of an equal plan
pub piece-added : (p q : Plan) (old new : SegmentsView) (piece : PieceView) → p ≡ q → all_in p new ≡ all_in p old ++ segment_of p piece ∷ [] → all_in q new ≡ all_in q old ++ segment_of q piece ∷ []
piece-added p q old new piece e added = subst (λ (r : Plan). all_in r new ≡ all_in r old ++ segment_of r piece ∷ []) e added

-- a segment that was put behind the segments of a plan is one more of an equal plan
pub segment-added : (p q : Plan) (old new : SegmentsView) (s : SegmentView) → p ≡ q → all_in p new ≡ all_in p old ++ s ∷ [] → all_in q new ≡ all_in q old ++ s ∷ []
segment-added p q old new s e added = subst (λ (r : Plan). all_in r new ≡ all_in r old ++ s ∷ []) e added

-- what is true of the segments, their places and both counts is true of the result that has them, unless it is a fault
pub settled-as : {X E : Type 0} (Q : List SegmentView → List (Option ℕ) → ℕ → ℕ → Type 0) (f : X → List SegmentView) (g : X → List (Option ℕ)) (h k : X → ℕ) (r : Result X E) (ss : List SegmentView) (places : List (Option ℕ)) (handled reused : ℕ)
    → IfOk r (λ x. f x ≡ ss) → IfOk r (λ x. g x ≡ places) → IfOk r (λ x. h x ≡ handled) → IfOk r (λ x. k x ≡ reused) → Q ss places handled reused → IfOk r (λ x. Q (f x) (g x) (h x) (k x))
settled-as Q f g h k (Err e) ss places handled reused a b c d q = tt
settled-as Q f g h k (Ok x) ss places handled reused a b c d q =
    subst (λ n. Q (f x) (g x) (h x) n) (sym d) (subst (λ n. Q (f x) (g x) n reused) (sym c) (subst (λ ps. Q (f x) ps handled reused) (sym b) (subst (λ zs. Q zs places handled reused) (sym a) q)))
