-- Where the new segments come from.
use Rattle.std.proofs.Common.{◌≡◌, ℕ, zero, suc, List, [], ◌∷◌, ◌++◌, drop, length, Option, Some, None, IfSome, ap, arith, subst₂, sym}
use Rattle.std.specs.List.{slice_get}
use Rattle.checkpoints.specs.Segment.{SegmentView}
use Rattle.checkpoints.specs.Nodes.{AreFrom}

from-push : (old ss : List SegmentView) (places : List (Option ℕ)) (s : SegmentView) (place : Option ℕ) → AreFrom old ss places → IfSome place (λ k. slice_get old k ≡ Some s) → AreFrom old (ss ++ s ∷ []) (places ++ place ∷ [])
from-push old [] [] s place z h = (h, tt)
from-push old [] (p ∷ places) s place z h = absurd z
from-push old (x ∷ ss) [] s place z h = absurd z
from-push old (x ∷ ss) (p ∷ places) s place z h = (z.0, from-push old ss places s place z.1 h)

got : (old : List SegmentView) (k : ℕ) (s : SegmentView) (rest : List SegmentView) → drop k old ≡ s ∷ rest → slice_get old k ≡ Some s
got old zero s rest e = ap (λ l. slice_get l 0) e
got [] (suc k) s rest e = let l = ap length e in absurd (omega (arith, l))
got (x ∷ old) (suc k) s rest e = got old k s rest e

-- with a worked segment, which is from no place, the new segments still come from their places
pub from-worked : (old ss all : List SegmentView) (places each : List (Option ℕ)) (s : SegmentView) → AreFrom old ss places → all ≡ ss ++ s ∷ [] → each ≡ places ++ None ∷ [] → AreFrom old all each
from-worked old ss all places each s z e f = subst₂ (AreFrom old) (sym e) (sym f) (from-push old ss places s None z tt)

-- with the old segment of a place, which is reused, the new segments still come from their places
pub from-taken : (old ss all : List SegmentView) (places each : List (Option ℕ)) (s : SegmentView) (at : ℕ) (rest : List SegmentView) → AreFrom old ss places → drop at old ≡ s ∷ rest → all ≡ ss ++ s ∷ [] → each ≡ places ++ Some at ∷ [] → AreFrom old all each
from-taken old ss all places each s at rest z here e f = subst₂ (AreFrom old) (sym e) (sym f) (from-push old ss places s (Some at) z (got old at s rest here))

-- no segments come from no places
pub from-none : (old all : List SegmentView) (each : List (Option ℕ)) → all ≡ [] → each ≡ [] → AreFrom old all each
from-none old all each e f = subst₂ (AreFrom old) (sym e) (sym f) tt
