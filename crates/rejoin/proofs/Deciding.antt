-- One old segment, at its place among the others: what was read of it, and what decides whether it is reused.
use Rattle.std.proofs.Common.{◌≡◌, ℕ, ◌+◌, ◌<◌, Bool, IsTrue, ◌↔◌, List, ◌∷◌, map, drop, length, get_or, Option, sym, ◌∙◌, ap, subst, arith}
use Rattle.std.proofs.lemmas.List.{drop_more, drop-map, length-map}
use Rattle.scenarios.specs.Plan.{Plan}
use Rattle.cluster_state.specs.Snapshot.{Numbers, numbers_of}
use Rattle.easy_rule.specs.Simulation.{before}
use Rattle.checkpoints.specs.Segment.{SegmentView}
use Rattle.rejoin.specs.Reused.{next_first, InStretch}
use Rattle.rejoin.specs.Tested.{NoneWithin}
use Rattle.rejoin.specs.Touched.{IsTouchedSubmit}
use Rattle.rejoin.specs.Rejoining.{ChangeView, IsChange, IsClear}
use Rattle.rejoin.proofs.Tests.{of-none, none-of}

-- equal lists have the same first segment
pub heads : (x y : SegmentView) (xs ys : List SegmentView) → x ∷ xs ≡ y ∷ ys → x ≡ y
heads x y xs ys e = cc

tails : (x y : SegmentView) (xs ys : List SegmentView) → x ∷ xs ≡ y ∷ ys → xs ≡ ys
tails x y xs ys e = cc

-- what holds of the first seconds of the segment that was read and of the next one holds of the segment at that place
pub at-segment : (Q : ℕ → Option ℕ → Type 0) (left : List SegmentView) (seg s : SegmentView) (later rest : List SegmentView) (first : ℕ) (next : Option ℕ) → left ≡ seg ∷ later → left ≡ s ∷ rest → first ≡ seg.first → next ≡ next_first later → Q first next → Q s.first (next_first rest)
at-segment Q left seg s later rest first next here there f n h =
    let both : seg ∷ later ≡ s ∷ rest = sym here ∙ there in
    subst (λ (o : Option ℕ). Q s.first o) (n ∙ ap next_first (tails seg s later rest both)) (subst (λ (a : ℕ). Q a next) (f ∙ ap (λ (x : SegmentView). x.first) (heads seg s later rest both)) h)

-- the old segments from a place on are the one that stands there and those from the next place on
pub segments-at : {X : Type 0} (f : X → SegmentView) (xs : List X) (old : List SegmentView) (i : ℕ) (d : X) → map f xs ≡ old → i < length old → drop i old ≡ f (get_or xs i d) ∷ drop (i + 1) old
segments-at f xs old i d e l =
    let few : i < length xs = omega (arith, l, ap length e, length-map xs f) in
    ap (drop i) (sym e) ∙ drop-map f i xs ∙ ap (map f) (drop_more xs i d few) ∙ ap (λ (t : List SegmentView). f (get_or xs i d) ∷ t) (sym (drop-map f (i + 1) xs) ∙ ap (drop (i + 1)) e)

-- what tells whether none of the touched submit seconds listed lies in a stretch tells whether no touched number is submitted in it
pub clear-decides : (c : ChangeView) → IsChange c → (a : ℕ) (next : Option ℕ) (r : Bool) → IsTrue r ↔ NoneWithin c.submits a next → IsTrue r ↔ IsClear c.was c.is a next
clear-decides c ok a next r law = (
  (λ t u l d. of-none (IsTouchedSubmit c.was c.is) (InStretch a next) c.submits ok.submits (law.0 t) u d l),
  (λ clear. law.1 (none-of (IsTouchedSubmit c.was c.is) (InStretch a next) c.submits ok.submits (λ u d l. clear u l d))),
)

-- the numbers that an engine is resumed from, a segment's snapshot of the plan's state, are those before the second that it is resumed at
pub resumed-from : (q p : Plan) (seg : SegmentView) (was : Numbers) (first : ℕ) → seg.before ≡ numbers_of (before q seg.first) → was ≡ seg.before → first ≡ seg.first → q ≡ p → was ≡ numbers_of (before p first)
resumed-from q p seg was first h w f e = w ∙ h ∙ ap (λ (x : Plan). numbers_of (before x seg.first)) e ∙ ap (λ a. numbers_of (before p a)) (sym f)
