-- New segments, of which some are old ones that are reused, and the others were worked.
use Rattle.std.specs.Prelude.{◌≡◌, ℕ, ◌+◌, ◌≤◌, ◌⊎◌, Bool, List, [], ◌∷◌, ◌++◌, length}
use Rattle.scenarios.specs.Plan.{Plan}
use Rattle.easy_rule.specs.Simulation.{bound}
use Rattle.event_loop.specs.Events.{events_before}
use Rattle.checkpoints.specs.Segment.{SegmentView}
use Rattle.timeline.specs.Laws.{IsQuiet}
use Rattle.checkpoints.specs.Cut.{Spans, Over}
use Rattle.rejoin.specs.Reused.{next_first, IsReused}
use Rattle.rejoin.specs.Bound.{marked, MarksWork}
use Rattle.rejoin.specs.Older.{IsFirstOf}

-- of the old segments before the rest, these are the reused ones, in order
abbrev pub AreReused : Plan → Plan → List SegmentView → List SegmentView → List SegmentView → Type 0
AreReused p q [] rest us = us ≡ []
AreReused p q (s ∷ front) rest us =
    (IsReused p q s.first (next_first (front ++ rest)) × ((vs : List SegmentView) × (us ≡ s ∷ vs) × AreReused p q front rest vs))
    ⊎ ((IsReused p q s.first (next_first (front ++ rest)) → ⊥) × AreReused p q front rest us)

-- from the second on no event second comes before the first second of one of the old segments, or none comes at all
abbrev pub EndsPiece : Plan → List SegmentView → ℕ → Type 0
EndsPiece plan old m = ((c : ℕ) × IsFirstOf old c × (m ≤ c) × IsQuiet plan m c) ⊎ Over plan m

-- a worked segment that ends before the second may hold k event seconds: n, or fewer where no more of them come before an
-- old segment's first second, or at all
pub record IsPiece (plan : Plan) (old : List SegmentView) (n k m : ℕ) : Type 0 where
  pub short : k ≤ n
  pub ends : (k ≡ n) ⊎ EndsPiece plan old m

-- One segment after another, from a to before b, of which these were reused: each is the next of those, or was worked
-- in pieces of n event seconds. The worked ones together hold h event seconds.
abbrev pub Patched : Plan → List SegmentView → ℕ → ℕ → List SegmentView → List SegmentView → ℕ → ℕ → Type 0
Patched plan old n a [] us h b = (a ≡ b) × (us ≡ []) × (h ≡ 0)
Patched plan old n a (s ∷ ss) us h b =
    (m : ℕ) × Spans plan s a m
    × (((vs : List SegmentView) × (us ≡ s ∷ vs) × Patched plan old n m ss vs h b)
    ⊎ ((k : ℕ) × (events_before plan m ≡ events_before plan a + k) × IsPiece plan old n k m × ((g : ℕ) × (h ≡ k + g) × Patched plan old n m ss us g b)))

-- The new segments are a cut of the new plan. Of the old ones exactly those are among them that are reused, so many; the
-- others were worked, and hold so many event seconds: no more than there are in the work set.
pub record IsRejoined (p q : Plan) (old : List SegmentView) (n : ℕ) (new : List SegmentView) (handled reused : ℕ) : Type 0 where
  pub taken : List SegmentView
  pub all : AreReused p q old [] taken
  pub count : reused ≡ length taken
  pub patched : (e : ℕ) × Patched q old n 0 new taken handled e × Over q e
  pub spent : (marks : ℕ → Bool) → MarksWork p q old marks → handled ≤ marked marks (bound q + 1)

-- all old segments were reused, no other one stands beside them, and no event second was worked
pub record AllReused (old new : List SegmentView) (handled reused : ℕ) : Type 0 where
  pub same : new ≡ old
  pub none : handled ≡ 0
  pub all : reused ≡ length old
