-- Seconds that were worked, and the segments that they become once their snapshots are made.
use Rattle.std.specs.Prelude.{◌≡◌, ℕ, List, ◌++◌, map, Option, IfSome}
use Rattle.scenarios.specs.Plan.{Plan}
use Rattle.cluster_state.specs.Snapshot.{Numbers, numbers_of}
use Rattle.easy_rule.specs.declared.start.Start.{Start}
use Rattle.easy_rule.specs.Simulation.{before}
use Rattle.metrics.specs.Part.{PartSums}
use Rattle.checkpoints.specs.Segment.{SegmentView}

-- Seconds that were worked: the first of them, who waits and runs before it, where that was noted at once, the starts in
-- order, and the sums over the jobs that start.
pub record PieceView : Type 0 where
  pub first : ℕ
  pub before : Option Numbers
  pub starts : List Start
  pub part : PartSums

-- the segment that a piece is, in a plan: its snapshot is that of the plan's state
abbrev pub segment_of : Plan → PieceView → SegmentView
segment_of plan p = record { first = p.first; before = numbers_of (before plan p.first); starts = p.starts; part = p.part }

-- the snapshot, where it was noted, is that of the plan's state
abbrev pub IsNotedIn : Plan → PieceView → Type 0
IsNotedIn plan p = IfSome p.before (λ there. there ≡ numbers_of (before plan p.first))

-- Segments one after another, and the pieces behind them whose snapshots are still to be made.
pub record SegmentsView : Type 0 where
  pub done : List SegmentView
  pub pieces : List PieceView

-- all of them as segments of a plan, in order
abbrev pub all_in : Plan → SegmentsView → List SegmentView
all_in plan s = s.done ++ map (segment_of plan) s.pieces
