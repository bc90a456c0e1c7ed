-- Pieces whose snapshots are made together: of the last segment before them, the jobs that came since, and the starts.
use Rattle.std.specs.Prelude.{◌≡◌, ℕ, ◌+◌, ◌≤◌, List, [], ◌∷◌, ◌++◌, length, map, filter_map, Option, Some, None}
use Rattle.std.specs.List.Sorted.{IsNonDecreasing, IsNonDecreasingBy}
use Rattle.frames.specs.Frames.{by_key, standing_at}
use Rattle.frames.specs.declared.stretch.Stretch.{Stretch}
use Rattle.scenarios.specs.Plan.{Plan, job_numbered}
use Rattle.cluster_state.specs.declared.snapshot.RunningNumber.{RunningNumber}
use Rattle.cluster_state.specs.Snapshot.{Numbers, running_numbered, standing_there}
use Rattle.easy_rule.specs.declared.start.Start.{Start}
use Rattle.easy_rule.specs.Simulation.{start_of}
use Rattle.timeline.specs.Stretches.{coming_between, placed_stretch, started_of, waiting_stretches}
use Rattle.checkpoints.specs.Segment.{SegmentView}
use Rattle.checkpoints.specs.Pieces.{PieceView}

-- A second, who waits and runs before it, and the starts that follow.
pub record BaseView : Type 0 where
  pub second : ℕ
  pub numbers : Numbers
  pub starts : List Start

-- the last of some segments
abbrev pub last_of : List SegmentView → Option SegmentView
last_of [] = None
last_of (s ∷ []) = Some s
last_of (s ∷ t ∷ ss) = last_of (t ∷ ss)

-- where the pieces behind a segment go out from; without one it is second 0, before which nobody waits or runs
abbrev pub base_of : Option SegmentView → BaseView
base_of None = record { second = 0; numbers = record { waiting = []; running = [] }; starts = [] }
base_of (Some s) = record { second = s.first; numbers = s.before; starts = s.starts }

-- The first seconds of pieces, and the starts before the last of these.
pub record GapView : Type 0 where
  pub seconds : List ℕ
  pub starts : List Start

-- the seconds rise, they are no more than the places of a frame, and these are the starts by number
pub record IsGap (seconds : List ℕ) (starts by_number : List Start) : Type 0 where
  pub rising : IsNonDecreasing seconds
  pub few : length seconds ≤ 4294967295
  pub sorted : IsNonDecreasingBy (λ x. x.number) by_number
  pub same : (n : ℕ) → start_of by_number n ≡ start_of starts n

-- Two frames that snapshots share: the waiting numbers, and the running ones.
pub record FramesView : Type 0 where
  pub waiting : List (Stretch ℕ)
  pub running : List (Stretch RunningNumber)

-- the numbers that stand at a place of both
abbrev pub numbers_in : ℕ → FramesView → Numbers
numbers_in place frames = standing_there place frames.waiting frames.running

-- the stretches at which those wait that waited at first and those that come before second u, and at which those run that ran at first and those that start
abbrev pub waiting_in : Plan → BaseView → GapView → ℕ → List (Stretch ℕ)
waiting_in plan base gap u = waiting_stretches gap.seconds (filter_map (job_numbered plan.jobs) base.numbers.waiting ++ coming_between plan.jobs base.second u) (start_of gap.starts)

abbrev pub running_in : Plan → BaseView → GapView → List (Stretch RunningNumber)
running_in plan base gap = map (placed_stretch gap.seconds) (filter_map (running_numbered plan.jobs) base.numbers.running ++ started_of plan.jobs gap.starts)

-- the numbers that stand at a place of these stretches
abbrev pub numbers_at : Plan → BaseView → GapView → ℕ → ℕ → Numbers
numbers_at plan base gap u place = record {
  waiting = standing_at place (waiting_in plan base gap u);
  running = by_key (λ (r : RunningNumber). r.number) (standing_at place (running_in plan base gap));
}

-- the pieces as segments, each with the numbers that stand at its place of the frames, from this place on
abbrev pub segments_at : ℕ → FramesView → List PieceView → List SegmentView
segments_at place frames [] = []
segments_at place frames (p ∷ ps) = record { first = p.first; before = numbers_in place frames; starts = p.starts; part = p.part } ∷ segments_at (place + 1) frames ps
