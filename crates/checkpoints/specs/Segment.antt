-- What callers see of a segment.
use Rattle.std.specs.Prelude.{ℕ, List}
use Rattle.cluster_state.specs.Snapshot.{Numbers}
use Rattle.easy_rule.specs.declared.start.Start.{Start}
use Rattle.metrics.specs.Part.{PartSums}

-- The first second of a stretch of time, who waits and runs before it, the starts of the stretch in order, and the sums
-- over the jobs that start in it.
pub record SegmentView : Type 0 where
  pub first : ℕ
  pub before : Numbers
  pub starts : List Start
  pub part : PartSums
