-- How a simulation is cut into segments, one after another.
use Rattle.std.specs.Prelude.{◌≡◌, ℕ, ◌+◌, ◌≤◌, ◌⊎◌, List, [], ◌∷◌, ◌++◌, Option, None}
use Rattle.std.specs.List.{filter_map, flat_map}
use Rattle.std.specs.Option.{option_map}
use Rattle.scenarios.specs.Job.{EffectiveJob}
use Rattle.scenarios.specs.Plan.{Plan, job_numbered}
use Rattle.cluster_state.specs.Snapshot.{numbers_of}
use Rattle.easy_rule.specs.declared.start.Start.{Start}
use Rattle.easy_rule.specs.Simulation.{IsEvent, before, starts_before}
use Rattle.event_loop.specs.Events.{IsNextEvent, events_before}
use Rattle.scenarios.specs.declared.placed.Placed.{Placed}
use Rattle.metrics.specs.Part.{IsPartOf}
use Rattle.checkpoints.specs.Segment.{SegmentView}

-- the job of a start, with its second
abbrev pub placed_at : List EffectiveJob → Start → Option Placed
placed_at jobs x = option_map (λ job. record { job = job; start = x.at }) (job_numbered jobs x.number)

-- the jobs of these starts, with their seconds
abbrev pub placed_of : List EffectiveJob → List Start → List Placed
placed_of jobs starts = filter_map (placed_at jobs) starts

-- some second from a on is the last one before b, and an event second
abbrev pub EndsWithEvent : Plan → ℕ → ℕ → Type 0
EndsWithEvent plan a b = (t : ℕ) × (a ≤ t) × (b ≡ t + 1) × IsEvent plan t

-- The segment holds the seconds from a to before b: it begins at a, and its last second is an event second. It has the
-- numbers of the state before a, the simulation's starts of these seconds, and the sums over the jobs of these starts.
pub record Spans (plan : Plan) (s : SegmentView) (a b : ℕ) : Type 0 where
  pub first : s.first ≡ a
  pub ends : EndsWithEvent plan a b
  pub snapshot : s.before ≡ numbers_of (before plan a)
  pub starts : starts_before plan b ≡ starts_before plan a ++ s.starts
  pub part : IsPartOf (placed_of plan.jobs s.starts) s.part

-- one segment after another, from a to before b
abbrev pub Chain : Plan → ℕ → List SegmentView → ℕ → Type 0
Chain plan a [] b = a ≡ b
Chain plan a (s ∷ ss) b = (m : ℕ) × Spans plan s a m × Chain plan m ss b

-- no event second comes from a on
abbrev pub Over : Plan → ℕ → Type 0
Over plan a = IsNextEvent plan a None

-- The segments of a plan: the first begins at 0, each next one a second after the last event second of the one before,
-- and after the last of them no event second comes.
abbrev pub IsCut : Plan → List SegmentView → Type 0
IsCut plan ss = (e : ℕ) × Chain plan 0 ss e × Over plan e

-- n event seconds lie from a to before b; or fewer, where no event second comes from b on
abbrev pub IsFull : Plan → ℕ → ℕ → ℕ → Type 0
IsFull plan n a b = (events_before plan b ≡ events_before plan a + n) ⊎ ((events_before plan b ≤ events_before plan a + n) × Over plan b)

-- the same, where each segment holds n event seconds, but the last one, which may hold fewer
abbrev pub ShortChain : Plan → ℕ → ℕ → List SegmentView → ℕ → Type 0
ShortChain plan n a [] b = a ≡ b
ShortChain plan n a (s ∷ ss) b = (m : ℕ) × Spans plan s a m × IsFull plan n a m × ShortChain plan n m ss b

abbrev pub IsShortCut : Plan → ℕ → List SegmentView → Type 0
IsShortCut plan n ss = (e : ℕ) × ShortChain plan n 0 ss e × Over plan e

-- the starts of some segments, in order
abbrev pub all_starts : List SegmentView → List Start
all_starts ss = flat_map (λ s. s.starts) ss
