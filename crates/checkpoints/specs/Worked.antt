-- What an engine works of a piece.
use Rattle.std.specs.Prelude.{◌≡◌, ℕ, ◌+◌, ◌-◌, ◌≤◌, ◌<◌, ◌⊎◌, false, List, Option, IfSome}
use Rattle.scenarios.specs.Plan.{Plan}
use Rattle.scenarios.specs.declared.placed.Placed.{Placed}
use Rattle.easy_rule.specs.declared.start.Start.{Start}
use Rattle.easy_rule.specs.Simulation.{bound}
use Rattle.event_loop.specs.Events.{Progress, events_before}
use Rattle.event_loop.specs.Going.{IsRunOn}
use Rattle.checkpoints.specs.Segment.{SegmentView}
use Rattle.checkpoints.specs.Cut.{EndsWithEvent, ShortChain, placed_of}
use Rattle.checkpoints.specs.Coming.{NoneComes}

-- it works n event seconds, or fewer where no more of them come before the end, and doesn't go past the end
pub record WorksUpTo (old new : Progress) (n : ℕ) (end : Option ℕ) : Type 0 where
  pub within : IfSome end (λ e. new.position ≤ e)
  pub short : events_before old.plan new.position ≤ events_before old.plan old.position + n
  pub full : (events_before old.plan new.position ≡ events_before old.plan old.position + n) ⊎ NoneComes new end

-- it goes on to one second past an event second, with these starts between, whose jobs and seconds are these
pub record WorksStretch (old new : Progress) (starts : List Start) (placed : List Placed) : Type 0 where
  pub run : IsRunOn old new starts
  pub ends : EndsWithEvent old.plan old.position new.position
  pub jobs : placed ≡ placed_of old.plan.jobs starts

-- the segments so far, of n event seconds each, are those of the plan's simulation up to where its engine stands
pub record Cutting (plan : Plan) (n : ℕ) (now : Progress) (ss : List SegmentView) : Type 0 where
  pub going : now.failed ≡ false
  pub same : now.plan ≡ plan
  pub chain : ShortChain plan n 0 ss now.position

-- fewer seconds are left up to the last that an event can have
abbrev pub IsNearer : Plan → ℕ → ℕ → Type 0
IsNearer plan old new = bound plan + 1 - new < bound plan + 1 - old
