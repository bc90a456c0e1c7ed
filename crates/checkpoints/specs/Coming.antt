-- Event seconds that come before an end.
use Rattle.std.specs.Prelude.{ℕ, ◌<◌, Option, Some, None, IfSome}
use Rattle.timeline.specs.Laws.{IsQuiet}
use Rattle.event_loop.specs.Events.{Progress, IsNextEvent}

-- the next event second comes, and before the end
abbrev pub ComesBefore : Progress → Option ℕ → Type 0
ComesBefore now end = (t : ℕ) × IsNextEvent now.plan now.position (Some t) × IfSome end (λ e. t < e)

-- no event second comes before the end, or none at all
abbrev pub NoneComes : Progress → Option ℕ → Type 0
NoneComes now None = IsNextEvent now.plan now.position None
NoneComes now (Some e) = IsQuiet now.plan now.position e
