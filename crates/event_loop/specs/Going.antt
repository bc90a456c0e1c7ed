-- How an engine goes on, and how it fails.
use Rattle.std.specs.Prelude.{◌≡◌, true, false, ℕ, ◌+◌, ◌≤◌, ◌⊎◌, List, ◌++◌, Some}
use Rattle.easy_rule.specs.declared.start.Start.{Start}
use Rattle.easy_rule.specs.Simulation.{IsEvent, starts_before}
use Rattle.event_loop.specs.declared.fault.EngineFault.{EngineFault}
use Rattle.event_loop.specs.declared.fault.EngineFault.TheVariants.{Failed, Memory}
use Rattle.event_loop.specs.Events.{Progress, IsNextEvent, events_before}

-- it failed before and stays as it is, or it fails now at the position where it was
abbrev pub IsStepFault : Progress → Progress → EngineFault → Type 0
IsStepFault old new Failed = (old.failed ≡ true) × (new ≡ old)
IsStepFault old new Memory = (old.failed ≡ false) × (new ≡ record old { failed = true })

-- it failed before and stays as it is, or it fails now: where it was, or with the next event second worked whole, whose
-- starts found no capacity to be answered
abbrev pub IsTellFault : Progress → Progress → EngineFault → Type 0
IsTellFault old new Failed = (old.failed ≡ true) × (new ≡ old)
IsTellFault old new Memory =
    (old.failed ≡ false)
    × ((new ≡ record old { failed = true })
    ⊎ ((t : ℕ) × IsNextEvent old.plan old.position (Some t) × (new ≡ record old { position = t + 1; handled = old.handled + 1; failed = true })))

-- it went on in its plan, and counted the event seconds between
pub record IsFurther (old new : Progress) : Type 0 where
  pub plan : new.plan ≡ old.plan
  pub first : old.position ≤ new.position
  pub counted : new.handled + events_before old.plan old.position ≡ old.handled + events_before old.plan new.position

-- and these are the starts between
pub record IsRunOn (old new : Progress) (starts : List Start) : Type 0 where
  pub was : old.failed ≡ false
  pub going : new.failed ≡ false
  pub further : IsFurther old new
  pub outcome : starts_before old.plan old.position ++ starts ≡ starts_before old.plan new.position

-- its position is what it was, or one past an event second
abbrev pub IsLast : Progress → Progress → Type 0
IsLast old new = (new.position ≡ old.position) ⊎ ((t : ℕ) × (new.position ≡ t + 1) × IsEvent old.plan t)

-- it failed before and stays as it is, or it fails now, one past the last event second that it worked whole
abbrev pub IsRunFault : Progress → Progress → EngineFault → Type 0
IsRunFault old new Failed = (old.failed ≡ true) × (new ≡ old)
IsRunFault old new Memory = (old.failed ≡ false) × (new.failed ≡ true) × IsFurther old new × IsLast old new
