-- What the wait of a session for its runs returns.
use Rattle.std.specs.Prelude.{Bool, true, false, if◌then◌else◌, List, Option, None, Some}
use Rattle.std.specs.List.{list_any}
use Rattle.book_machine.specs.declared.settle_state.SettleState.{SettleState}
use Rattle.book_machine.specs.declared.settle_state.SettleState.TheVariants as state
use Rattle.chronicle.specs.Events.{Happened, Called, Opened, Stopped}
use Rattle.workers.specs.declared.settled.Settled.{Settled}
use Rattle.workers.specs.declared.settled.Settled.TheVariants as settled_as

-- by how far the scenarios are, and whether the desk is stopped; none: it waits on
abbrev pub outcome_settled : SettleState → Bool → Option Settled
outcome_settled state.Waiting stopped = if stopped then Some settled_as.Stopped else None
outcome_settled (state.Failed n) stopped = Some (settled_as.Failed n)
outcome_settled state.Done stopped = Some settled_as.Done

-- ---- stops

abbrev pub is_stop : Happened → Bool
is_stop (Called note) = false
is_stop (Opened who) = false
is_stop Stopped = true

abbrev pub has_stopped : List Happened → Bool
has_stopped events = list_any is_stop events
