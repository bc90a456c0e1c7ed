-- How the work of what is due goes on, and ends. Where it is short, memory was refused in it.
use Rattle.std.specs.Prelude.{◌≡◌, ℕ, ◌+◌, ◌<◌, List, [], ◌∷◌, Bool, true, false, IsTrue, None, Result, Ok, Err, is_some, ◌⊎◌}
use Rattle.book_machine.specs.Call.{Claim, Finish, GiveUp}
use Rattle.book_machine.specs.Machine.{Machine, due, are_all_out, after, note_limit}
use Rattle.version_book.specs.declared.settling.Turn.{Turn}
use Rattle.version_book.specs.declared.settling.Turn.TheVariants as turn

-- ---- a claimed ticket

-- how a claimed ticket ends: its run is published, or it is given up
pub data Ended : Type 0 where
  Published GivenUp : Ended

-- the state after that
abbrev pub after_task : ℕ → Ended → Machine → Machine
after_task ticket Published m = after (Finish ticket true) m
after_task ticket GivenUp m = after (GiveUp ticket) m

-- a ticket is given up only where memory was refused for its run
abbrev pub MayEnd : Bool → Ended → Type 0
MayEnd short Published = Unit {0}
MayEnd short GivenUp = IsTrue short

-- ---- what a claim finds

-- a ticket is to be had: a scenario is due, and fewer than 256 tickets stand
pub record CanClaim (m : Machine) : Type 0 where
  pub some_due : is_some (due m) ≡ true
  pub free : are_all_out m ≡ false

-- nothing is left to claim: no scenario is due, or 256 tickets stand
abbrev pub IsAtRest : Machine → Type 0
IsAtRest m = (due m ≡ None) ⊎ (are_all_out m ≡ true)

-- no call is noted: the journal is full, or memory was refused
abbrev pub IsUnnoted : Bool → Machine → Type 0
IsUnnoted short m = (m.notes ≡ note_limit) ⊎ IsTrue short

-- ---- the work

-- a ticket is claimed for the first scenario that is due, and ends so; both calls are noted
pub record IsWorked (short : Bool) (old : Machine) (ended : Ended) (new : Machine) : Type 0 where
  pub claims : CanClaim old
  pub capacity : old.notes + 1 < note_limit
  pub cause : MayEnd short ended
  pub made : new ≡ after_task old.next_ticket ended (after Claim old)

-- ticket after ticket
abbrev pub AreWorked : Bool → Machine → List Ended → Machine → Type 0
AreWorked short old [] new = new ≡ old
AreWorked short old (ended ∷ others) new = (next : Machine) × IsWorked short old ended next × AreWorked short next others new

-- The work ends: nothing is left to claim; or the claim isn't noted; or it is, and the end of its ticket, which stands then,
-- isn't.
abbrev pub Halts : Bool → Machine → Machine → Type 0
Halts short old new =
    (IsAtRest old × (new ≡ old))
    ⊎ ((CanClaim old × IsUnnoted short old × (new ≡ old))
    ⊎ (CanClaim old × (old.notes < note_limit) × IsUnnoted short (after Claim old) × (new ≡ after Claim old)))

-- ticket after ticket is worked, until the work ends
abbrev pub Settles : Bool → Machine → Machine → Type 0
Settles short old new = (ends : List Ended) × (last : Machine) × AreWorked short old ends last × Halts short last new

-- ---- turn by turn

-- what becomes of a standing ticket: its end is noted, or the journal is full, or memory was refused, and nothing changed
abbrev pub TicketEnds : Turn → ℕ → Machine → Machine → Type 0
TicketEnds turn.Worked ticket old new = (old.notes < note_limit) × (new ≡ after_task ticket Published old)
TicketEnds turn.GivenUp ticket old new = (old.notes < note_limit) × (new ≡ after_task ticket GivenUp old)
TicketEnds turn.Ended ticket old new = (old.notes ≡ note_limit) × (new ≡ old)
TicketEnds turn.Short ticket old new = new ≡ old

-- a run that was made isn't given up, and one that was refused isn't published
abbrev pub IsTurnOf : {R E : Type 0} → Result R E → Turn → Type 0
IsTurnOf (Ok run) t = t ≡ turn.GivenUp → ⊥
IsTurnOf (Err refused) t = t ≡ turn.Worked → ⊥

-- a turn: one ticket is worked; or the work ends
abbrev pub IsTurn : Turn → Machine → Machine → Type 0
IsTurn turn.Worked old new = IsWorked false old Published new
IsTurn turn.GivenUp old new = IsWorked true old GivenUp new
IsTurn turn.Ended old new = Halts false old new
IsTurn turn.Short old new = Halts true old new
