-- The names of refusals: that of a variant is its own spelling, and that of a fault is the fault's.
use Rattle.std.specs.Prelude.{ℕ, List, codes}
use Rattle.version_book.specs.declared.refusal.Refusal.{Refusal}
use Rattle.version_book.specs.declared.refusal.Refusal.TheVariants as why
use Rattle.version_book.specs.declared.faults.ViewFault.{ViewFault}
use Rattle.version_book.specs.declared.faults.ViewFault.TheVariants as view
use Rattle.version_book.specs.declared.faults.FinishFault.{FinishFault}
use Rattle.version_book.specs.declared.faults.FinishFault.TheVariants as finish

abbrev pub memory_name : List ℕ
memory_name = codes "Memory"

abbrev pub refusal_name : {F : Type 0} → (F → List ℕ) → Refusal F → List ℕ
refusal_name fault_name why.JournalFull = codes "JournalFull"
refusal_name fault_name (why.Fault fault) = fault_name fault
refusal_name fault_name why.Memory = memory_name

abbrev pub view_fault_name : ViewFault → List ℕ
view_fault_name view.NoSuchScenario = codes "NoSuchScenario"
view_fault_name view.NotYet = codes "NotYet"
view_fault_name (view.Behind seen found) = codes "Behind"

abbrev pub too_many_tickets_name : List ℕ
too_many_tickets_name = codes "TooManyTickets"

abbrev pub finish_fault_name : FinishFault → List ℕ
finish_fault_name finish.UnknownTicket = codes "UnknownTicket"
finish_fault_name finish.Stranger = codes "Stranger"
finish_fault_name (finish.Stale published) = codes "Stale"

abbrev pub unknown_ticket_name : List ℕ
unknown_ticket_name = codes "UnknownTicket"
