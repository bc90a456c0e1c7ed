-- What each state of a history keeps.
use Rattle.std.specs.Prelude.{◌≡◌, ℕ, ◌+◌, ◌≤◌, ◌<◌, List, length, map, Option, None, Some}
use Rattle.std.specs.List.{AllByRecursion}
use Rattle.swf_text.specs.Entry.{LogEntry}
use Rattle.scenarios.specs.ScenarioList.{IdsRise}
use Rattle.book_machine.specs.Machine.{Machine, Progress, Ticket, opened, version, note_limit, ticket_limit}
use Rattle.book_machine.specs.History.{Noted, IsLegal, after_all}
use Rattle.book_machine.specs.Laws.{Stands, RiseFrom}

-- no version, or one that was made
abbrev pub IsMade : ℕ → Option ℕ → Type 0
IsMade v None = Unit {0}
IsMade v (Some w) = w ≤ v

-- what is published, and the mark, are of versions that were made
pub record IsProgress (v : ℕ) (p : Progress) : Type 0 where
  pub published : IsMade v p.published
  pub mark : IsMade v p.mark

-- the ticket was given to a scenario that stands, at a version that was made
pub record IsClaim (m : Machine) (t : Ticket) : Type 0 where
  pub number : t.number < m.next_ticket
  pub made : t.version ≤ version m
  pub stands : Stands t.id m

-- The progress is of the listed scenarios, in their order, whose ids rise; not too many tickets stand, whose numbers
-- rise; no version, id or ticket was given without a note; and there are at most 1,000,000 notes.
pub record IsSound (m : Machine) : Type 0 where
  pub ids : map (λ p. p.id) m.progress ≡ map (λ s. s.id) m.listing.scenarios
  pub rise : IdsRise 1 m.listing.scenarios m.listing.next
  pub progress : AllByRecursion (IsProgress (version m)) m.progress
  pub tickets : AllByRecursion (IsClaim m) m.tickets
  pub numbers : RiseFrom 0 (map (λ t. t.number) m.tickets)
  pub standing : length m.tickets ≤ ticket_limit
  pub versions : version m ≤ m.notes
  pub next_id : m.listing.next ≤ m.notes + 1
  pub first_ticket : 1 ≤ m.next_ticket
  pub next_ticket : m.next_ticket ≤ m.notes + 1
  pub notes : m.notes ≤ note_limit

-- every state of a legal history
abbrev pub EachStateIsSound : Type 0
EachStateIsSound = (log : List LogEntry) (notes : List Noted) → IsLegal (opened log) notes → IsSound (after_all (opened log) notes)
