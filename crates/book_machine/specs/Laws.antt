-- What holds over every legal history.
use Rattle.std.specs.Prelude.{◌≡◌, ℕ, ◌≤◌, ◌<◌, true, List, [], ◌∷◌, ◌++◌, Option, None, Some, is_some}
use Rattle.std.specs.List.{filter_map}
use Rattle.swf_text.specs.Entry.{LogEntry}
use Rattle.book_machine.specs.declared.reply.Reply.{Reply}
use Rattle.book_machine.specs.declared.reply.Reply.TheVariants as reply
use Rattle.book_machine.specs.Machine.{Machine, opened, version, progress_of, published_of}
use Rattle.book_machine.specs.History.{Noted, IsLegal, after_all}

-- what is published now is published still, or a newer version is
abbrev pub IsNoOlder : Option ℕ → Option ℕ → Type 0
IsNoOlder None later = Unit {0}
IsNoOlder (Some v) None = ⊥
IsNoOlder (Some v) (Some w) = v ≤ w

-- the scenario with this id stands
abbrev pub Stands : ℕ → Machine → Type 0
Stands id m = is_some (progress_of id m.progress) ≡ true

-- while its id stands, a scenario's published version never goes down, whatever is called
abbrev pub VersionsNeverGoDown : Type 0
VersionsNeverGoDown =
    (log : List LogEntry) (notes more : List Noted) (id : ℕ) → IsLegal (opened log) (notes ++ more)
    → Stands id (after_all (opened log) (notes ++ more)) → IsNoOlder (published_of id (after_all (opened log) notes).progress) (published_of id (after_all (opened log) (notes ++ more)).progress)

-- nor is a version published that was not yet made
abbrev pub NoVersionIsAhead : Type 0
NoVersionIsAhead =
    (log : List LogEntry) (notes : List Noted) (id v : ℕ) → IsLegal (opened log) notes
    → published_of id (after_all (opened log) notes).progress ≡ Some v → v ≤ version (after_all (opened log) notes)

-- the id that a reply gives to a scenario
abbrev pub id_in : Reply → Option ℕ
id_in (reply.Added id) = Some id
id_in _ = None

-- the ticket that a reply gives to a worker
abbrev pub ticket_in : Reply → Option ℕ
ticket_in (reply.Claimed ticket id version base) = Some ticket
ticket_in _ = None

abbrev pub ids_given : List Noted → List ℕ
ids_given notes = filter_map (λ n. id_in n.reply) notes

abbrev pub tickets_given : List Noted → List ℕ
tickets_given notes = filter_map (λ n. ticket_in n.reply) notes

-- each of these numbers is above those before it, and above the first
abbrev pub RiseFrom : ℕ → List ℕ → Type 0
RiseFrom n [] = Unit {0}
RiseFrom n (m ∷ ms) = (n < m) × RiseFrom m ms

-- ids and tickets count up from 1, so none is given twice
abbrev pub NoIdIsGivenTwice : Type 0
NoIdIsGivenTwice = (log : List LogEntry) (notes : List Noted) → IsLegal (opened log) notes → RiseFrom 0 (ids_given notes)

abbrev pub NoTicketIsGivenTwice : Type 0
NoTicketIsGivenTwice = (log : List LogEntry) (notes : List Noted) → IsLegal (opened log) notes → RiseFrom 0 (tickets_given notes)
