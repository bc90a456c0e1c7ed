-- The numbers that replies give count up: a reply gives no id and no ticket, or the next one, so both rise over a legal history.
use Rattle.std.proofs.Common.{◌≡◌, ℕ, ◌+◌, ◌<◌, ◌≤◌, List, [], ◌∷◌, ◌++◌, Bool, true, false, cond, Option, None, Some, is_some, unwrap_or, refl, sym, subst, arith}
use Rattle.std.specs.List.{cons_option}
use Rattle.job_table.specs.Edit.{LogEdit, fault_of}
use Rattle.job_table.specs.declared.fault.EditFault.{EditFault}
use Rattle.scenarios.specs.Scenario.{ScenarioView}
use Rattle.scenarios.specs.ScenarioList.{add_fault, id_of, with_scenario}
use Rattle.scenarios.specs.declared.list_fault.AddFault.{AddFault}
use Rattle.book_machine.specs.declared.reply.Reply.{Reply}
use Rattle.book_machine.specs.declared.reply.Reply.TheVariants as reply
use Rattle.book_machine.specs.Call.{BookCall, Edit, AddScenario, DropScenario, Retry, Claim, Finish, GiveUp, View}
use Rattle.book_machine.specs.Machine.{Machine, Progress, Ticket, version, current, progress_of, published_of, ticket_of, changed, publish, marked, fresh, closed, due, dropped, are_all_out, is_below, finish_reply_at, view_reply_at, reply_to, changed_by, after}
use Rattle.book_machine.specs.History.{Noted, IsLegal}
use Rattle.book_machine.specs.Laws.{RiseFrom, id_in, ticket_in, ids_given, tickets_given}
use Rattle.std.specs.Prelude.{nat_lt}

abbrev pub Counts : Option ℕ → ℕ → ℕ → Type 0
Counts None old new = old ≤ new
Counts (Some n) old new = (n ≡ old) × (old < new)

pub record Gives (outcome : Reply) (old new : Machine) : Type 0 where
  pub id : Counts (id_in outcome) old.listing.next new.listing.next
  pub ticket : Counts (ticket_in outcome) old.next_ticket new.next_ticket

edit_gives : (m : Machine) (edit : LogEdit) (o : Option EditFault) → Gives (elim o [ Some fault ↦ reply.EditRefused fault | None ↦ reply.Edited (version m + 1) ]) m (cond (is_some o) m (record m { edits = m.edits ++ edit ∷ [] }))
edit_gives m edit None = record { id = omega arith; ticket = omega arith }
edit_gives m edit (Some fault) = record { id = omega arith; ticket = omega arith }

add_gives : (m : Machine) (name : List ℕ) (scenario : ScenarioView) (o : Option AddFault) → Gives (elim o [ Some fault ↦ reply.AddRefused fault | None ↦ reply.Added m.listing.next ]) m (cond (is_some o) m (record m { listing = with_scenario name scenario m.listing; progress = m.progress ++ fresh m.listing.next ∷ [] }))
add_gives m name scenario None = record { id = (refl, omega arith); ticket = omega arith }
add_gives m name scenario (Some fault) = record { id = omega arith; ticket = omega arith }

drop_gives : (m : Machine) (name : List ℕ) (o : Option ℕ) → Gives (elim o [ None ↦ reply.NoSuchScenario | Some id ↦ reply.Dropped id ]) m (elim o [ None ↦ m | Some id ↦ dropped name id m ])
drop_gives m name None = record { id = omega arith; ticket = omega arith }
drop_gives m name (Some id) = record { id = omega arith; ticket = omega arith }

retry_gives : (m : Machine) (id : ℕ) (b : Bool) → Gives (cond b reply.Retried reply.NoSuchScenario) m (record m { progress = changed id (λ p. record p { mark = None }) m.progress })
retry_gives m id true = record { id = omega arith; ticket = omega arith }
retry_gives m id false = record { id = omega arith; ticket = omega arith }

claim_gives : (m : Machine) (o : Option Progress) (b : Bool) → Gives (elim o [ None ↦ reply.NoneDue | Some p ↦ cond b reply.TooManyTickets (reply.Claimed m.next_ticket p.id (version m) p.published) ]) m (elim o [ None ↦ m | Some p ↦ cond b m (record m { tickets = m.tickets ++ record { number = m.next_ticket; id = p.id; version = version m } ∷ []; next_ticket = m.next_ticket + 1 }) ])
claim_gives m None b = record { id = omega arith; ticket = omega arith }
claim_gives m (Some p) true = record { id = omega arith; ticket = omega arith }
claim_gives m (Some p) false = record { id = omega arith; ticket = (refl, omega arith) }

finished_gives : (m : Machine) (number : ℕ) (t : Ticket) (b : Bool) → Gives (cond b (reply.Finished t.version) (reply.Stale (unwrap_or (published_of t.id m.progress) 0))) m (record m { progress = changed t.id (publish t.version) m.progress; tickets = closed number m.tickets })
finished_gives m number t true = record { id = omega arith; ticket = omega arith }
finished_gives m number t false = record { id = omega arith; ticket = omega arith }

finish_gives : (m : Machine) (number : ℕ) (fits : Bool) (o : Option Ticket) → Gives (elim o [ None ↦ reply.UnknownTicket | Some t ↦ cond fits (finish_reply_at t m) reply.Stranger ]) m (elim o [ None ↦ m | Some t ↦ cond fits (record m { progress = changed t.id (publish t.version) m.progress; tickets = closed number m.tickets }) m ])
finish_gives m number fits None = record { id = omega arith; ticket = omega arith }
finish_gives m number true (Some t) = finished_gives m number t (is_below (published_of t.id m.progress) t.version)
finish_gives m number false (Some t) = record { id = omega arith; ticket = omega arith }

give_up_gives : (m : Machine) (number : ℕ) (o : Option Ticket) → Gives (cond (is_some o) reply.GivenUp reply.UnknownTicket) m (elim o [ None ↦ m | Some t ↦ record m { progress = marked t m; tickets = closed number m.tickets } ])
give_up_gives m number None = record { id = omega arith; ticket = omega arith }
give_up_gives m number (Some t) = record { id = omega arith; ticket = omega arith }

shown_gives : (m : Machine) (seen found : ℕ) (b : Bool) → Gives (cond b (reply.Behind seen found) (reply.Shown found)) m m
shown_gives m seen found true = record { id = omega arith; ticket = omega arith }
shown_gives m seen found false = record { id = omega arith; ticket = omega arith }

view_at_gives : (m : Machine) (seen : ℕ) (o : Option ℕ) → Gives (view_reply_at seen o) m m
view_at_gives m seen None = record { id = omega arith; ticket = omega arith }
view_at_gives m seen (Some found) = shown_gives m seen found (nat_lt found seen)

view_gives : (m : Machine) (seen : ℕ) (o : Option Progress) → Gives (elim o [ None ↦ reply.NoSuchScenario | Some p ↦ view_reply_at seen p.published ]) m m
view_gives m seen None = record { id = omega arith; ticket = omega arith }
view_gives m seen (Some p) = view_at_gives m seen p.published

step_gives : (m : Machine) (call : BookCall) → Gives (reply_to call m) m (changed_by call m)
step_gives m (Edit edit) = edit_gives m edit (fault_of edit (current m))
step_gives m (AddScenario name scenario) = add_gives m name scenario (add_fault name m.listing)
step_gives m (DropScenario name) = drop_gives m name (id_of name m.listing)
step_gives m (Retry id) = retry_gives m id (is_some (progress_of id m.progress))
step_gives m Claim = claim_gives m (due m) (are_all_out m)
step_gives m (Finish number fits) = finish_gives m number fits (ticket_of number m.tickets)
step_gives m (GiveUp number) = give_up_gives m number (ticket_of number m.tickets)
step_gives m (View id seen) = view_gives m seen (progress_of id m.progress)

rises : (n old new : ℕ) (o : Option ℕ) (rest : List ℕ) → Counts o old new → n < old → ((k : ℕ) → k < new → RiseFrom k rest) → RiseFrom n (cons_option o rest)
rises n old new None rest counts lt more = more n (omega (arith, counts, lt))
rises n old new (Some k) rest counts lt more = (omega (arith, counts.0, lt), more k (omega (arith, counts.0, counts.1)))

-- the ids that a legal history gives rise, above each number below the next id of the state before it
pub ids_rise : (m : Machine) (notes : List Noted) (n : ℕ) → IsLegal m notes → n < m.listing.next → RiseFrom n (ids_given notes)
ids_rise m [] n legal lt = tt
ids_rise m (note ∷ notes) n legal lt =
    let gives : Gives note.reply m (changed_by note.call m) = subst (λ (r : Reply). Gives r m (changed_by note.call m)) (sym legal.1) (step_gives m note.call) in
    rises n m.listing.next (changed_by note.call m).listing.next (id_in note.reply) (ids_given notes) gives.id lt (λ k below. ids_rise (after note.call m) notes k legal.2 below)

-- the tickets that a legal history gives rise, above each number below the next ticket of the state before it
pub tickets_rise : (m : Machine) (notes : List Noted) (n : ℕ) → IsLegal m notes → n < m.next_ticket → RiseFrom n (tickets_given notes)
tickets_rise m [] n legal lt = tt
tickets_rise m (note ∷ notes) n legal lt =
    let gives : Gives note.reply m (changed_by note.call m) = subst (λ (r : Reply). Gives r m (changed_by note.call m)) (sym legal.1) (step_gives m note.call) in
    rises n m.next_ticket (changed_by note.call m).next_ticket (ticket_in note.reply) (tickets_given notes) gives.ticket lt (λ k below. tickets_rise (after note.call m) notes k legal.2 below)
