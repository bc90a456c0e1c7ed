-- The book machine: what each call replies, and the state after it. It knows versions and no runs.
use Rattle.std.specs.Prelude.{ℕ, ◌+◌, ◌==◌, ◌&&◌, nat_lt, nat_le, not, if◌then◌else◌, Bool, true, false, List, [], ◌∷◌, ◌++◌, length, find, filter, map, count_by, Option, None, Some, is_some, unwrap_or}
use Rattle.std.specs.List.{list_any}
use Rattle.swf_text.specs.Entry.{LogEntry}
use Rattle.job_table.specs.Edit.{LogEdit, fault_of, log_after}
use Rattle.scenarios.specs.Scenario.{ScenarioView}
use Rattle.scenarios.specs.ScenarioList.{Listing, empty, add_fault, id_of, with_scenario, without_scenario}
use Rattle.book_machine.specs.Call.{BookCall, Edit, AddScenario, DropScenario, Retry, Claim, Finish, GiveUp, View}
use Rattle.book_machine.specs.declared.reply.Reply.{Reply}
use Rattle.book_machine.specs.declared.reply.Reply.TheVariants as reply
use Rattle.book_machine.specs.declared.settle_state.SettleState.{SettleState}
use Rattle.book_machine.specs.declared.settle_state.SettleState.TheVariants as settle

-- ---- the state

-- how far a scenario is: the version of its published run, and that at which its run was given up
pub record Progress : Type 0 where
  pub id : ℕ
  pub published : Option ℕ
  pub mark : Option ℕ

-- a claim that stands: a run of this scenario is to be made at this version
pub record Ticket : Type 0 where
  pub number : ℕ
  pub id : ℕ
  pub version : ℕ

-- The log that was opened and the edits of it that were accepted; the scenarios, and how far each is; the standing
-- tickets, and the number of the next; and how many calls were noted.
pub record Machine : Type 0 where
  pub opening : List LogEntry
  pub edits : List LogEdit
  pub listing : Listing
  pub progress : List Progress
  pub tickets : List Ticket
  pub next_ticket : ℕ
  pub notes : ℕ

-- a log that was just opened
abbrev pub opened : List LogEntry → Machine
opened log = record { opening = log; edits = []; listing = empty; progress = []; tickets = []; next_ticket = 1; notes = 0 }

-- the version is the number of accepted edits
abbrev pub version : Machine → ℕ
version m = length m.edits

-- the log of the current version
abbrev pub current : Machine → List LogEntry
current m = log_after m.opening m.edits

-- how far the scenario with this id is, where it stands
abbrev pub progress_of : ℕ → List Progress → Option Progress
progress_of id progress = find (λ p. p.id == id) progress

-- the version that is published for the scenario with this id
abbrev pub published_of : ℕ → List Progress → Option ℕ
published_of id progress = elim (progress_of id progress) [ None ↦ None | Some p ↦ p.published ]

-- the standing ticket with this number
abbrev pub ticket_of : ℕ → List Ticket → Option Ticket
ticket_of number tickets = find (λ t. t.number == number) tickets

-- nothing is published, or an older version
abbrev pub is_below : Option ℕ → ℕ → Bool
is_below None v = true
is_below (Some published) v = nat_lt published v

-- a mark counts only at the current version
abbrev pub is_marked : Machine → Progress → Bool
is_marked m p = elim p.mark [ None ↦ false | Some v ↦ v == version m ]

-- a ticket of the scenario with this id stands at this version
abbrev pub is_claimed : ℕ → ℕ → List Ticket → Bool
is_claimed id v tickets = list_any (λ t. t.id == id && t.version == v) tickets

-- the current version is neither published, nor given up, nor claimed
abbrev pub is_due : Machine → Progress → Bool
is_due m p = is_below p.published (version m) && not (is_marked m p) && not (is_claimed p.id (version m) m.tickets)

-- the first scenario that is due
abbrev pub due : Machine → Option Progress
due m = find (is_due m) m.progress

-- the most tickets that stand
abbrev pub ticket_limit : ℕ
ticket_limit = 256

-- so many stand
abbrev pub are_all_out : Machine → Bool
are_all_out m = nat_le ticket_limit (length m.tickets)

-- ---- changes of one scenario, or of one ticket

-- the scenarios, that with this id changed
abbrev pub changed : ℕ → (Progress → Progress) → List Progress → List Progress
changed id change progress = map (λ p. if p.id == id then change p else p) progress

-- without the ticket of this number
abbrev pub closed : ℕ → List Ticket → List Ticket
closed number tickets = filter (λ t. not (t.number == number)) tickets

-- a newer version is published, an older one isn't
abbrev pub publish : ℕ → Progress → Progress
publish v p = if is_below p.published v then record p { published = Some v } else p

-- ---- the calls

-- an edit that is accepted makes the next version; one that isn't is answered with its first fault
abbrev pub edit_reply : LogEdit → Machine → Reply
edit_reply edit m = elim (fault_of edit (current m)) [ Some fault ↦ reply.EditRefused fault | None ↦ reply.Edited (version m + 1) ]

abbrev pub after_edit : LogEdit → Machine → Machine
after_edit edit m = if is_some (fault_of edit (current m)) then m else record m { edits = m.edits ++ edit ∷ [] }

-- a scenario that is added stands behind the others, under the next id; nothing is published for it
abbrev pub add_reply : List ℕ → Machine → Reply
add_reply name m = elim (add_fault name m.listing) [ Some fault ↦ reply.AddRefused fault | None ↦ reply.Added m.listing.next ]

abbrev pub fresh : ℕ → Progress
fresh id = record { id = id; published = None; mark = None }

abbrev pub after_add : List ℕ → ScenarioView → Machine → Machine
after_add name scenario m =
    if is_some (add_fault name m.listing) then m
    else record m { listing = with_scenario name scenario m.listing; progress = m.progress ++ fresh m.listing.next ∷ [] }

-- a scenario that is dropped takes its tickets with it
abbrev pub drop_reply : List ℕ → Machine → Reply
drop_reply name m = elim (id_of name m.listing) [ None ↦ reply.NoSuchScenario | Some id ↦ reply.Dropped id ]

abbrev pub dropped : List ℕ → ℕ → Machine → Machine
dropped name id m = record m {
  listing = without_scenario name m.listing;
  progress = filter (λ p. not (p.id == id)) m.progress;
  tickets = filter (λ t. not (t.id == id)) m.tickets;
}

abbrev pub after_drop : List ℕ → Machine → Machine
after_drop name m = elim (id_of name m.listing) [ None ↦ m | Some id ↦ dropped name id m ]

-- a retry takes the mark away
abbrev pub retry_reply : ℕ → Machine → Reply
retry_reply id m = if is_some (progress_of id m.progress) then reply.Retried else reply.NoSuchScenario

abbrev pub after_retry : ℕ → Machine → Machine
after_retry id m = record m { progress = changed id (λ p. record p { mark = None }) m.progress }

-- a claim gives the next ticket to the first scenario that is due, at the current version; what is published is its base
abbrev pub claim_reply : Machine → Reply
claim_reply m = elim (due m) [ None ↦ reply.NoneDue | Some p ↦ if are_all_out m then reply.TooManyTickets else reply.Claimed m.next_ticket p.id (version m) p.published ]

abbrev pub after_claim : Machine → Machine
after_claim m = elim (due m) [
  | None ↦ m
  | Some p ↦ if are_all_out m then m
      else record m { tickets = m.tickets ++ record { number = m.next_ticket; id = p.id; version = version m } ∷ []; next_ticket = m.next_ticket + 1 }
]

-- a run that fits a standing ticket closes it, and is published where nothing as new is; a stranger leaves the ticket
abbrev pub finish_reply_at : Ticket → Machine → Reply
finish_reply_at t m =
    if is_below (published_of t.id m.progress) t.version then reply.Finished t.version
    else reply.Stale (unwrap_or (published_of t.id m.progress) 0)

abbrev pub finish_reply : ℕ → Bool → Machine → Reply
finish_reply number fits m = elim (ticket_of number m.tickets) [ None ↦ reply.UnknownTicket | Some t ↦ if fits then finish_reply_at t m else reply.Stranger ]

abbrev pub after_finish : ℕ → Bool → Machine → Machine
after_finish number fits m = elim (ticket_of number m.tickets) [
  | None ↦ m
  | Some t ↦ if fits then record m { progress = changed t.id (publish t.version) m.progress; tickets = closed number m.tickets } else m
]

-- a ticket that is given up is closed; one of the current version marks its scenario
abbrev pub give_up_reply : ℕ → Machine → Reply
give_up_reply number m = if is_some (ticket_of number m.tickets) then reply.GivenUp else reply.UnknownTicket

abbrev pub marked : Ticket → Machine → List Progress
marked t m = if t.version == version m then changed t.id (λ p. record p { mark = Some t.version }) m.progress else m.progress

abbrev pub after_give_up : ℕ → Machine → Machine
after_give_up number m = elim (ticket_of number m.tickets) [ None ↦ m | Some t ↦ record m { progress = marked t m; tickets = closed number m.tickets } ]

-- a view shows what is published, unless the caller has seen a newer version; it changes nothing
abbrev pub view_reply_at : ℕ → Option ℕ → Reply
view_reply_at seen None = reply.NotYet
view_reply_at seen (Some found) = if nat_lt found seen then reply.Behind seen found else reply.Shown found

abbrev pub view_reply : ℕ → ℕ → Machine → Reply
view_reply id seen m = elim (progress_of id m.progress) [ None ↦ reply.NoSuchScenario | Some p ↦ view_reply_at seen p.published ]

-- ---- a step

-- what a call replies
abbrev pub reply_to : BookCall → Machine → Reply
reply_to (Edit edit) m = edit_reply edit m
reply_to (AddScenario name scenario) m = add_reply name m
reply_to (DropScenario name) m = drop_reply name m
reply_to (Retry id) m = retry_reply id m
reply_to Claim m = claim_reply m
reply_to (Finish number fits) m = finish_reply number fits m
reply_to (GiveUp number) m = give_up_reply number m
reply_to (View id seen) m = view_reply id seen m

-- what it changes
abbrev pub changed_by : BookCall → Machine → Machine
changed_by (Edit edit) m = after_edit edit m
changed_by (AddScenario name scenario) m = after_add name scenario m
changed_by (DropScenario name) m = after_drop name m
changed_by (Retry id) m = after_retry id m
changed_by Claim m = after_claim m
changed_by (Finish number fits) m = after_finish number fits m
changed_by (GiveUp number) m = after_give_up number m
changed_by (View id seen) m = m

-- the state after a call, which is noted
abbrev pub noted : Machine → Machine
noted m = record m { notes = m.notes + 1 }

abbrev pub after : BookCall → Machine → Machine
after call m = noted (changed_by call m)

-- the most notes of a journal
abbrev pub note_limit : ℕ
note_limit = 1000000

-- ---- how far all scenarios are

-- a version is published that is at least the one seen
abbrev pub is_good : ℕ → Progress → Bool
is_good seen p = not (is_below p.published seen)

-- it is not, and will not be before a retry or an edit
abbrev pub is_failed : ℕ → Machine → Progress → Bool
is_failed seen m p = is_marked m p && nat_le seen (version m)

abbrev pub is_waiting : ℕ → Machine → Progress → Bool
is_waiting seen m p = not (is_good seen p) && not (is_failed seen m p)

-- how many scenarios show no version that is new enough
abbrev pub behind : ℕ → Machine → ℕ
behind seen m = count_by (λ p. not (is_good seen p)) m.progress

-- a scenario is waited for; or else so many have failed; or all are good
abbrev pub settled : ℕ → Machine → SettleState
settled seen m =
    if list_any (is_waiting seen m) m.progress then settle.Waiting
    else (if behind seen m == 0 then settle.Done else settle.Failed (behind seen m))
