-- No step of the machine makes a published version older, or gives an id again.
use Rattle.std.proofs.Common.{◌≡◌, ℕ, ◌+◌, ◌<◌, ◌≤◌, ◌==◌, List, [], ◌∷◌, ◌++◌, Bool, true, false, cond, Option, None, Some, is_some, refl, arith}
use Rattle.job_table.specs.Edit.{LogEdit, fault_of}
use Rattle.scenarios.specs.Scenario.{ScenarioView}
use Rattle.scenarios.specs.ScenarioList.{add_fault, id_of, with_scenario}
use Rattle.book_machine.specs.Call.{BookCall, Edit, AddScenario, DropScenario, Retry, Claim, Finish, GiveUp, View}
use Rattle.book_machine.specs.Machine.{Machine, Progress, Ticket, version, current, progress_of, ticket_of, changed, publish, marked, fresh, closed, due, dropped, are_all_out, changed_by, after}
use Rattle.book_machine.specs.History.{Noted, after_all}
use Rattle.book_machine.proofs.Later.{GoesOn, GoesOn-refl, GoesOn-trans, IsNoOlder-refl, goes_on-changed, goes_on-dropped, goes_on-end, publish_id, publish_newer}

pub record Goes (id : ℕ) (old new : Machine) : Type 0 where
  pub on : GoesOn (progress_of id old.progress) (progress_of id new.progress)
  pub next : old.listing.next ≤ new.listing.next

stays : (id : ℕ) (m : Machine) → Goes id m m
stays id m = record { on = GoesOn-refl (progress_of id m.progress); next = omega arith }

edit_goes : (id : ℕ) (m : Machine) (edit : LogEdit) (b : Bool) → Goes id m (cond b m (record m { edits = m.edits ++ edit ∷ [] }))
edit_goes id m edit true = stays id m
edit_goes id m edit false = record { on = GoesOn-refl (progress_of id m.progress); next = omega arith }

add_goes : (id : ℕ) (m : Machine) (name : List ℕ) (scenario : ScenarioView) (b : Bool) → id < m.listing.next → Goes id m (cond b m (record m { listing = with_scenario name scenario m.listing; progress = m.progress ++ fresh m.listing.next ∷ [] }))
add_goes id m name scenario true lt = stays id m
add_goes id m name scenario false lt = record { on = goes_on-end id m.listing.next lt m.progress; next = omega arith }

drop_goes : (id : ℕ) (m : Machine) (name : List ℕ) (o : Option ℕ) → Goes id m (elim o [ None ↦ m | Some k ↦ dropped name k m ])
drop_goes id m name None = stays id m
drop_goes id m name (Some k) = record { on = goes_on-dropped id k m.progress; next = omega arith }

retry_goes : (id : ℕ) (m : Machine) (k : ℕ) → Goes id m (record m { progress = changed k (λ p. record p { mark = None }) m.progress })
retry_goes id m k = record { on = goes_on-changed id k (λ p. record p { mark = None }) (λ p. refl) (λ p. IsNoOlder-refl p.published) m.progress; next = omega arith }

claim_goes : (id : ℕ) (m : Machine) (o : Option Progress) (b : Bool) → Goes id m (elim o [ None ↦ m | Some p ↦ cond b m (record m { tickets = m.tickets ++ record { number = m.next_ticket; id = p.id; version = version m } ∷ []; next_ticket = m.next_ticket + 1 }) ])
claim_goes id m None b = stays id m
claim_goes id m (Some p) true = stays id m
claim_goes id m (Some p) false = record { on = GoesOn-refl (progress_of id m.progress); next = omega arith }

finish_goes : (id : ℕ) (m : Machine) (number : ℕ) (fits : Bool) (o : Option Ticket) → Goes id m (elim o [ None ↦ m | Some t ↦ cond fits (record m { progress = changed t.id (publish t.version) m.progress; tickets = closed number m.tickets }) m ])
finish_goes id m number fits None = stays id m
finish_goes id m number true (Some t) = record { on = goes_on-changed id t.id (publish t.version) (publish_id t.version) (publish_newer t.version) m.progress; next = omega arith }
finish_goes id m number false (Some t) = stays id m

marked_goes : (id : ℕ) (m : Machine) (t : Ticket) (b : Bool) → GoesOn (progress_of id m.progress) (progress_of id (cond b (changed t.id (λ p. record p { mark = Some t.version }) m.progress) m.progress))
marked_goes id m t true = goes_on-changed id t.id (λ p. record p { mark = Some t.version }) (λ p. refl) (λ p. IsNoOlder-refl p.published) m.progress
marked_goes id m t false = GoesOn-refl (progress_of id m.progress)

give_up_goes : (id : ℕ) (m : Machine) (number : ℕ) (o : Option Ticket) → Goes id m (elim o [ None ↦ m | Some t ↦ record m { progress = marked t m; tickets = closed number m.tickets } ])
give_up_goes id m number None = stays id m
give_up_goes id m number (Some t) = record { on = marked_goes id m t (t.version == version m); next = omega arith }

step_goes : (id : ℕ) (m : Machine) (call : BookCall) → id < m.listing.next → Goes id m (changed_by call m)
step_goes id m (Edit edit) lt = edit_goes id m edit (is_some (fault_of edit (current m)))
step_goes id m (AddScenario name scenario) lt = add_goes id m name scenario (is_some (add_fault name m.listing)) lt
step_goes id m (DropScenario name) lt = drop_goes id m name (id_of name m.listing)
step_goes id m (Retry k) lt = retry_goes id m k
step_goes id m Claim lt = claim_goes id m (due m) (are_all_out m)
step_goes id m (Finish number fits) lt = finish_goes id m number fits (ticket_of number m.tickets)
step_goes id m (GiveUp number) lt = give_up_goes id m number (ticket_of number m.tickets)
step_goes id m (View k seen) lt = stays id m

-- over a history, the scenario of an id that was given goes on, or is gone, and the next id never goes down
pub all_goes : (id : ℕ) (m : Machine) (notes : List Noted) → id < m.listing.next → Goes id m (after_all m notes)
all_goes id m [] lt = stays id m
all_goes id m (note ∷ notes) lt =
    let first = step_goes id m note.call lt in
    let bound : id < (changed_by note.call m).listing.next = let n = first.next in omega (arith, lt, n) in
    let rest : Goes id (after note.call m) (after_all (after note.call m) notes) = all_goes id (after note.call m) notes bound in
    record {
      on = GoesOn-trans (progress_of id m.progress) (progress_of id (changed_by note.call m).progress) (progress_of id (after_all (after note.call m) notes).progress) first.on rest.on;
      next = let a = first.next in let b = rest.next in omega (arith, a, b);
    }

-- the state after some calls and more is that after the more, from the state after the first
pub after_all-append : (m : Machine) (notes more : List Noted) → after_all m (notes ++ more) ≡ after_all (after_all m notes) more
after_all-append m [] more = refl
after_all-append m (note ∷ notes) more = after_all-append (after note.call m) notes more
