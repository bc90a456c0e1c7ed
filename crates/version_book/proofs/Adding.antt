-- Each listed scenario was added by a call that is noted, under its name and with its id as the reply.
use Rattle.std.proofs.Common.{◌≡◌, ◌⊎◌, ℕ, ◌+◌, zero, suc, List, [], ◌∷◌, ◌++◌, Bool, true, false, cond, Option, None, Some, refl, sym, ◌∙◌, ap, subst, inl, inr}
use Rattle.std.specs.Prelude.{is_some, slice_get}
use Rattle.job_table.specs.Edit.{fault_of}
use Rattle.scenarios.specs.declared.list_fault.AddFault.{AddFault}
use Rattle.scenarios.specs.Scenario.{ScenarioView}
use Rattle.scenarios.specs.ScenarioList.{Listed, add_fault, has_name, id_of, with_scenario, without}
use Rattle.book_machine.specs.declared.reply.Reply.TheVariants as reply
use Rattle.book_machine.specs.Call.{BookCall, Edit, AddScenario, DropScenario, Retry, Claim, Finish, GiveUp, View}
use Rattle.book_machine.specs.Machine.{Machine, Progress, Ticket, opened, version, current, fresh, dropped, due, are_all_out, changed, closed, publish, marked, ticket_of, reply_to, changed_by, after}
use Rattle.book_machine.specs.History.{Noted, IsLegal, after_all}
use Rattle.version_book.specs.Book.{BookView}
use Rattle.version_book.specs.MainTheorem.{IsAddedIn}
use Rattle.version_book.specs.Sound.{IsBook}

abbrev In : Listed → List Listed → Type 0
In s [] = ⊥
In s (t ∷ ts) = (t ≡ s) ⊎ In s ts

in-at : (s : Listed) (ts : List Listed) (k : ℕ) → slice_get ts k ≡ Some s → In s ts
in-at s [] k is = cc
in-at s (t ∷ ts) zero is = let e : t ≡ s = cc in inl e
in-at s (t ∷ ts) (suc k) is = inr (in-at s ts k is)

in-push : (s new : Listed) (ts : List Listed) → In s (ts ++ new ∷ []) → In s ts ⊎ (new ≡ s)
in-push s new [] (inl e) = inr e
in-push s new [] (inr none) = absurd none
in-push s new (t ∷ ts) (inl e) = inl (inl e)
in-push s new (t ∷ ts) (inr h) = go (in-push s new ts h)
  where
    go : In s ts ⊎ (new ≡ s) → In s (t ∷ ts) ⊎ (new ≡ s)
    go (inl i) = inl (inr i)
    go (inr e) = inr e

in-without : (name : List ℕ) (s : Listed) (ts : List Listed) → In s (without name ts) → In s ts
in-without name s [] h = h
in-without name s (t ∷ ts) h = go (has_name name t) h (in-without name s ts)
  where
    go : (b : Bool) → In s (cond b ts (t ∷ without name ts)) → (In s (without name ts) → In s ts) → In s (t ∷ ts)
    go true i more = inr i
    go false (inl e) more = inl e
    go false (inr i) more = inr (more i)

abbrev IsNew : Machine → BookCall → Listed → Type 0
IsNew m call s = (call ≡ AddScenario s.name s.scenario) × (reply_to call m ≡ reply.Added s.id)

abbrev Keeps : Listed → Machine → Machine → Type 0
Keeps s m k = In s k.listing.scenarios → In s m.listing.scenarios

both : (s : Listed) (m k : Machine) (b : Bool) → k.listing ≡ m.listing → Keeps s m (cond b m k)
both s m k true is h = h
both s m k false is h = subst (λ list. In s list.scenarios) is h

step-add : (m : Machine) (name : List ℕ) (scenario : ScenarioView) (s : Listed) (o : Option AddFault)
    → In s (cond (is_some o) m (record m { listing = with_scenario name scenario m.listing; progress = m.progress ++ fresh m.listing.next ∷ [] })).listing.scenarios
    → In s m.listing.scenarios ⊎ ((AddScenario name scenario ≡ AddScenario s.name s.scenario) × ((elim o [ Some fault ↦ reply.AddRefused fault | None ↦ reply.Added m.listing.next ]) ≡ reply.Added s.id))
step-add m name scenario s (Some fault) h = inl h
step-add m name scenario s None h = go (in-push s new m.listing.scenarios h)
  where
    new : Listed
    new = record { name = name; id = m.listing.next; scenario = scenario }

    go : In s m.listing.scenarios ⊎ (new ≡ s) → In s m.listing.scenarios ⊎ ((AddScenario name scenario ≡ AddScenario s.name s.scenario) × (reply.Added m.listing.next ≡ reply.Added s.id))
    go (inl i) = inl i
    go (inr e) = inr (ap (λ (t : Listed). AddScenario t.name t.scenario) e, ap (λ (t : Listed). reply.Added t.id) e)

step-drop : (m : Machine) (name : List ℕ) (s : Listed) (o : Option ℕ) → Keeps s m (elim o [ None ↦ m | Some id ↦ dropped name id m ])
step-drop m name s None h = h
step-drop m name s (Some id) h = in-without name s m.listing.scenarios h

step-claim : (m : Machine) (s : Listed) (o : Option Progress) → Keeps s m (elim o [ None ↦ m | Some p ↦ cond (are_all_out m) m (record m { tickets = m.tickets ++ record { number = m.next_ticket; id = p.id; version = version m } ∷ []; next_ticket = m.next_ticket + 1 }) ])
step-claim m s None h = h
step-claim m s (Some p) h = both s m (record m { tickets = m.tickets ++ record { number = m.next_ticket; id = p.id; version = version m } ∷ []; next_ticket = m.next_ticket + 1 }) (are_all_out m) refl h

step-finish : (m : Machine) (n : ℕ) (fits : Bool) (s : Listed) (o : Option Ticket) → Keeps s m (elim o [ None ↦ m | Some t ↦ cond fits (record m { progress = changed t.id (publish t.version) m.progress; tickets = closed n m.tickets }) m ])
step-finish m n fits s None h = h
step-finish m n true s (Some t) h = h
step-finish m n false s (Some t) h = h

step-give_up : (m : Machine) (n : ℕ) (s : Listed) (o : Option Ticket) → Keeps s m (elim o [ None ↦ m | Some t ↦ record m { progress = marked t m; tickets = closed n m.tickets } ])
step-give_up m n s None h = h
step-give_up m n s (Some t) h = h

step : (m : Machine) (call : BookCall) (s : Listed) → In s (changed_by call m).listing.scenarios → In s m.listing.scenarios ⊎ IsNew m call s
step m (Edit e) s h = inl (both s m (record m { edits = m.edits ++ e ∷ [] }) (is_some (fault_of e (current m))) refl h)
step m (AddScenario name scenario) s h = step-add m name scenario s (add_fault name m.listing) h
step m (DropScenario name) s h = inl (step-drop m name s (id_of name m.listing) h)
step m (Retry id) s h = inl h
step m Claim s h = inl (step-claim m s (due m) h)
step m (Finish n fits) s h = inl (step-finish m n fits s (ticket_of n m.tickets) h)
step m (GiveUp n) s h = inl (step-give_up m n s (ticket_of n m.tickets) h)
step m (View id seen) s h = inl h

all-added : (m : Machine) (notes : List Noted) (s : Listed) → IsLegal m notes → In s (after_all m notes).listing.scenarios → In s m.listing.scenarios ⊎ IsAddedIn notes s
all-added m [] s legal h = inl h
all-added m (note ∷ notes) s legal h = go (all-added (after note.call m) notes s legal.2 h)
  where
    first : In s m.listing.scenarios ⊎ IsNew m note.call s → In s m.listing.scenarios ⊎ IsAddedIn (note ∷ notes) s
    first (inl i) = inl i
    first (inr e) = inr (record { place = zero; note = note; noted = refl; call = e.0; reply = legal.1 ∙ e.1 })

    go : In s (after note.call m).listing.scenarios ⊎ IsAddedIn notes s → In s m.listing.scenarios ⊎ IsAddedIn (note ∷ notes) s
    go (inl i) = first (step m note.call s i)
    go (inr a) = inr (record { place = suc a.place; note = a.note; noted = a.noted; call = a.call; reply = a.reply })

-- each scenario that a book lists was added by a call of its journal
pub was-added : (b : BookView) (k : ℕ) (s : Listed) → IsBook b → slice_get b.state.listing.scenarios k ≡ Some s → IsAddedIn b.journal s
was-added b k s h is = go (all-added (opened b.state.opening) b.journal s h.legal (subst (λ (m : Machine). In s m.listing.scenarios) (sym h.led) (in-at s b.state.listing.scenarios k is)))
  where
    go : ⊥ ⊎ IsAddedIn b.journal s → IsAddedIn b.journal s
    go (inl none) = absurd none
    go (inr a) = a
