-- The steps of the sessions' calls: edits, scenarios that are added or dropped, retries and views, answered as the machine answers them.
use Rattle.std.proofs.Common.{◌≡◌, ℕ, ◌+◌, ◌≤◌, ◌<◌, ◌==◌, List, [], ◌∷◌, ◌++◌, length, map, refl, sym, ◌∙◌, ap, ap₂, subst, Bool, true, false, not, cond, arith, length-append}
use Rattle.std.specs.Prelude.{Option, None, Some, Result, Err, MatchOption, IfSome, find, filter, is_some, nat_lt}
use Rattle.std.specs.Option.{option_map}
use Rattle.std.proofs.lemmas.Bool.Decides.{nat_tests}
use Rattle.std.proofs.lemmas.List.{map-append}
use Rattle.std.proofs.lemmas.List.Elements.{All-push, All-filter, All-weaker}
use Rattle.swf_text.specs.Entry.{LogEntry}
use Rattle.job_table.specs.declared.fault.EditFault.{EditFault}
use Rattle.job_table.specs.Accepted.{IsEdit}
use Rattle.job_table.specs.Edit.{LogEdit, applied, fault_of, log_after}
use Rattle.scenarios.specs.declared.list_fault.AddFault.{AddFault}
use Rattle.scenarios.specs.declared.list_fault.AddFault.TheVariants as faults
use Rattle.scenarios.specs.Scenario.{ScenarioView}
use Rattle.scenarios.specs.ScenarioList.{Listing, add_fault, id_of, with_scenario, without_scenario}
use Rattle.book_machine.specs.declared.reply.Reply.{Reply}
use Rattle.book_machine.specs.declared.reply.Reply.TheVariants as reply
use Rattle.book_machine.specs.Call.{Edit, AddScenario, DropScenario, Retry, View}
use Rattle.book_machine.specs.Machine.{Machine, Progress, fresh, changed, dropped, progress_of, view_reply_at}
use Rattle.tasks.specs.Published.{PublishedView}
use Rattle.tasks.specs.Tickets.{TicketView}
use Rattle.version_book.specs.Book.{ShownView, StateView, machine_at, progress_of_shown, ticket_of_view}
use Rattle.version_book.specs.Sound.{IsSound, IsOfItsVersion, IsTicketOfItsVersion, IsTicketOfItsScenario}
use Rattle.version_book.specs.Answers.{add_answer, refusal_of}
use Rattle.version_book.specs.Steps.{IsStep, Does}
use Rattle.version_book.specs.Lookups.{has_id, unmarking, with_change}
use Rattle.version_book.specs.Tasks.{IsShownFor}
use Rattle.version_book.proofs.Keeping.{keeps-added, keeps-change, keeps-left, keeps-same}
use Rattle.version_book.proofs.Lists.{filter-map, find-All, length-filter-le}
use Rattle.version_book.proofs.Logs.{AreAccepted-append, log_after-append, log_at-stays}
use Rattle.version_book.proofs.Ids.{ids-push, ids-without, listed-push, listed-without, without-none}
use Rattle.version_book.proofs.Stepping.{still, progress-shown, change-progress, change-sound, all-always, some-of}

abbrev edit_replied : ℕ → Option EditFault → Reply
edit_replied v o = elim o [ Some fault ↦ reply.EditRefused fault | None ↦ reply.Edited (v + 1) ]

abbrev edit_changed : LogEdit → Machine → Option EditFault → Machine
edit_changed e m o = cond (is_some o) m (record m { edits = m.edits ++ e ∷ [] })

fault-now : (s : StateView) (e : LogEdit) (o : Option EditFault) → IsSound s → fault_of e s.current ≡ o → fault_of e (log_after s.opening s.edits) ≡ o
fault-now s e o h is = ap (fault_of e) (sym h.current) ∙ is

published-stays : (s : StateView) (e : LogEdit) (under : ScenarioView) (o : Option PublishedView) → IfSome o (IsOfItsVersion s.opening s.edits under) → IfSome o (IsOfItsVersion s.opening (s.edits ++ e ∷ []) under)
published-stays s e under None h = h
published-stays s e under (Some p) h = record { made = omega (arith, h.made, length-append s.edits (e ∷ [])); log = h.log ∙ sym (log_at-stays s.opening s.edits e p.version h.made); scenario = h.scenario; run = h.run }

ticket-stays : (s : StateView) (e : LogEdit) (t : TicketView) → IsTicketOfItsVersion s.opening s.edits t → IsTicketOfItsVersion s.opening (s.edits ++ e ∷ []) t
ticket-stays s e t h = record { made = omega (arith, h.made, length-append s.edits (e ∷ [])); log = h.log ∙ sym (log_at-stays s.opening s.edits e t.version h.made) }

abbrev edited_state : StateView → LogEdit → List LogEntry → StateView
edited_state s e log = record s { edits = s.edits ++ e ∷ []; current = log }

edit-sound : (s : StateView) (e : LogEdit) → IsSound s → IsEdit e → fault_of e s.current ≡ None → IsSound (edited_state s e (applied e s.current))
edit-sound s e h one is = record {
  spacing = h.spacing;
  opening = h.opening;
  accepted = AreAccepted-append s.opening s.edits (e ∷ []) h.accepted (one, fault-now s e None h is, tt);
  current = ap (applied e) h.current ∙ sym (log_after-append s.opening s.edits (e ∷ []));
  listed = h.listed;
  ids = h.ids;
  runs = All-weaker (λ (x : ShownView). IfSome x.published (IsOfItsVersion s.opening s.edits x.scenario)) (λ (x : ShownView). IfSome x.published (IsOfItsVersion s.opening (s.edits ++ e ∷ []) x.scenario)) (λ x. published-stays s e x.scenario x.published) s.shown h.runs;
  tickets = All-weaker (IsTicketOfItsVersion s.opening s.edits) (IsTicketOfItsVersion s.opening (s.edits ++ e ∷ [])) (ticket-stays s e) s.tickets h.tickets;
  claimed = h.claimed;
  few = h.few;
}

edit-step : (s : StateView) (e : LogEdit) → IsSound s → IsEdit e → fault_of e s.current ≡ None → IsStep s (edited_state s e (applied e s.current)) (Edit e) (reply.Edited (length s.edits + 1))
edit-step s e h one is =
    let now = fault-now s e None h is in
    record {
      reply = λ n. sym (ap (edit_replied (length s.edits)) now);
      state = λ n. sym (ap (edit_changed e (machine_at n s)) now);
      spacing = refl;
      runs = keeps-same s (edited_state s e (applied e s.current)) (reply.Edited (length s.edits + 1)) refl;
      sound = edit-sound s e h one is;
    }

-- an edit without fault, put behind the others, with its log and the next version, is a step of the machine
pub edit-accepted : (s : StateView) (e : LogEdit) (es : List LogEdit) (log : List LogEntry) (v : ℕ) → IsSound s → IsEdit e → fault_of e s.current ≡ None → es ≡ s.edits ++ e ∷ [] → log ≡ applied e s.current → v ≡ length s.edits + 1 → IsStep s (record s { edits = es; current = log }) (Edit e) (reply.Edited v)
edit-accepted s e es log v h one is es_is log_is v_is =
    let P : List LogEdit → Type 0 = λ fs. IsStep s (record s { edits = fs; current = log }) (Edit e) (reply.Edited v) in
    let Q : List LogEntry → Type 0 = λ l. IsStep s (record s { edits = s.edits ++ e ∷ []; current = l }) (Edit e) (reply.Edited v) in
    let R : ℕ → Type 0 = λ w. IsStep s (edited_state s e (applied e s.current)) (Edit e) (reply.Edited w) in
    subst P (sym es_is) (subst Q (sym log_is) (subst R (sym v_is) (edit-step s e h one is)))

abbrev add_replied : ℕ → Option AddFault → Reply
add_replied next o = elim o [ Some fault ↦ reply.AddRefused fault | None ↦ reply.Added next ]

abbrev add_changed : List ℕ → ScenarioView → Machine → Option AddFault → Machine
add_changed name scenario m o = cond (is_some o) m (record m { listing = with_scenario name scenario m.listing; progress = m.progress ++ fresh m.listing.next ∷ [] })

pub add-refused : (s : StateView) (name : List ℕ) (scenario : ScenarioView) (fault : AddFault) → IsSound s → add_fault name s.listing ≡ Some fault → IsStep s s (AddScenario name scenario) (reply.AddRefused fault)
add-refused s name scenario fault h is = still s (AddScenario name scenario) (reply.AddRefused fault) h (λ n. sym (ap (add_replied s.listing.next) is)) (λ n. sym (ap (add_changed name scenario (machine_at n s)) is))

abbrev AddAnswered : StateView → List ℕ → ScenarioView → Listing → AddFault → Type 0
AddAnswered s name scenario list fault = Does s (record s { listing = list }) (AddScenario name scenario) (add_answer (Err (refusal_of fault)))

add-some : (s : StateView) (name : List ℕ) (scenario : ScenarioView) (fault : AddFault) (list : Listing) → IsSound s → list ≡ s.listing → add_fault name s.listing ≡ Some fault → AddAnswered s name scenario list fault
add-some s name scenario faults.BadName list h list_is is = subst (λ (l : Listing). AddAnswered s name scenario l faults.BadName) (sym list_is) (add-refused s name scenario faults.BadName h is)
add-some s name scenario faults.NameTaken list h list_is is = subst (λ (l : Listing). AddAnswered s name scenario l faults.NameTaken) (sym list_is) (add-refused s name scenario faults.NameTaken h is)
add-some s name scenario faults.TooMany list h list_is is = subst (λ (l : Listing). AddAnswered s name scenario l faults.TooMany) (sym list_is) (add-refused s name scenario faults.TooMany h is)
add-some s name scenario faults.Memory list h list_is is = ap (λ (l : Listing). let t : StateView = record s { listing = l } in t) list_is

-- where a scenario is not added, and the listing stays, the fault of the list, or out of memory where it has none, is the right answer
pub add-outcome : (s : StateView) (name : List ℕ) (scenario : ScenarioView) (fault : AddFault) (list : Listing) (o : Option AddFault) → IsSound s → list ≡ s.listing → add_fault name s.listing ≡ o → MatchOption o (fault ≡ faults.Memory) (λ f. fault ≡ f) → AddAnswered s name scenario list fault
add-outcome s name scenario fault list None h list_is is outcome =
    subst (λ (f : AddFault). AddAnswered s name scenario list f) (sym outcome) (ap (λ (l : Listing). let t : StateView = record s { listing = l } in t) list_is)
add-outcome s name scenario fault list (Some f) h list_is is outcome = add-some s name scenario fault list h list_is (is ∙ ap (λ (e : AddFault). Some e) (sym outcome))

-- a fault whose result is that of another is that other; where there is no other, it is out of memory
pub match-outcome : (R : Type 0) {E : Type 0} (o : Option E) (fault : E) (memory : E) → MatchOption o (fault ≡ memory) (λ (f : E). ◌≡◌ {A = Result R E} (Err fault) (Err f)) → MatchOption o (fault ≡ memory) (λ (f : E). fault ≡ f)
match-outcome R None fault memory h = h
match-outcome R (Some f) fault memory h = cc

abbrev fresh_shown : ℕ → ScenarioView → ShownView
fresh_shown id scenario = record { id = id; scenario = scenario; published = None; mark = None }

ticket-older : (s : StateView) (scenario : ScenarioView) (t : TicketView) → IsTicketOfItsScenario s.shown s.listing.next t → IsTicketOfItsScenario (s.shown ++ fresh_shown s.listing.next scenario ∷ []) (s.listing.next + 1) t
ticket-older s scenario t h = record {
  scenario = All-push (λ (x : ShownView). x.id ≡ t.id → x.scenario ≡ t.scenario) s.shown (fresh_shown s.listing.next scenario) h.scenario (λ e. absurd (omega (arith, h.given)));
  given = omega (arith, h.given);
}

abbrev added_state : StateView → List ℕ → ScenarioView → StateView
added_state s name scenario = record s { listing = with_scenario name scenario s.listing; shown = s.shown ++ fresh_shown s.listing.next scenario ∷ [] }

add-sound : (s : StateView) (name : List ℕ) (scenario : ScenarioView) → IsSound s → IsSound (added_state s name scenario)
add-sound s name scenario h = record {
  spacing = h.spacing;
  opening = h.opening;
  accepted = h.accepted;
  current = h.current;
  listed = listed-push s.shown s.listing (fresh_shown s.listing.next scenario) name h.listed refl;
  ids = ids-push 1 s.listing.scenarios s.listing.next name scenario h.ids;
  runs = All-push (λ (x : ShownView). IfSome x.published (IsOfItsVersion s.opening s.edits x.scenario)) s.shown (fresh_shown s.listing.next scenario) h.runs tt;
  tickets = h.tickets;
  claimed = All-weaker (IsTicketOfItsScenario s.shown s.listing.next) (IsTicketOfItsScenario (s.shown ++ fresh_shown s.listing.next scenario ∷ []) (s.listing.next + 1)) (ticket-older s scenario) s.tickets h.claimed;
  few = h.few;
}

add-step : (s : StateView) (name : List ℕ) (scenario : ScenarioView) → IsSound s → add_fault name s.listing ≡ None → IsStep s (added_state s name scenario) (AddScenario name scenario) (reply.Added s.listing.next)
add-step s name scenario h is = record {
  reply = λ n. sym (ap (add_replied s.listing.next) is);
  state = λ n. ap (λ (ps : List Progress). let m : Machine = record (machine_at n s) { listing = with_scenario name scenario s.listing; progress = ps } in m) (map-append progress_of_shown s.shown (fresh_shown s.listing.next scenario ∷ [])) ∙ sym (ap (add_changed name scenario (machine_at n s)) is);
  spacing = refl;
  runs = keeps-added s (added_state s name scenario) (reply.Added s.listing.next) (fresh_shown s.listing.next scenario) refl refl;
  sound = add-sound s name scenario h;
}

-- a scenario without fault, put behind the others under the next id, with nothing published, is a step of the machine
pub add-accepted : (s : StateView) (name : List ℕ) (scenario : ScenarioView) (id : ℕ) (list : Listing) (xs : List ShownView) → IsSound s → add_fault name s.listing ≡ None → id ≡ s.listing.next → list ≡ with_scenario name scenario s.listing → xs ≡ s.shown ++ fresh_shown id scenario ∷ [] → IsStep s (record s { listing = list; shown = xs }) (AddScenario name scenario) (reply.Added id)
add-accepted s name scenario id list xs h is id_is list_is xs_is =
    let P : List ShownView → Type 0 = λ ys. IsStep s (record s { listing = list; shown = ys }) (AddScenario name scenario) (reply.Added id) in
    let Q : Listing → Type 0 = λ l. IsStep s (record s { listing = l; shown = s.shown ++ fresh_shown id scenario ∷ [] }) (AddScenario name scenario) (reply.Added id) in
    let R : ℕ → Type 0 = λ i. IsStep s (record s { listing = with_scenario name scenario s.listing; shown = s.shown ++ fresh_shown i scenario ∷ [] }) (AddScenario name scenario) (reply.Added i) in
    subst P (sym xs_is) (subst Q (sym list_is) (subst R (sym id_is) (add-step s name scenario h is)))

abbrev drop_replied : Option ℕ → Reply
drop_replied o = elim o [ None ↦ reply.NoSuchScenario | Some id ↦ reply.Dropped id ]

abbrev drop_changed : List ℕ → Machine → Option ℕ → Machine
drop_changed name m o = elim o [ None ↦ m | Some id ↦ dropped name id m ]

-- a drop by a name that no scenario has is a step of the machine that changes nothing
pub drop-refused : (s : StateView) (name : List ℕ) (list : Listing) → IsSound s → id_of name s.listing ≡ None → list ≡ without_scenario name s.listing → IsStep s (record s { listing = list }) (DropScenario name) reply.NoSuchScenario
drop-refused s name list h is list_is =
    let P : Listing → Type 0 = λ l. IsStep s (record s { listing = l }) (DropScenario name) reply.NoSuchScenario in
    subst P (sym (list_is ∙ without-none name s.listing is)) (still s (DropScenario name) reply.NoSuchScenario h (λ n. sym (ap drop_replied is)) (λ n. sym (ap (drop_changed name (machine_at n s)) is)))

abbrev not_of : ℕ → TicketView → Bool
not_of id t = not (t.id == id)

abbrev not_this : ℕ → ShownView → Bool
not_this id x = not (has_id id x)

abbrev dropped_state : StateView → List ℕ → ℕ → StateView
dropped_state s name id = record s { listing = without_scenario name s.listing; shown = filter (not_this id) s.shown; tickets = filter (not_of id) s.tickets }

ticket-left : (s : StateView) (id : ℕ) (t : TicketView) → IsTicketOfItsScenario s.shown s.listing.next t → IsTicketOfItsScenario (filter (not_this id) s.shown) s.listing.next t
ticket-left s id t h = record { scenario = All-filter (not_this id) (λ (x : ShownView). x.id ≡ t.id → x.scenario ≡ t.scenario) s.shown h.scenario; given = h.given }

drop-sound : (s : StateView) (name : List ℕ) (id : ℕ) → IsSound s → id_of name s.listing ≡ Some id → IsSound (dropped_state s name id)
drop-sound s name id h is = record {
  spacing = h.spacing;
  opening = h.opening;
  accepted = h.accepted;
  current = h.current;
  listed = listed-without s.shown s.listing name id h.listed h.ids is;
  ids = ids-without name 1 s.listing.scenarios s.listing.next h.ids;
  runs = All-filter (not_this id) (λ (x : ShownView). IfSome x.published (IsOfItsVersion s.opening s.edits x.scenario)) s.shown h.runs;
  tickets = All-filter (not_of id) (IsTicketOfItsVersion s.opening s.edits) s.tickets h.tickets;
  claimed = All-filter (not_of id) (IsTicketOfItsScenario (filter (not_this id) s.shown) s.listing.next) s.tickets (All-weaker (IsTicketOfItsScenario s.shown s.listing.next) (IsTicketOfItsScenario (filter (not_this id) s.shown) s.listing.next) (ticket-left s id) s.tickets h.claimed);
  few = omega (arith, h.few, length-filter-le (not_of id) s.tickets);
}

drop-step : (s : StateView) (name : List ℕ) (id : ℕ) → IsSound s → id_of name s.listing ≡ Some id → IsStep s (dropped_state s name id) (DropScenario name) (reply.Dropped id)
drop-step s name id h is = record {
  reply = λ n. sym (ap drop_replied is);
  state = λ n. ap₂ (λ ps ts. let m : Machine = record (machine_at n s) { listing = without_scenario name s.listing; progress = ps; tickets = ts } in m) (sym (filter-map progress_of_shown (λ p. not (p.id == id)) s.shown)) (sym (filter-map ticket_of_view (λ t. not (t.id == id)) s.tickets)) ∙ sym (ap (drop_changed name (machine_at n s)) is);
  spacing = refl;
  runs = keeps-left s (dropped_state s name id) (reply.Dropped id) id refl;
  sound = drop-sound s name id h is;
}

-- a drop of the scenario of a name, with all that is shown for its id and its tickets, is a step of the machine
pub drop-accepted : (s : StateView) (name : List ℕ) (id : ℕ) (list : Listing) (xs : List ShownView) (ts : List TicketView) → IsSound s → id_of name s.listing ≡ Some id → list ≡ without_scenario name s.listing → xs ≡ filter (λ (x : ShownView). not (has_id id x)) s.shown → ts ≡ filter (λ (t : TicketView). not (t.id == id)) s.tickets → IsStep s (record s { listing = list; shown = xs; tickets = ts }) (DropScenario name) (reply.Dropped id)
drop-accepted s name id list xs ts h is list_is xs_is ts_is =
    let P : List ShownView → Type 0 = λ ys. IsStep s (record s { listing = list; shown = ys; tickets = ts }) (DropScenario name) (reply.Dropped id) in
    let Q : Listing → Type 0 = λ l. IsStep s (record s { listing = l; shown = filter (not_this id) s.shown; tickets = ts }) (DropScenario name) (reply.Dropped id) in
    let R : List TicketView → Type 0 = λ us. IsStep s (record s { listing = without_scenario name s.listing; shown = filter (not_this id) s.shown; tickets = us }) (DropScenario name) (reply.Dropped id) in
    subst P (sym xs_is) (subst Q (sym list_is) (subst R (sym ts_is) (drop-step s name id h is)))

abbrev retry_replied : Option Progress → Reply
retry_replied o = cond (is_some o) reply.Retried reply.NoSuchScenario

none-left : (id : ℕ) (f : Progress → Progress) (p : Progress) (ps : List Progress) (b : Bool) → cond b (Some p) (progress_of id ps) ≡ None → (progress_of id ps ≡ None → changed id f ps ≡ ps) → cond b (f p) p ∷ changed id f ps ≡ p ∷ ps
none-left id f p ps true is h = cc
none-left id f p ps false is h = ap (λ qs. p ∷ qs) (h is)

changed-none : (id : ℕ) (f : Progress → Progress) (ps : List Progress) → progress_of id ps ≡ None → changed id f ps ≡ ps
changed-none id f [] is = refl
changed-none id f (p ∷ ps) is = none-left id f p ps (p.id == id) is (changed-none id f ps)

-- a retry of an id that no scenario has is a step of the machine that changes nothing
pub retry-refused : (s : StateView) (id : ℕ) → IsSound s → find (has_id id) s.shown ≡ None → IsStep s s (Retry id) reply.NoSuchScenario
retry-refused s id h is =
    let none : progress_of id (map progress_of_shown s.shown) ≡ None = progress-shown id s.shown ∙ ap (option_map progress_of_shown) is in
    still s (Retry id) reply.NoSuchScenario h (λ n. sym (ap retry_replied none)) (λ n. sym (ap (λ (ps : List Progress). let m : Machine = record (machine_at n s) { progress = ps } in m) (changed-none id _ (map progress_of_shown s.shown) none)))

abbrev unmarked : Progress → Progress
unmarked p = record p { mark = None }

retry-step : (s : StateView) (id : ℕ) (x : ShownView) → IsSound s → find (has_id id) s.shown ≡ Some x → IsStep s (record s { shown = with_change id unmarking s.shown }) (Retry id) reply.Retried
retry-step s id x h is =
    let some : progress_of id (map progress_of_shown s.shown) ≡ Some (progress_of_shown x) = progress-shown id s.shown ∙ ap (option_map progress_of_shown) is in
    record {
      reply = λ n. sym (ap retry_replied some);
      state = λ n. ap (λ (ps : List Progress). let m : Machine = record (machine_at n s) { progress = ps } in m) (change-progress id unmarking unmarked (λ y. refl) s.shown);
      spacing = refl;
      runs = keeps-change s (record s { shown = with_change id unmarking s.shown }) reply.Retried id unmarking (λ y. refl) (λ y. refl) refl;
      sound = change-sound s id unmarking s.tickets h (λ y. refl) (all-always (λ (x : ShownView). has_id id x ≡ true → IfSome x.published (IsOfItsVersion s.opening s.edits x.scenario) → IfSome x.published (IsOfItsVersion s.opening s.edits x.scenario)) (λ y _ k. k) s.shown) (λ P k. k) (omega arith);
    }

-- a retry that takes the mark of a scenario away is a step of the machine
pub retry-accepted : (s : StateView) (id : ℕ) (xs : List ShownView) → IsSound s → is_some (find (has_id id) s.shown) ≡ true → xs ≡ with_change id unmarking s.shown → IsStep s (record s { shown = xs }) (Retry id) reply.Retried
retry-accepted s id xs h is xs_is =
    let P : List ShownView → Type 0 = λ ys. IsStep s (record s { shown = ys }) (Retry id) reply.Retried in
    let some = some-of (find (has_id id) s.shown) is in
    subst P (sym xs_is) (retry-step s id some.0 h some.1)

abbrev view_replied : ℕ → Option Progress → Reply
view_replied seen o = elim o [ None ↦ reply.NoSuchScenario | Some p ↦ view_reply_at seen p.published ]

viewed : (s : StateView) (id seen : ℕ) (o : Option ShownView) (r : Reply) → IsSound s → find (has_id id) s.shown ≡ o → r ≡ view_replied seen (option_map progress_of_shown o) → IsStep s s (View id seen) r
viewed s id seen o r h is r_is = still s (View id seen) r h (λ n. r_is ∙ sym (ap (view_replied seen) (progress-shown id s.shown ∙ ap (option_map progress_of_shown) is))) (λ n. refl)

-- a view of an id that no scenario has is a step of the machine: there is no such scenario
pub view-missing : (s : StateView) (id seen : ℕ) → IsSound s → find (has_id id) s.shown ≡ None → IsStep s s (View id seen) reply.NoSuchScenario
view-missing s id seen h is = viewed s id seen None reply.NoSuchScenario h is refl

-- a view of a scenario for which nothing is published is a step of the machine: there is nothing yet
pub view-empty : (s : StateView) (id seen : ℕ) (x : ShownView) → IsSound s → find (has_id id) s.shown ≡ Some x → x.published ≡ None → IsStep s s (View id seen) reply.NotYet
view-empty s id seen x h is none = viewed s id seen (Some x) reply.NotYet h is (sym (ap (λ (o : Option PublishedView). view_reply_at seen (option_map (λ q. q.version) o)) none))

-- a view, where an older version is published than the one seen, is a step of the machine: it is behind
pub view-behind : (s : StateView) (id seen found : ℕ) (x : ShownView) (p : PublishedView) → IsSound s → find (has_id id) s.shown ≡ Some x → x.published ≡ Some p → found ≡ p.version → found < seen → IsStep s s (View id seen) (reply.Behind seen found)
view-behind s id seen found x p h is some found_is lt =
    let test : nat_lt found seen ≡ true = grind (arith, nat_tests) in
    viewed s id seen (Some x) (reply.Behind seen found) h is (sym (ap (λ (o : Option PublishedView). view_reply_at seen (option_map (λ q. q.version) o)) some ∙ (ap (λ v. view_reply_at seen (Some v)) (sym found_is) ∙ ap (λ (b : Bool). cond b (reply.Behind seen found) (reply.Shown found)) test)))

-- a view, where a version no older than the one seen is published, is a step of the machine that shows it
pub view-shown : (s : StateView) (id seen found : ℕ) (x : ShownView) (p : PublishedView) → IsSound s → find (has_id id) s.shown ≡ Some x → x.published ≡ Some p → found ≡ p.version → seen ≤ found → IsStep s s (View id seen) (reply.Shown found)
view-shown s id seen found x p h is some found_is le =
    let test : nat_lt found seen ≡ false = grind (arith, nat_tests) in
    viewed s id seen (Some x) (reply.Shown found) h is (sym (ap (λ (o : Option PublishedView). view_reply_at seen (option_map (λ q. q.version) o)) some ∙ (ap (λ v. view_reply_at seen (Some v)) (sym found_is) ∙ ap (λ (b : Bool). cond b (reply.Behind seen found) (reply.Shown found)) test)))

-- what a view shows is what is published for the scenario, of its version, and no older than the version seen
pub view-is : {s v : StateView} (id seen : ℕ) (x : ShownView) (p q : PublishedView) → s ≡ v → IsSound s → find (has_id id) s.shown ≡ Some x → x.published ≡ Some p → q ≡ p → seen ≤ q.version → IsShownFor v id seen q
view-is {s} {v} id seen x p q is h found some same le =
    let published : x.published ≡ Some q = some ∙ ap (λ (r : PublishedView). Some r) (sym same) in
    let of : IfSome x.published (IsOfItsVersion s.opening s.edits x.scenario) = find-All (λ (y : ShownView). IfSome y.published (IsOfItsVersion s.opening s.edits y.scenario)) (has_id id) s.shown x h.runs found in
    let version : IsOfItsVersion s.opening s.edits x.scenario q = subst (λ (o : Option PublishedView). IfSome o (IsOfItsVersion s.opening s.edits x.scenario)) published of in
    let shown : IsShownFor s id seen q = record { scenario = x; found = found; published = published; newer = le; version = version } in
    subst (λ (w : StateView). IsShownFor w id seen q) is shown
