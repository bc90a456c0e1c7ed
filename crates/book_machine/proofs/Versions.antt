-- Edits are only added to the log, and only where they are accepted; the log that was opened stays, and the notes tell the edits.
use Rattle.std.proofs.Common.{◌≡◌, ℕ, ◌+◌, ◌≤◌, List, [], ◌∷◌, ◌++◌, take, Bool, true, false, cond, Option, None, Some, is_some, refl, sym, ◌∙◌, ap, subst, append_assoc}
use Rattle.std.proofs.lemmas.List.{append-nil, take-append-le}
use Rattle.std.specs.List.{filter_map, cons_option}
use Rattle.swf_text.specs.Entry.{LogEntry}
use Rattle.job_table.specs.declared.fault.EditFault.{EditFault}
use Rattle.job_table.specs.Edit.{LogEdit, applied, fault_of, log_after, log_at}
use Rattle.scenarios.specs.Scenario.{ScenarioView}
use Rattle.scenarios.specs.ScenarioList.{add_fault, id_of, with_scenario}
use Rattle.book_machine.specs.declared.reply.Reply.{Reply}
use Rattle.book_machine.specs.declared.reply.Reply.TheVariants as reply
use Rattle.book_machine.specs.Call.{BookCall, Edit, AddScenario, DropScenario, Retry, Claim, Finish, GiveUp, View}
use Rattle.book_machine.specs.Machine.{Machine, Progress, Ticket, opened, version, current, ticket_of, changed, publish, marked, fresh, closed, due, dropped, are_all_out, reply_to, changed_by, after, add_reply, after_add, drop_reply, after_drop, retry_reply, after_retry, claim_reply, after_claim, finish_reply, after_finish, give_up_reply, after_give_up, view_reply}
use Rattle.book_machine.specs.History.{Noted, IsLegal, after_all}
use Rattle.book_machine.specs.Versions.{WereAccepted, edit_outcome}
use Rattle.book_machine.proofs.Steps.{after_all-append}

pub record Stays (old new : Machine) : Type 0 where
  pub opening : new.opening ≡ old.opening
  pub edits : new.edits ≡ old.edits

same : (m : Machine) → Stays m m
same m = record { opening = refl; edits = refl }

add_stays : (m : Machine) (name : List ℕ) (scenario : ScenarioView) (b : Bool) → Stays m (cond b m (record m { listing = with_scenario name scenario m.listing; progress = m.progress ++ fresh m.listing.next ∷ [] }))
add_stays m name scenario true = same m
add_stays m name scenario false = record { opening = refl; edits = refl }

drop_stays : (m : Machine) (name : List ℕ) (o : Option ℕ) → Stays m (elim o [ None ↦ m | Some k ↦ dropped name k m ])
drop_stays m name None = same m
drop_stays m name (Some k) = record { opening = refl; edits = refl }

claim_stays : (m : Machine) (o : Option Progress) (b : Bool) → Stays m (elim o [ None ↦ m | Some p ↦ cond b m (record m { tickets = m.tickets ++ record { number = m.next_ticket; id = p.id; version = version m } ∷ []; next_ticket = m.next_ticket + 1 }) ])
claim_stays m None b = same m
claim_stays m (Some p) true = same m
claim_stays m (Some p) false = record { opening = refl; edits = refl }

finish_stays : (m : Machine) (number : ℕ) (fits : Bool) (o : Option Ticket) → Stays m (elim o [ None ↦ m | Some t ↦ cond fits (record m { progress = changed t.id (publish t.version) m.progress; tickets = closed number m.tickets }) m ])
finish_stays m number fits None = same m
finish_stays m number true (Some t) = record { opening = refl; edits = refl }
finish_stays m number false (Some t) = same m

give_up_stays : (m : Machine) (number : ℕ) (o : Option Ticket) → Stays m (elim o [ None ↦ m | Some t ↦ record m { progress = marked t m; tickets = closed number m.tickets } ])
give_up_stays m number None = same m
give_up_stays m number (Some t) = record { opening = refl; edits = refl }

abbrev pub Adds : Machine → List LogEdit → Type 0
Adds m [] = Unit {0}
Adds m (edit ∷ []) = fault_of edit (current m) ≡ None
Adds m (edit ∷ other ∷ edits) = ⊥

pub record Grows (call : BookCall) (outcome : Reply) (old new : Machine) : Type 0 where
  pub opening : new.opening ≡ old.opening
  pub adds : Adds old (cons_option (edit_outcome call outcome) [])
  pub edits : new.edits ≡ old.edits ++ cons_option (edit_outcome call outcome) []

kept_as : (call : BookCall) (outcome : Reply) (old new : Machine) → edit_outcome call outcome ≡ None → Stays old new → Grows call outcome old new
kept_as call outcome old new is stays =
    let none : cons_option (edit_outcome call outcome) [] ≡ [] = ap (λ (o : Option LogEdit). cons_option o []) is in
    record {
      opening = stays.opening;
      adds = subst (Adds old) (sym none) tt;
      edits = stays.edits ∙ sym (append-nil old.edits) ∙ ap (λ (es : List LogEdit). old.edits ++ es) (sym none);
    }

edit_grows : (m : Machine) (edit : LogEdit) (o : Option EditFault) → fault_of edit (current m) ≡ o → Grows (Edit edit) (elim o [ Some fault ↦ reply.EditRefused fault | None ↦ reply.Edited (version m + 1) ]) m (cond (is_some o) m (record m { edits = m.edits ++ edit ∷ [] }))
edit_grows m edit None is = record { opening = refl; adds = is; edits = refl }
edit_grows m edit (Some fault) is = record { opening = refl; adds = tt; edits = sym (append-nil m.edits) }

step_grows : (m : Machine) (call : BookCall) → Grows call (reply_to call m) m (changed_by call m)
step_grows m (Edit edit) = edit_grows m edit (fault_of edit (current m)) refl
step_grows m (AddScenario name scenario) = kept_as (AddScenario name scenario) (add_reply name m) m (after_add name scenario m) refl (add_stays m name scenario (is_some (add_fault name m.listing)))
step_grows m (DropScenario name) = kept_as (DropScenario name) (drop_reply name m) m (after_drop name m) refl (drop_stays m name (id_of name m.listing))
step_grows m (Retry k) = kept_as (Retry k) (retry_reply k m) m (after_retry k m) refl (record { opening = refl; edits = refl })
step_grows m Claim = kept_as Claim (claim_reply m) m (after_claim m) refl (claim_stays m (due m) (are_all_out m))
step_grows m (Finish number fits) = kept_as (Finish number fits) (finish_reply number fits m) m (after_finish number fits m) refl (finish_stays m number fits (ticket_of number m.tickets))
step_grows m (GiveUp number) = kept_as (GiveUp number) (give_up_reply number m) m (after_give_up number m) refl (give_up_stays m number (ticket_of number m.tickets))
step_grows m (View k seen) = kept_as (View k seen) (view_reply k seen m) m m refl (same m)

accepted-end : (log : List LogEntry) (edits : List LogEdit) (edit : LogEdit) → WereAccepted log edits → fault_of edit (log_after log edits) ≡ None → WereAccepted log (edits ++ edit ∷ [])
accepted-end log [] edit were is = (is, tt)
accepted-end log (first ∷ edits) edit were is = (were.0, accepted-end (applied first log) edits edit were.1 is)

accepted-more : (m : Machine) (more : List LogEdit) → Adds m more → WereAccepted m.opening m.edits → WereAccepted m.opening (m.edits ++ more)
accepted-more m [] adds were = subst (WereAccepted m.opening) (sym (append-nil m.edits)) were
accepted-more m (edit ∷ []) adds were = accepted-end m.opening m.edits edit were adds
accepted-more m (edit ∷ other ∷ edits) adds were = absurd adds

step_accepted : (m : Machine) (call : BookCall) → WereAccepted m.opening m.edits → WereAccepted (changed_by call m).opening (changed_by call m).edits
step_accepted m call were =
    let g = step_grows m call in
    let new : List LogEdit = cons_option (edit_outcome call (reply_to call m)) [] in
    let more : WereAccepted m.opening (m.edits ++ new) = accepted-more m new g.adds were in
    subst (λ log. WereAccepted log (changed_by call m).edits) (sym g.opening) (subst (WereAccepted m.opening) (sym g.edits) more)

all_accepted : (m : Machine) (notes : List Noted) → WereAccepted m.opening m.edits → WereAccepted (after_all m notes).opening (after_all m notes).edits
all_accepted m [] were = were
all_accepted m (note ∷ notes) were = all_accepted (after note.call m) notes (step_accepted m note.call were)

pub opening_stays : (m : Machine) (notes : List Noted) → (after_all m notes).opening ≡ m.opening
opening_stays m [] = refl
opening_stays m (note ∷ notes) = opening_stays (after note.call m) notes ∙ (step_grows m note.call).opening

edits_grow : (m : Machine) (notes : List Noted) → (more : List LogEdit) × ((after_all m notes).edits ≡ m.edits ++ more)
edits_grow m [] = ([], sym (append-nil m.edits))
edits_grow m (note ∷ notes) =
    let g = step_grows m note.call in
    let new : List LogEdit = cons_option (edit_outcome note.call (reply_to note.call m)) [] in
    let rest = edits_grow (after note.call m) notes in
    (new ++ rest.0, rest.1 ∙ ap (λ es. es ++ rest.0) g.edits ∙ append_assoc m.edits new rest.0)

-- after a legal history, each edit was accepted by the log after those before it
pub accepted : (log : List LogEntry) (notes : List Noted) → IsLegal (opened log) notes → WereAccepted log (after_all (opened log) notes).edits
accepted log notes legal =
    subst (λ l. WereAccepted l (after_all (opened log) notes).edits) (opening_stays (opened log) notes) (all_accepted (opened log) notes tt)

log_stays : (log : List LogEntry) (m : Machine) (more : List Noted) (v : ℕ) → v ≤ version m → log_at log (after_all m more).edits v ≡ log_at log m.edits v
log_stays log m more v le =
    let grown = edits_grow m more in
    ap (log_after log) (ap (take v) grown.1 ∙ take-append-le v m.edits grown.0 le)

-- whatever is called later in a legal history, a version's log stays what it was
pub kept : (log : List LogEntry) (notes more : List Noted) (v : ℕ) → IsLegal (opened log) (notes ++ more) → v ≤ version (after_all (opened log) notes) → log_at log (after_all (opened log) (notes ++ more)).edits v ≡ log_at log (after_all (opened log) notes).edits v
kept log notes more v legal le =
    ap (λ (m : Machine). log_at log m.edits v) (after_all-append (opened log) notes more) ∙ log_stays log (after_all (opened log) notes) more v le

one_first : (o : Option LogEdit) (rest : List LogEdit) → cons_option o [] ++ rest ≡ cons_option o rest
one_first None rest = refl
one_first (Some edit) rest = refl

outcome_from : (m : Machine) (notes : List Noted) → IsLegal m notes → (after_all m notes).edits ≡ m.edits ++ filter_map (λ n. edit_outcome n.call n.reply) notes
outcome_from m [] legal = sym (append-nil m.edits)
outcome_from m (note ∷ notes) legal =
    let g = step_grows m note.call in
    let new : List LogEdit = cons_option (edit_outcome note.call (reply_to note.call m)) [] in
    let later : List LogEdit = filter_map (λ n. edit_outcome n.call n.reply) notes in
    outcome_from (after note.call m) notes legal.2
    ∙ ap (λ es. es ++ later) g.edits
    ∙ append_assoc m.edits new later
    ∙ ap (λ es. m.edits ++ es) (one_first (edit_outcome note.call (reply_to note.call m)) later ∙ ap (λ r. cons_option (edit_outcome note.call r) later) (sym legal.1))

-- after a legal history, the edits are those in its notes that were answered with a version
pub noted_edits : (log : List LogEntry) (notes : List Noted) → IsLegal (opened log) notes → (after_all (opened log) notes).edits ≡ filter_map (λ n. edit_outcome n.call n.reply) notes
noted_edits log notes legal = outcome_from (opened log) notes legal
