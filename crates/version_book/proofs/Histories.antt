-- A book after a call: a step more of its history, or as it was. A log that was just opened is a book.
use Rattle.std.proofs.Common.{◌≡◌, ℕ, ◌+◌, ◌≤◌, ◌<◌, List, [], ◌∷◌, ◌++◌, length, map, refl, sym, ◌∙◌, ap, ap₂, subst, Bool, true, false, cond, arith}
use Rattle.std.specs.Prelude.{Option, None, Some, Err, is_some}
use Rattle.std.proofs.lemmas.List.{append-nil, length_push, length-map}
use Rattle.swf_text.specs.Entry.{LogEntry}
use Rattle.job_table.specs.Edit.{fault_of}
use Rattle.scenarios.specs.ScenarioList.{add_fault, id_of, with_scenario}
use Rattle.book_machine.specs.declared.caller.Caller.{Caller}
use Rattle.book_machine.specs.declared.reply.Reply.{Reply}
use Rattle.book_machine.specs.Call.{BookCall, Edit, AddScenario, DropScenario, Retry, Claim, Finish, GiveUp, View}
use Rattle.book_machine.specs.Machine.{Machine, Progress, Ticket, version, opened, current, fresh, dropped, due, are_all_out, changed, closed, publish, marked, ticket_of, reply_to, changed_by, after, noted, note_limit}
use Rattle.book_machine.specs.History.{Noted, IsLegal, after_all}
use Rattle.version_book.specs.declared.faults.FinishFault.{FinishFault}
use Rattle.version_book.specs.declared.refusal.Refusal.{Refusal}
use Rattle.version_book.specs.declared.refusal.Refusal.TheVariants as why
use Rattle.version_book.specs.Book.{StateView, BookView, machine_at, machine_of}
use Rattle.version_book.specs.Sound.{IsBook, IsSound}
use Rattle.version_book.specs.Answers.{TellsFit, TellsStanding}
use Rattle.version_book.specs.Steps.{Answer, full, memory, outcome, Answers, Does, IsNoNote, IsStep, note_of, notes_of, opening_state, reply_in}

abbrev Counts : Machine → Machine → Type 0
Counts m k = (k.opening ≡ m.opening) × (k.next_ticket ≤ m.next_ticket + 1) × (k.notes ≡ m.notes)

same-counts : (m : Machine) → Counts m m
same-counts m = (refl, omega arith, refl)

cond-counts : (m k : Machine) (b : Bool) → Counts m k → Counts m (cond b m k)
cond-counts m k true h = same-counts m
cond-counts m k false h = h

other-counts : (m k : Machine) (b : Bool) → Counts m k → Counts m (cond b k m)
other-counts m k true h = h
other-counts m k false h = same-counts m

drop-counts : (name : List ℕ) (m : Machine) (o : Option ℕ) → Counts m (elim o [ None ↦ m | Some id ↦ dropped name id m ])
drop-counts name m None = same-counts m
drop-counts name m (Some id) = (refl, omega arith, refl)

claim-counts : (m : Machine) (o : Option Progress) → Counts m (elim o [ None ↦ m | Some p ↦ cond (are_all_out m) m (record m { tickets = m.tickets ++ record { number = m.next_ticket; id = p.id; version = version m } ∷ []; next_ticket = m.next_ticket + 1 }) ])
claim-counts m None = same-counts m
claim-counts m (Some p) = cond-counts m (record m { tickets = m.tickets ++ record { number = m.next_ticket; id = p.id; version = version m } ∷ []; next_ticket = m.next_ticket + 1 }) (are_all_out m) (refl, omega arith, refl)

finish-counts : (n : ℕ) (fits : Bool) (m : Machine) (o : Option Ticket) → Counts m (elim o [ None ↦ m | Some t ↦ cond fits (record m { progress = changed t.id (publish t.version) m.progress; tickets = closed n m.tickets }) m ])
finish-counts n fits m None = same-counts m
finish-counts n fits m (Some t) = other-counts m (record m { progress = changed t.id (publish t.version) m.progress; tickets = closed n m.tickets }) fits (refl, omega arith, refl)

give_up-counts : (n : ℕ) (m : Machine) (o : Option Ticket) → Counts m (elim o [ None ↦ m | Some t ↦ record m { progress = marked t m; tickets = closed n m.tickets } ])
give_up-counts n m None = same-counts m
give_up-counts n m (Some t) = (refl, omega arith, refl)

-- a call changes neither the opening log nor, before it is noted, the number of notes, and gives at most one ticket
pub counts : (call : BookCall) (m : Machine) → Counts m (changed_by call m)
counts (Edit e) m = cond-counts m (record m { edits = m.edits ++ e ∷ [] }) (is_some (fault_of e (current m))) (refl, omega arith, refl)
counts (AddScenario name scenario) m = cond-counts m (record m { listing = with_scenario name scenario m.listing; progress = m.progress ++ fresh m.listing.next ∷ [] }) (is_some (add_fault name m.listing)) (refl, omega arith, refl)
counts (DropScenario name) m = drop-counts name m (id_of name m.listing)
counts (Retry id) m = (refl, omega arith, refl)
counts Claim m = claim-counts m (due m)
counts (Finish n fits) m = finish-counts n fits m (ticket_of n m.tickets)
counts (GiveUp n) m = give_up-counts n m (ticket_of n m.tickets)
counts (View id seen) m = same-counts m

after_all-push : (m : Machine) (notes : List Noted) (note : Noted) → after_all m (notes ++ note ∷ []) ≡ after note.call (after_all m notes)
after_all-push m [] note = refl
after_all-push m (k ∷ notes) note = after_all-push (after k.call m) notes note

IsLegal-push : (m : Machine) (notes : List Noted) (note : Noted) → IsLegal m notes → (after_all m notes).notes < note_limit → note.reply ≡ reply_to note.call (after_all m notes) → IsLegal m (notes ++ note ∷ [])
IsLegal-push m [] note h capacity is = (capacity, is, tt)
IsLegal-push m (k ∷ notes) note h capacity is = (h.0, h.1, IsLegal-push (after k.call m) notes note h.2 capacity is)

noted-is : (m : Machine) (n : ℕ) (s : StateView) → m ≡ machine_at n s → noted m ≡ machine_at (n + 1) s
noted-is m n s is = ap noted is

step-machine : (old : BookView) (new : StateView) (who : Caller) (call : BookCall) (r : Reply) → IsStep old.state new call r → machine_at (length (old.journal ++ note_of who call r ∷ [])) new ≡ after call (machine_of old)
step-machine old new who call r h =
    ap (λ n. machine_at n new) (length_push old.journal (note_of who call r)) ∙ sym (noted-is (changed_by call (machine_of old)) (length old.journal) new (sym (h.state (length old.journal))))

step-book : (old : BookView) (new : StateView) (who : Caller) (call : BookCall) (r : Reply) → IsBook old → length old.journal < note_limit → IsStep old.state new call r → IsBook (record { state = new; journal = old.journal ++ note_of who call r ∷ [] })
step-book old new who call r h capacity step =
    let n = length old.journal in
    let note = note_of who call r in
    let count = length_push old.journal note in
    let c = counts call (machine_of old) in
    let opening : new.opening ≡ old.state.opening = ap (λ (m : Machine). m.opening) (step.state n) ∙ c.0 in
    let next : new.next_ticket ≡ (changed_by call (machine_of old)).next_ticket = ap (λ (m : Machine). m.next_ticket) (step.state n) in
    let few : (after_all (opened old.state.opening) old.journal).notes < note_limit = subst (λ (m : Machine). m.notes < note_limit) (sym h.led) capacity in
    let outcome : r ≡ reply_to call (after_all (opened old.state.opening) old.journal) = step.reply n ∙ ap (reply_to call) (sym h.led) in
    record {
      sound = step.sound;
      legal = subst (λ (log : List LogEntry). IsLegal (opened log) (old.journal ++ note ∷ [])) (sym opening) (IsLegal-push (opened old.state.opening) old.journal note h.legal few outcome);
      led = ap (λ (log : List LogEntry). after_all (opened log) (old.journal ++ note ∷ [])) opening ∙ (after_all-push (opened old.state.opening) old.journal note ∙ (ap (after call) h.led ∙ sym (step-machine old new who call r step)));
      capacity = omega (arith, count);
      numbers = omega (arith, count, next, c.1, h.numbers);
    }

-- where the journal is not full, and a call did what it answers and noted its reply, what it leaves is a book, and it answered as it should
pub called : (old new : BookView) (who : Caller) (call : BookCall) (a : Answer) → IsBook old → length old.journal < note_limit → Does old.state new.state call a → new.journal ≡ old.journal ++ notes_of who call (reply_in a) → IsBook new × Answers old new who call a
called old new who call full h capacity does journal = absurd does
called old new who call memory h capacity does journal =
    let same : new ≡ old = ap₂ (λ (s : StateView) (j : List Noted). let b : BookView = record { state = s; journal = j } in b) does (journal ∙ append-nil old.journal) in
    (subst IsBook (sym same) h, (capacity, same))
called old new who call (outcome r) h capacity does journal =
    let P : List Noted → Type 0 = λ j. IsBook (record { state = new.state; journal = j }) in (
      subst P (sym journal) (step-book old new.state who call r h capacity does),
      (
        capacity,
        does.reply (length old.journal),
        ap (λ (j : List Noted). machine_at (length j) new.state) journal ∙ step-machine old new.state who call r does,
        journal,
        does.spacing,
        does.runs,
      ),
    )

-- where the journal is not full, and a call did what it answers and noted its reply, it answered as it should, of an equal book too
pub answered : {b v : BookView} (new : BookView) (who : Caller) (call : BookCall) (a : Answer) → b ≡ v → IsBook b → length b.journal < note_limit → Does b.state new.state call a → new.journal ≡ b.journal ++ notes_of who call (reply_in a) → Answers v new who call a
answered {b} {v} new who call a is h capacity does journal = subst (λ (w : BookView). Answers w new who call a) is (called b new who call a h capacity does journal).1

-- elements fewer than the most notes are as few when they are seen as notes
pub has-capacity : {X : Type 0} (f : X → Noted) (xs : List X) → length xs < note_limit → length (map f xs) < note_limit
has-capacity f xs few =
    let count = length-map xs f in
    omega arith

-- a journal with the note of a call more is so, too, by an equal journal before it, an equal call and an equal reply
pub journal-is : {X : Type 0} (f : X → Noted) (xs ys zs : List X) (who : Caller) (c d : BookCall) (o p : Option Reply) → map f zs ≡ map f ys ++ notes_of who c o → ys ≡ xs → c ≡ d → o ≡ p → map f zs ≡ map f xs ++ notes_of who d p
journal-is f xs ys zs who c d o p zs_is ys_is c_is o_is = zs_is ∙ (ap (λ ws. map f ws ++ notes_of who c o) ys_is ∙ ap₂ (λ (e : BookCall) (q : Option Reply). map f xs ++ notes_of who e q) c_is o_is)

same-book : {b : BookView} {X : Type 0} (f : X → Noted) (xs ys : List X) → b.journal ≡ map f xs → ys ≡ xs → record { state = b.state; journal = map f ys } ≡ b
same-book {b} f xs ys journal ys_is = ap (λ (j : List Noted). let w : BookView = record { state = b.state; journal = j } in w) (ap (map f) ys_is ∙ sym journal)

-- a call that was out of memory, where the journal is not full, and left all as it was, answered as it should
pub as-it-was : {b v : BookView} {X : Type 0} (f : X → Noted) (xs ys : List X) (who : Caller) (call : BookCall) (a : Answer) → b ≡ v → b.journal ≡ map f xs → ys ≡ xs → length xs < note_limit → a ≡ memory → Answers v (record { state = b.state; journal = map f ys }) who call a
as-it-was {b} {v} f xs ys who call a is journal ys_is few a_is =
    let capacity = has-capacity f xs few in
    let count = ap length journal in
    subst (λ (q : Answer). Answers v (record { state = b.state; journal = map f ys }) who call q) (sym a_is) (subst (λ (w : BookView). Answers w (record { state = b.state; journal = map f ys }) who call memory) is (omega arith, same-book f xs ys journal ys_is))

-- a call that left all as it was, as the journal is full or a growth was refused, answered as it should
pub no-note : {b v : BookView} {X F : Type 0} (f : X → Noted) (xs ys : List X) (who : Caller) (call : BookCall) (a : Answer) (r : Refusal F)
    → b ≡ v → IsBook b → b.journal ≡ map f xs → ys ≡ xs → IsNoNote (length xs) r → (r ≡ why.JournalFull → a ≡ full) → (r ≡ why.Memory → a ≡ memory)
    → Answers v (record { state = b.state; journal = map f ys }) who call a
no-note {b} {v} f xs ys who call a why.JournalFull is h journal ys_is many full_is memory_is =
    let count = length-map xs f in
    let same = ap length journal in
    subst (λ (q : Answer). Answers v (record { state = b.state; journal = map f ys }) who call q) (sym (full_is refl)) (subst (λ (w : BookView). Answers w (record { state = b.state; journal = map f ys }) who call full) is (omega (arith, h.capacity), same-book f xs ys journal ys_is))
no-note f xs ys who call a (why.Fault fault) is h journal ys_is none full_is memory_is = absurd none
no-note f xs ys who call a why.Memory is h journal ys_is few full_is memory_is = as-it-was f xs ys who call a is journal ys_is few (memory_is refl)

-- the result of a call that took no note tells of the fit of the run what it should: nothing
pub no-note-fits : (fits : Type 0) (notes : ℕ) (r : Refusal FinishFault) → IsNoNote notes r → TellsFit fits (Err r)
no-note-fits fits notes why.JournalFull is = tt
no-note-fits fits notes (why.Fault fault) is = absurd is
no-note-fits fits notes why.Memory is = tt

-- the result of a call that took no note tells of the standing of the ticket what it should: nothing
pub no-note-stands : (stands : Type 0) (notes : ℕ) (r : Refusal FinishFault) → IsNoNote notes r → TellsStanding stands (Some (Err r))
no-note-stands stands notes why.JournalFull is = tt
no-note-stands stands notes (why.Fault fault) is = absurd is
no-note-stands stands notes why.Memory is = tt

-- the sound state of a log that was just opened is a book, without notes
pub opened-book : (s : StateView) (log : List LogEntry) (spacing : ℕ) (notes : List Noted) → IsSound s → s ≡ opening_state log spacing → notes ≡ [] → IsBook (record { state = s; journal = notes })
opened-book s log spacing notes sound is none =
    let whole : IsSound (opening_state log spacing) → IsBook (record { state = opening_state log spacing; journal = [] }) = λ it. record { sound = it; legal = tt; led = refl; capacity = omega arith; numbers = omega arith } in
    subst (λ (ns : List Noted). IsBook (record { state = s; journal = ns })) (sym none) (subst (λ (t : StateView). IsSound t → IsBook (record { state = t; journal = [] })) (sym is) whole sound)
