-- The history stays tied to the book, as calls are noted and other events are added, and a caller's front stays tied to the history.
use Rattle.std.proofs.Common.{◌≡◌, ◌<◌, ◌+◌, ◌||◌, ℕ, Bool, true, false, cond, List, [], ◌∷◌, ◌++◌, drop, length, refl, sym, ◌∙◌, ap, subst, arith, length-append, append-nil}
use Rattle.std.specs.Prelude.{if◌then◌else◌, nat_lt, Option, None, Some, IfSome, Result, Err, count_by}
use Rattle.std.specs.List.{cons_option, slice_get}
use Rattle.std.proofs.lemmas.List.{drop-append-le}
use Rattle.std.proofs.lemmas.List.Elements.{filter_map-append}
use Rattle.std.proofs.lemmas.List.Folds.{list_any-append}
use Rattle.std.proofs.lemmas.List.Sums.{sum_by-append}
use Rattle.std.proofs.lemmas.Option.{slice_get_past, slice_get-get_or}
use Rattle.std.proofs.Math.ListN.{drop_of_length-le}
use Rattle.std.proofs.Math.Seq.{get_or-append_seam}
use mathlib.Core.List.{IsPrefix}
use Rattle.book_machine.specs.declared.caller.Caller.{Caller}
use Rattle.book_machine.specs.declared.reply.Reply.{Reply}
use Rattle.book_machine.specs.Call.{BookCall, View}
use Rattle.book_machine.specs.History.{Noted, after_all}
use Rattle.book_machine.specs.Machine.{Machine, after}
use Rattle.chronicle.specs.Events.{Happened, Called, IsAccepted, note_in, notes_of, state_after}
use Rattle.chronicle.specs.Fronts.{Seen, Adds, Follows, nothing_yet}
use Rattle.tasks.specs.Published.{PublishedView}
use Rattle.version_book.specs.declared.faults.ViewFault.{ViewFault}
use Rattle.version_book.specs.declared.refusal.Refusal.{Refusal}
use Rattle.version_book.specs.declared.refusal.Refusal.TheVariants as why
use Rattle.version_book.specs.Answers.{view_answer}
use Rattle.version_book.specs.Book.{BookView, machine_of}
use Rattle.version_book.specs.BookRules.{IsTrueOf}
use Rattle.version_book.specs.Steps.{Answer, Answers, full, memory, outcome, note_of}
use Rattle.workers.specs.Callers.{callers_limit, next_caller}
use Rattle.workers.specs.History.{Calls, CalledAt, Views}
use Rattle.workers.specs.Settling.{has_stopped, is_stop}
use Rattle.workers.specs.Tied.{AreOne, Hears, IsTied, SharedView, opened_sessions, opened_workers, opens_session, opens_worker}

-- what lies under the lock, by its parts
abbrev pub lain : BookView → Seen → ℕ → ℕ → Bool → SharedView
lain book history sessions workers stopped = record { book = book; history = history; sessions = sessions; workers = workers; stopped = stopped }

behind_all : (xs : List Noted) → slice_get xs (length xs) ≡ None
behind_all xs = slice_get_past xs (length xs) (omega arith)

behind_last : (xs : List Noted) (x : Noted) → slice_get (xs ++ x ∷ []) (length xs) ≡ Some x
behind_last xs x =
    let within : length xs < length (xs ++ x ∷ []) = omega (arith, length-append xs (x ∷ [])) in
    slice_get-get_or (xs ++ x ∷ []) (length xs) x within ∙ ap Some (get_or-append_seam xs x [] x)

abbrev noted_by : Caller → BookCall → Answer → Option Noted
noted_by who call full = None
noted_by who call memory = None
noted_by who call (outcome reply) = Some (note_of who call reply)

behind : (old new : BookView) (who : Caller) (call : BookCall) (answer : Answer) (notes : ℕ) → Answers old new who call answer → notes ≡ length old.journal
    → slice_get new.journal notes ≡ noted_by who call answer
behind old new who call full notes h from = ap (λ (n : ℕ). slice_get new.journal n) from ∙ (ap (λ (b : BookView). slice_get b.journal (length old.journal)) h.1 ∙ behind_all old.journal)
behind old new who call memory notes h from = ap (λ (n : ℕ). slice_get new.journal n) from ∙ (ap (λ (b : BookView). slice_get b.journal (length old.journal)) h.1 ∙ behind_all old.journal)
behind old new who call (outcome reply) notes h from =
    ap (λ (n : ℕ). slice_get new.journal n) from ∙ (ap (λ (js : List Noted). slice_get js (length old.journal)) h.3 ∙ behind_last old.journal (note_of who call reply))

fits : (opening : Machine) (old new : BookView) (history : Seen) (who : Caller) (call : BookCall) (answer : Answer)
    → state_after opening history.events ≡ machine_of old → Answers old new who call answer → IfSome (noted_by who call answer) (IsAccepted (state_after opening history.events))
fits opening old new history who call full at h = tt
fits opening old new history who call memory at h = tt
fits opening old new history who call (outcome reply) at h = subst (λ (m : Machine). IsAccepted m (note_of who call reply)) (sym at) (h.0, h.1)

-- where the history is tied to the book, the machine at its end accepts the note of a call that the book answered, if there is one
pub accepted : (opening : Machine) (old new : BookView) (history : Seen) (sessions workers : ℕ) (stopped : Bool) (who : Caller) (call : BookCall) (answer : Answer) (notes : ℕ)
    → IsTied opening (lain old history sessions workers stopped) → Answers old new who call answer → notes ≡ length old.journal
    → history.kept ≡ true → IfSome (slice_get new.journal notes) (IsAccepted (state_after opening history.events))
accepted opening old new history sessions workers stopped who call answer notes tied h from kept =
    subst (λ (o : Option Noted). IfSome o (IsAccepted (state_after opening history.events))) (sym (behind old new who call answer notes h from))
    (fits opening old new history who call answer (tied kept).machine h)

after_append : (m : Machine) (notes more : List Noted) → after_all m (notes ++ more) ≡ after_all (after_all m notes) more
after_append m [] more = refl
after_append m (n ∷ notes) more = after_append (after n.call m) notes more

counted : (p : Happened → Bool) (xs : List Happened) (x : Happened) → count_by p (xs ++ x ∷ []) ≡ count_by p xs + cond (p x) 1 0
counted p xs x =
    let none_more : 0 + cond (p x) 1 0 ≡ cond (p x) 1 0 = omega arith in
    sum_by-append (λ (y : Happened). cond (p y) 1 0) xs (x ∷ []) ∙ ap (λ (n : ℕ). count_by p xs + n) none_more

-- a bool or false is this bool
pub or_false : (b : Bool) → b ≡ (b || false)
or_false true = refl
or_false false = refl

-- a bool or true is true
pub or_true : (b : Bool) → true ≡ (b || true)
or_true true = refl
or_true false = refl

-- the number of the next caller is how many were opened before
pub next_is : (opened n : ℕ) → next_caller opened ≡ Some n → n ≡ opened
next_is opened n is = go (nat_lt opened callers_limit) is
  where
    go : (b : Bool) → (if b then Some opened else None) ≡ Some n → n ≡ opened
    go true e = cc
    go false e = cc

grows : (opening : Machine) (old new : BookView) (history later : Seen) (sessions workers : ℕ) (stopped : Bool) (who : Caller) (call : BookCall) (reply : Reply)
    → AreOne opening (lain old history sessions workers stopped) → later.events ≡ history.events ++ Called (note_of who call reply) ∷ []
    → machine_of new ≡ after call (machine_of old) → new.journal ≡ old.journal ++ note_of who call reply ∷ [] → AreOne opening (lain new later sessions workers stopped)
grows opening old new history later sessions workers stopped who call reply t added machine journal =
    let note : Noted = note_of who call reply in
    let notes : notes_of later.events ≡ notes_of history.events ++ note ∷ [] = ap notes_of added ∙ filter_map-append note_in history.events (Called note ∷ []) in
    let more : length new.journal ≡ length old.journal + 1 = ap length journal ∙ length-append old.journal (note ∷ []) in
    record {
      notes = notes ∙ (ap (λ (ns : List Noted). ns ++ note ∷ []) t.notes ∙ (sym (drop-append-le opening.notes old.journal (note ∷ []) t.far) ∙ ap (drop opening.notes) (sym journal)));
      far = omega (arith, t.far, more);
      machine = ap (after_all opening) notes ∙ (after_append opening (notes_of history.events) (note ∷ []) ∙ (ap (after call) t.machine ∙ sym machine));
      sessions = omega (arith, ap opened_sessions added, counted opens_session history.events (Called note), t.sessions);
      workers = omega (arith, ap opened_workers added, counted opens_worker history.events (Called note), t.workers);
      stopped = t.stopped ∙ (or_false (has_stopped history.events) ∙ sym (ap has_stopped added ∙ list_any-append is_stop history.events (Called note ∷ [])));
    }

stays : (opening : Machine) (old new : BookView) (history later : Seen) (sessions workers : ℕ) (stopped : Bool)
    → IsTied opening (lain old history sessions workers stopped) → new ≡ old → later ≡ history → IsTied opening (lain new later sessions workers stopped)
stays opening old new history later sessions workers stopped tied book same =
    subst (λ (b : BookView). IsTied opening (lain b later sessions workers stopped)) (sym book) (subst (λ (s : Seen). IsTied opening (lain old s sessions workers stopped)) (sym same) tied)

tied_by : (opening : Machine) (old new : BookView) (history later : Seen) (sessions workers : ℕ) (stopped : Bool) (who : Caller) (call : BookCall) (answer : Answer)
    → IsTied opening (lain old history sessions workers stopped) → Answers old new who call answer → Hears history (noted_by who call answer) later → IsTied opening (lain new later sessions workers stopped)
tied_by opening old new history later sessions workers stopped who call full tied h hears = stays opening old new history later sessions workers stopped tied h.1 hears
tied_by opening old new history later sessions workers stopped who call memory tied h hears = stays opening old new history later sessions workers stopped tied h.1 hears
tied_by opening old new history later sessions workers stopped who call (outcome reply) tied h hears = λ kept.
    let added = hears.0 kept in
    grows opening old new history later sessions workers stopped who call reply (tied added.0) added.1 h.2 h.3

hears_by : (old new : BookView) (history later : Seen) (who : Caller) (call : BookCall) (answer : Answer) (notes : ℕ)
    → Answers old new who call answer → notes ≡ length old.journal → Hears history (slice_get new.journal notes) later → Hears history (noted_by who call answer) later
hears_by old new history later who call answer notes h from hears = subst (λ (o : Option Noted). Hears history o later) (behind old new who call answer notes h from) hears

-- the history stays tied to the book where a call was answered and the history heard of its note, if there is one
pub tied : (opening : Machine) (old new : BookView) (history later : Seen) (sessions workers : ℕ) (stopped : Bool) (who : Caller) (call : BookCall) (answer : Answer) (notes : ℕ)
    → IsTied opening (lain old history sessions workers stopped) → Answers old new who call answer → notes ≡ length old.journal → Hears history (slice_get new.journal notes) later
    → IsTied opening (lain new later sessions workers stopped)
tied opening old new history later sessions workers stopped who call answer notes before h from hears =
    tied_by opening old new history later sessions workers stopped who call answer before h (hears_by old new history later who call answer notes h from hears)

-- the history stays tied to the book where an event that is no call is added: with a session or worker more if the event opens one,
-- and stopped if it is a stop
pub tied_behind : (opening : Machine) (book : BookView) (history later : Seen) (sessions workers sessions' workers' : ℕ) (stopped stopped' : Bool) (e : Happened)
    → note_in e ≡ None → sessions' ≡ sessions + cond (opens_session e) 1 0 → workers' ≡ workers + cond (opens_worker e) 1 0 → stopped' ≡ (stopped || (is_stop e || false))
    → IsTied opening (lain book history sessions workers stopped) → Adds history e later → IsTied opening (lain book later sessions' workers' stopped')
tied_behind opening book history later sessions workers sessions' workers' stopped stopped' e none s w st before adds = λ kept.
    let added = adds.0 kept in
    let t = before added.0 in
    let notes : notes_of later.events ≡ notes_of history.events =
    ap notes_of added.1 ∙ (filter_map-append note_in history.events (e ∷ []) ∙ (ap (λ (o : Option Noted). notes_of history.events ++ cons_option o []) none ∙ append-nil (notes_of history.events))) in
    record {
      notes = notes ∙ t.notes;
      far = t.far;
      machine = ap (after_all opening) notes ∙ t.machine;
      sessions = omega (arith, ap opened_sessions added.1, counted opens_session history.events e, t.sessions, s);
      workers = omega (arith, ap opened_workers added.1, counted opens_worker history.events e, t.workers, w);
      stopped = st ∙ (ap (λ (b : Bool). b || (is_stop e || false)) t.stopped ∙ sym (ap has_stopped added.1 ∙ list_any-append is_stop history.events (e ∷ [])));
    }

-- a history that begins where the book stands, with no events yet, is tied to it: no caller was opened, and the desk is not stopped
pub tied_first : (opening : Machine) (book : BookView) (whole : Seen) → opening ≡ machine_of book → whole ≡ nothing_yet → IsTied opening (lain book whole 0 0 false)
tied_first opening book whole at is = subst (λ (s : Seen). IsTied opening (lain book s 0 0 false)) (sym is) (subst (λ (m : Machine). IsTied m (lain book nothing_yet 0 0 false)) (sym at) (λ kept. record {
  notes = sym (drop_of_length-le book.journal (omega arith));
  far = omega arith;
  machine = refl;
  sessions = refl;
  workers = refl;
  stopped = refl;
}))

-- a list begins itself
pub prefix_self : {A : Type 0} (xs : List A) → IsPrefix xs xs
prefix_self xs = ([], append-nil xs)

called_at : (opening : Machine) (old new : BookView) (history later front : Seen) (who : Caller) (call : BookCall) (answer : Answer)
    → state_after opening history.events ≡ machine_of old → Answers old new who call answer → Hears history (noted_by who call answer) later → later.kept ≡ true → front.events ≡ later.events
    → CalledAt opening history.events who call answer front.events
called_at opening old new history later front who call full at h hears kept is = (ap (λ (m : Machine). m.notes) at ∙ h.0, is ∙ ap (λ (s : Seen). s.events) hears)
called_at opening old new history later front who call memory at h hears kept is = is ∙ ap (λ (s : Seen). s.events) hears
called_at opening old new history later front who call (outcome reply) at h hears kept is =
    let fits : IsAccepted (state_after opening history.events) (note_of who call reply) = subst (λ (m : Machine). IsAccepted m (note_of who call reply)) (sym at) (h.0, h.1) in
    (fits.0, fits.1, is ∙ (hears.0 kept).1)

-- where a front followed the history before a call was answered and after it, the history went on and then the call was made
pub called : (opening : Machine) (old new : BookView) (history later : Seen) (sessions workers : ℕ) (stopped : Bool) (who : Caller) (call : BookCall) (answer : Answer) (notes : ℕ) (front at front' : Seen)
    → IsTied opening (lain old history sessions workers stopped) → Answers old new who call answer → notes ≡ length old.journal → Hears history (slice_get new.journal notes) later
    → Follows front history at → Follows at later front' → Calls opening front who call answer front'
called opening old new history later sessions workers stopped who call answer notes front at front' before h from hears first second = λ kept.
    let two = second.0 kept in
    let one = first.0 two.0.0 in
    let here = called_at opening old new history later front' who call answer (before one.0.1).machine h (hears_by old new history later who call answer notes h from hears) two.0.1 two.1 in
    (one.0.0, (history.events, one.0.2, here))

-- where a front followed the history before a view was answered and after it, the history went on and then the scenario was viewed
pub viewed : (opening : Machine) (old new : BookView) (history later : Seen) (sessions workers : ℕ) (stopped : Bool) (who : Caller) (id seen : ℕ) (shown : Result PublishedView (Refusal ViewFault)) (notes : ℕ) (front at front' : Seen)
    → IsTied opening (lain old history sessions workers stopped) → Answers old new who (View id seen) (view_answer shown) → notes ≡ length old.journal → Hears history (slice_get new.journal notes) later
    → Follows front history at → Follows at later front' → IsTrueOf (machine_of old) id shown → Views opening front who id seen shown front'
viewed opening old new history later sessions workers stopped who id seen shown notes front at front' before h from hears first second true_of = λ kept.
    let two = second.0 kept in
    let one = first.0 two.0.0 in
    let at_book = (before one.0.1).machine in
    let here = called_at opening old new history later front' who (View id seen) (view_answer shown) at_book h (hears_by old new history later who (View id seen) (view_answer shown) notes h from hears) two.0.1 two.1 in
    (one.0.0, (history.events, one.0.2, here, subst (λ (m : Machine). IsTrueOf m id shown) (sym at_book) true_of))

-- a call for which memory ran out before the lock leaves the front as it was
pub calls_nothing : (opening : Machine) (front : Seen) (who : Caller) (call : BookCall) → Calls opening front who call memory front
calls_nothing opening front who call = λ kept. (kept, (front.events, prefix_self front.events, refl))

-- a view for which memory ran out before the lock leaves the front as it was
pub views_nothing : (opening : Machine) (front : Seen) (who : Caller) (id seen : ℕ) → Views opening front who id seen (Err why.Memory) front
views_nothing opening front who id seen = λ kept. (kept, (front.events, prefix_self front.events, refl, tt))
