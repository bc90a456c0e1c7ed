-- What a change of where a book stands keeps, look-ups as the machine makes them, and calls that change nothing.
use Rattle.std.proofs.Common.{◌≡◌, ℕ, ◌≤◌, ◌==◌, List, [], ◌∷◌, ◌++◌, length, map, refl, sym, ◌∙◌, ap, ap₂, subst, Bool, true, false, cond, arith}
use Rattle.std.specs.Prelude.{◌<◌, ◌||◌, not, nat_le, nat_lt, Option, None, Some, Result, Ok, Err, MatchOption, ⊤, IfSome, find, is_some, ok_or}
use Rattle.std.specs.List.{All}
use Rattle.std.specs.Option.{option_map}
use Rattle.std.proofs.lemmas.List.{map-append, length-map}
use Rattle.std.proofs.lemmas.Bool.Decides.{nat_tests}
use Rattle.swf_text.specs.Entry.{LogEntry}
use Rattle.job_table.specs.Edit.{LogEdit}
use Rattle.job_table.specs.Table.{IsTable}
use Rattle.checkpoints.specs.Spacing.{IsSpacing}
use Rattle.std.proofs.lemmas.List.Elements.{All-nil, All-cons, All-head, All-tail, All-weaker}
use Rattle.scenarios.specs.ScenarioList.{Listing, add_fault, empty, id_of}
use Rattle.scenarios.specs.declared.list_fault.AddFault.TheVariants.{BadName, NameTaken, TooMany}
use Rattle.scenarios.specs.Name.{is_name}
use Rattle.book_machine.specs.declared.reply.Reply.{Reply}
use Rattle.book_machine.specs.Call.{BookCall}
use Rattle.book_machine.specs.Machine.{Progress, Ticket, changed, progress_of, published_of, ticket_of, reply_to, changed_by}
use Rattle.tasks.specs.Tickets.{TicketView, has_number}
use Rattle.version_book.specs.Book.{ShownView, StateView, machine_at, progress_of_shown, ticket_of_view, published_version}
use Rattle.version_book.specs.Sound.{IsSound, IsOfItsVersion, IsTicketOfItsVersion, IsTicketOfItsScenario, AreListed, Under, under_of_listed, under_of_shown}
use Rattle.version_book.specs.Steps.{Answer, Does, IsStep, opening_state}
use Rattle.version_book.specs.Lookups.{has_id, with_change, version_shown}
use Rattle.version_book.proofs.Keeping.{keeps-same}
use Rattle.version_book.proofs.Lists.{find-map}

-- a call that changes nothing, where the machine replies so and changes nothing, is a step of the machine
pub still : (s : StateView) (call : BookCall) (r : Reply) → IsSound s → ((n : ℕ) → r ≡ reply_to call (machine_at n s)) → ((n : ℕ) → machine_at n s ≡ changed_by call (machine_at n s)) → IsStep s s call r
still s call r sound outcome same = record { reply = outcome; state = same; spacing = refl; runs = keeps-same s s r refl; sound = sound }

-- the progress that the machine finds by an id is that of the scenario that is shown with the id
pub progress-shown : (id : ℕ) (xs : List ShownView) → progress_of id (map progress_of_shown xs) ≡ option_map progress_of_shown (find (has_id id) xs)
progress-shown id xs = find-map progress_of_shown (λ (p : Progress). p.id == id) xs

abbrev pub published_in : Option Progress → Option ℕ
published_in o = elim o [ None ↦ None | Some p ↦ p.published ]

published-at : (o : Option ShownView) → published_in (option_map progress_of_shown o) ≡ (elim o [ None ↦ None | Some x ↦ published_version x ])
published-at None = refl
published-at (Some x) = refl

-- the version that the machine finds published for an id is the one that is shown
pub published-shown : (id : ℕ) (xs : List ShownView) → published_of id (map progress_of_shown xs) ≡ version_shown id xs
published-shown id xs = ap published_in (progress-shown id xs) ∙ published-at (find (has_id id) xs)

-- the ticket that the machine finds by a number is the one that stands with the number
pub ticket-view : (number : ℕ) (ts : List TicketView) → ticket_of number (map ticket_of_view ts) ≡ option_map ticket_of_view (find (has_number number) ts)
ticket-view number ts = find-map ticket_of_view (λ (t : Ticket). t.number == number) ts

change-one : (f : ShownView → ShownView) (h : Progress → Progress) (x : ShownView) (b : Bool) → progress_of_shown (f x) ≡ h (progress_of_shown x) → progress_of_shown (cond b (f x) x) ≡ cond b (h (progress_of_shown x)) (progress_of_shown x)
change-one f h x true is = is
change-one f h x false is = refl

-- where a change of any scenario is the machine's of its progress, the change of the scenario with an id is the machine's
pub change-progress : (id : ℕ) (f : ShownView → ShownView) (h : Progress → Progress) → ((x : ShownView) → progress_of_shown (f x) ≡ h (progress_of_shown x)) → (xs : List ShownView) → map progress_of_shown (with_change id f xs) ≡ changed id h (map progress_of_shown xs)
change-progress id f h is [] = refl
change-progress id f h is (x ∷ xs) = ap₂ (λ (p : Progress) ps. p ∷ ps) (change-one f h x (has_id id x) (is x)) (change-progress id f h is xs)

change-one-if : (f : ShownView → ShownView) (h : Progress → Progress) (x : ShownView) (b : Bool) → (b ≡ true → progress_of_shown (f x) ≡ h (progress_of_shown x)) → progress_of_shown (cond b (f x) x) ≡ cond b (h (progress_of_shown x)) (progress_of_shown x)
change-one-if f h x true is = is refl
change-one-if f h x false is = refl

kept-one : (h : Progress → Progress) (x : ShownView) (b : Bool) → (b ≡ true → progress_of_shown x ≡ h (progress_of_shown x)) → progress_of_shown x ≡ cond b (h (progress_of_shown x)) (progress_of_shown x)
kept-one h x true is = is refl
kept-one h x false is = refl

-- where a change of each scenario with the id is the machine's of its progress, so is the change of the scenario with the id
pub change-if : (id : ℕ) (f : ShownView → ShownView) (h : Progress → Progress) (xs : List ShownView) → All (λ (x : ShownView). has_id id x ≡ true → progress_of_shown (f x) ≡ h (progress_of_shown x)) xs → map progress_of_shown (with_change id f xs) ≡ changed id h (map progress_of_shown xs)
change-if id f h [] all = refl
change-if id f h (x ∷ xs) all = ap₂ (λ (p : Progress) ps. p ∷ ps) (change-one-if f h x (has_id id x) (All-head (λ (y : ShownView). has_id id y ≡ true → progress_of_shown (f y) ≡ h (progress_of_shown y)) x xs all)) (change-if id f h xs (All-tail (λ (y : ShownView). has_id id y ≡ true → progress_of_shown (f y) ≡ h (progress_of_shown y)) x xs all))

-- where the machine's change leaves each scenario with the id as it was, its change of that id leaves all progress
pub kept-if : (id : ℕ) (h : Progress → Progress) (xs : List ShownView) → All (λ (x : ShownView). has_id id x ≡ true → progress_of_shown x ≡ h (progress_of_shown x)) xs → map progress_of_shown xs ≡ changed id h (map progress_of_shown xs)
kept-if id h [] all = refl
kept-if id h (x ∷ xs) all = ap₂ (λ (p : Progress) ps. p ∷ ps) (kept-one h x (has_id id x) (All-head (λ (y : ShownView). has_id id y ≡ true → progress_of_shown y ≡ h (progress_of_shown y)) x xs all)) (kept-if id h xs (All-tail (λ (y : ShownView). has_id id y ≡ true → progress_of_shown y ≡ h (progress_of_shown y)) x xs all))

under-one : (f : ShownView → ShownView) (x : ShownView) (b : Bool) → under_of_shown (f x) ≡ under_of_shown x → under_of_shown (cond b (f x) x) ≡ under_of_shown x
under-one f x true is = is
under-one f x false is = refl

pub change-under : (id : ℕ) (f : ShownView → ShownView) → ((x : ShownView) → under_of_shown (f x) ≡ under_of_shown x) → (xs : List ShownView) → map under_of_shown (with_change id f xs) ≡ map under_of_shown xs
change-under id f is [] = refl
change-under id f is (x ∷ xs) = ap₂ (λ (u : Under) us. u ∷ us) (under-one f x (has_id id x) (is x)) (change-under id f is xs)

all-one : (P : ShownView → Type 0) (f : ShownView → ShownView) (x : ShownView) (b : Bool) → P x → (b ≡ true → P x → P (f x)) → P (cond b (f x) x)
all-one P f x true h k = k refl h
all-one P f x false h k = h

pub change-all : (P : ShownView → Type 0) (id : ℕ) (f : ShownView → ShownView) (xs : List ShownView) → All P xs → All (λ (x : ShownView). has_id id x ≡ true → P x → P (f x)) xs → All P (with_change id f xs)
change-all P id f [] h k = All-nil P
change-all P id f (x ∷ xs) h k =
    All-cons P (cond (has_id id x) (f x) x) (with_change id f xs)
    (all-one P f x (has_id id x) (All-head P x xs h) (All-head (λ (y : ShownView). has_id id y ≡ true → P y → P (f y)) x xs k))
    (change-all P id f xs (All-tail P x xs h) (All-tail (λ (y : ShownView). has_id id y ≡ true → P y → P (f y)) x xs k))

-- what holds of any scenario holds of all in a list
pub all-always : (P : ShownView → Type 0) → ((x : ShownView) → P x) → (xs : List ShownView) → All P xs
all-always P h [] = All-nil P
all-always P h (x ∷ xs) = All-cons P x xs (h x) (all-always P h xs)

scenario-kept : (f : ShownView → ShownView) (x : ShownView) (t : TicketView) → under_of_shown (f x) ≡ under_of_shown x → (x.id ≡ t.id → x.scenario ≡ t.scenario) → (f x).id ≡ t.id → (f x).scenario ≡ t.scenario
scenario-kept f x t is h e = ap (λ (u : Under). u.1) is ∙ h (sym (ap (λ (u : Under). u.0) is) ∙ e)

pub ticket-kept : (id : ℕ) (f : ShownView → ShownView) (next : ℕ) (xs : List ShownView) → ((x : ShownView) → under_of_shown (f x) ≡ under_of_shown x) → (t : TicketView) → IsTicketOfItsScenario xs next t → IsTicketOfItsScenario (with_change id f xs) next t
ticket-kept id f next xs is t h = record {
  scenario = change-all (λ (x : ShownView). x.id ≡ t.id → x.scenario ≡ t.scenario) id f xs h.scenario (all-always (λ (x : ShownView). has_id id x ≡ true → (x.id ≡ t.id → x.scenario ≡ t.scenario) → ((f x).id ≡ t.id → (f x).scenario ≡ t.scenario)) (λ x _. scenario-kept f x t (is x)) xs);
  given = h.given;
}

-- a sound state stays so where the scenario of one id changes in no more than its mark and a run of its version, and tickets go
pub change-sound : (s : StateView) (id : ℕ) (f : ShownView → ShownView) (ts : List TicketView) → IsSound s → ((x : ShownView) → under_of_shown (f x) ≡ under_of_shown x) → All (λ (x : ShownView). has_id id x ≡ true → IfSome x.published (IsOfItsVersion s.opening s.edits x.scenario) → IfSome (f x).published (IsOfItsVersion s.opening s.edits (f x).scenario)) s.shown → ((P : TicketView → Type 0) → All P s.tickets → All P ts) → length ts ≤ length s.tickets → IsSound (record s { shown = with_change id f s.shown; tickets = ts })
change-sound s id f ts h is runs part le = record {
  spacing = h.spacing;
  opening = h.opening;
  accepted = h.accepted;
  current = h.current;
  listed = change-under id f is s.shown ∙ h.listed;
  ids = h.ids;
  runs = change-all (λ (x : ShownView). IfSome x.published (IsOfItsVersion s.opening s.edits x.scenario)) id f s.shown h.runs runs;
  tickets = part (IsTicketOfItsVersion s.opening s.edits) h.tickets;
  claimed = All-weaker (IsTicketOfItsScenario s.shown s.listing.next) (IsTicketOfItsScenario (with_change id f s.shown) s.listing.next) (ticket-kept id f s.listing.next s.shown is) ts (part (IsTicketOfItsScenario s.shown s.listing.next) h.claimed);
  few = omega (arith, h.few);
}

-- a step of a state is a step of an equal one
pub seen-as : {s v new : StateView} {call : BookCall} {r : Reply} → s ≡ v → IsStep s new call r → IsStep v new call r
seen-as {s} {v} {new} {call} {r} is h = subst (λ (w : StateView). IsStep w new call r) is h

-- a step that changes nothing of a state is one that changes nothing of an equal one
pub still-as : {s v : StateView} {call : BookCall} {r : Reply} → s ≡ v → IsStep s s call r → IsStep v v call r
still-as {s} {v} {call} {r} is h = subst (λ (w : StateView). IsStep w w call r) is h

-- an option that holds nothing is None
pub none-of : {X : Type 0} (o : Option X) → is_some o ≡ false → o ≡ None
none-of None is = refl
none-of (Some x) is = cc

-- where a call returns Ok, which it would not with a fault, there is no fault
pub none-outcome : {R E : Type 0} (o : Option E) (x : R) → MatchOption o ⊤ (λ (f : E). Ok x ≡ Err f) → o ≡ None
none-outcome None x h = refl
none-outcome (Some f) x h = cc

-- an option that holds something is Some of it
pub some-of : {X : Type 0} (o : Option X) → is_some o ≡ true → (x : X) × (o ≡ Some x)
some-of None is = cc
some-of (Some x) is = (x, refl)

-- an option that makes an Ok result, with an error for None, is Some of its value
pub ok-outcome : {R E : Type 0} (o : Option R) (e : E) (x : R) → ◌≡◌ {A = Result R E} (Ok x) (ok_or o e) → o ≡ Some x
ok-outcome None e x is = cc
ok-outcome (Some y) e x is = cc

-- a mapped option holds something exactly where the option does
pub is_some-map : {X Y : Type 0} (f : X → Y) (o : Option X) → is_some (option_map f o) ≡ is_some o
is_some-map f None = refl
is_some-map f (Some x) = refl

-- no test is both true and false
pub not-both : (b : Bool) → b ≡ false → b ≡ true → ⊥
not-both true f t = cc
not-both false f t = cc

fault-of : (named taken full : Bool) → (cond (not named) (Some BadName) (cond taken (Some NameTaken) (cond full (Some TooMany) None))) ≡ None → full ≡ false
fault-of false taken full is = cc
fault-of true true full is = cc
fault-of true false true is = cc
fault-of true false false is = refl

first-false : (a b : Bool) → (a || b) ≡ false → a ≡ false
first-false true b is = cc
first-false false b is = refl

below-of : (n : ℕ) → nat_le 64 n ≡ false → n < 64
below-of n is = grind (arith, nat_tests)

-- where a scenario can be added under a name, fewer than 64 are shown
pub shown-capacity : (xs : List ShownView) (name : List ℕ) (list : Listing) → AreListed xs list → add_fault name list ≡ None → length xs < 64
shown-capacity xs name list listed none =
    let full = fault-of (is_name name) (is_some (id_of name list)) (nat_le 64 (length list.scenarios) || nat_lt 4294967295 list.next) none in
    let below = below-of (length list.scenarios) (first-false (nat_le 64 (length list.scenarios)) (nat_lt 4294967295 list.next) full) in
    omega (arith, below, length-map xs under_of_shown, length-map list.scenarios under_of_listed, ap length listed)

pub opening-sound : (log : List LogEntry) (spacing : ℕ) → IsSpacing spacing → IsTable log → IsSound (opening_state log spacing)
opening-sound log spacing within table = record {
  spacing = within;
  opening = table;
  accepted = tt;
  current = refl;
  listed = refl;
  ids = omega arith;
  runs = All-nil (λ (x : ShownView). IfSome x.published (IsOfItsVersion log [] x.scenario));
  tickets = All-nil (IsTicketOfItsVersion log []);
  claimed = All-nil (IsTicketOfItsScenario [] 1);
  few = omega arith;
}

-- the state of a log that was just opened, without edits, scenarios and tickets, is sound
pub opened-sound : (log o k : List LogEntry) (spacing : ℕ) (es : List LogEdit) (list : Listing) (xs : List ShownView) (ts : List TicketView) → IsSpacing spacing → IsTable log → o ≡ log → k ≡ o → es ≡ [] → list ≡ empty → xs ≡ [] → ts ≡ [] → IsSound (record { spacing = spacing; opening = o; current = k; edits = es; listing = list; shown = xs; tickets = ts; next_ticket = 1 })
opened-sound log o k spacing es list xs ts within table o_is k_is es_is list_is xs_is ts_is =
    let s : StateView = record { spacing = spacing; opening = o; current = k; edits = es; listing = list; shown = xs; tickets = ts; next_ticket = 1 } in
    let is : s ≡ opening_state log spacing = cc in
    subst IsSound (sym is) (opening-sound log spacing within table)

-- a call that does what it answers to a state does so to an equal state by an equal answer
pub does-as : {s v : StateView} (new : StateView) (call : BookCall) {a b : Answer} → s ≡ v → a ≡ b → Does s new call a → Does v new call b
does-as {s} {v} new call {a} {b} is same h = subst (λ (w : StateView). Does w new call b) is (subst (λ (q : Answer). Does s new call q) same h)

-- a sound state is sound with an equal listing
pub sound-listing : (s : StateView) (list : Listing) → list ≡ s.listing → IsSound s → IsSound (record s { listing = list })
sound-listing s list is h = subst (λ (l : Listing). IsSound (record s { listing = l })) (sym is) h

-- a list with one more at its end, both seen through a function, is the list so seen with that one at its end
pub map-push : {X Y : Type 0} (f : X → Y) (xs ys zs : List X) (k : X) (e : Y) → zs ≡ ys ++ k ∷ [] → ys ≡ xs → f k ≡ e → map f zs ≡ map f xs ++ e ∷ []
map-push f xs ys zs k e zs_is ys_is k_is = ap (map f) (zs_is ∙ ap (λ l. l ++ k ∷ []) ys_is) ∙ (map-append f xs (k ∷ []) ∙ ap (λ y. map f xs ++ y ∷ []) k_is)
