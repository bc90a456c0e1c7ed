-- The steps of the workers' calls: runs that are handed in, tickets that are given up, and claims, answered as the machine answers them.
use Rattle.std.proofs.Common.{◌≡◌, ℕ, ◌+◌, ◌≤◌, ◌<◌, ◌==◌, ◌&&◌, List, [], ◌∷◌, ◌++◌, length, map, refl, sym, ◌∙◌, ap, ap₂, subst, Bool, Bor, true, false, not, cond, arith}
use Rattle.std.specs.Prelude.{Option, None, Some, Result, Ok, Err, IfOk, IfSome, IsTrue, find, filter, is_none, is_some, option_copied, unwrap_or}
use Rattle.std.specs.List.{All}
use Rattle.std.specs.Option.{option_map}
use Rattle.std.proofs.lemmas.Bool.{eqb-true, eq-eqb, ne_eqb}
use Rattle.std.proofs.lemmas.Bool.Decides.{nat_tests}
use Rattle.std.proofs.lemmas.List.{map-append, length-map, length_push}
use Rattle.std.proofs.lemmas.List.Elements.{All-push, All-filter, All-weaker}
use Rattle.checkpoints.specs.RunView.{RunView, IsRun}
use Rattle.book_machine.specs.declared.reply.Reply.{Reply}
use Rattle.book_machine.specs.declared.reply.Reply.TheVariants as reply
use Rattle.book_machine.specs.Call.{Claim, Finish, GiveUp}
use Rattle.book_machine.specs.Machine.{Machine, Progress, Ticket, version, is_below, is_due, due, are_all_out, changed, closed, publish, marked, finish_reply_at, ticket_of}
use Rattle.tasks.specs.Published.{PublishedView}
use Rattle.tasks.specs.Tickets.{HasThoseOf, TicketView, has_number}
use Rattle.version_book.specs.Book.{ShownView, StateView, machine_at, progress_of_shown, ticket_of_view, published_version}
use Rattle.version_book.specs.Sound.{IsSound, IsOfItsVersion, IsTicketOfItsVersion, IsTicketOfItsScenario}
use Rattle.version_book.specs.Steps.{Does, IsStep, Publishes}
use Rattle.version_book.specs.Answers.{TellsFit, TellsStanding, finish_answer, fitted, outcome_of_run}
use Rattle.version_book.specs.declared.faults.FinishFault.{FinishFault}
use Rattle.version_book.specs.declared.faults.FinishFault.TheVariants as finish
use Rattle.version_book.specs.declared.refusal.Refusal.{Refusal}
use Rattle.version_book.specs.declared.refusal.Refusal.TheVariants as why
use Rattle.version_book.specs.Tasks.{Fits, PublishesFitting, Stands, due_shown}
use Rattle.version_book.specs.Lookups.{has_id, is_mark, is_due_at, marking, publishing, version_shown, with_change}
use Rattle.version_book.proofs.Keeping.{keeps-change, keeps-put, keeps-same}
use Rattle.version_book.proofs.Lists.{find-map, filter-map, list_any-map, find-All, length-filter-le}
use Rattle.version_book.proofs.Logs.{log_at-now}
use Rattle.version_book.proofs.Ids.{ids-alike, ids-given, ids-below}
use Rattle.version_book.proofs.Stepping.{still, published-shown, ticket-view, change-progress, change-if, kept-if, change-sound, all-always}

abbrev pub left : ℕ → List TicketView → List TicketView
left n ts = filter (λ (t : TicketView). not (has_number n t)) ts

closed-left : (n : ℕ) (ts : List TicketView) → closed n (map ticket_of_view ts) ≡ map ticket_of_view (left n ts)
closed-left n ts = filter-map ticket_of_view (λ (t : Ticket). not (t.number == n)) ts

left-part : (n : ℕ) (ts : List TicketView) (P : TicketView → Type 0) → All P ts → All P (left n ts)
left-part n ts P h = All-filter (λ (t : TicketView). not (has_number n t)) P ts h

tickets-sound : (s : StateView) (n : ℕ) → IsSound s → IsSound (record s { tickets = left n s.tickets })
tickets-sound s n h = record {
  spacing = h.spacing;
  opening = h.opening;
  accepted = h.accepted;
  current = h.current;
  listed = h.listed;
  ids = h.ids;
  runs = h.runs;
  tickets = left-part n s.tickets (IsTicketOfItsVersion s.opening s.edits) h.tickets;
  claimed = left-part n s.tickets (IsTicketOfItsScenario s.shown s.listing.next) h.claimed;
  few = omega (arith, h.few, length-filter-le (λ (t : TicketView). not (has_number n t)) s.tickets);
}

there : (s : StateView) (n : ℕ) (o : Option TicketView) (k : ℕ) → find (has_number n) s.tickets ≡ o → ticket_of n (machine_at k s).tickets ≡ option_map ticket_of_view o
there s n o k is = ticket-view n s.tickets ∙ ap (option_map ticket_of_view) is

abbrev finish_replied : Machine → Bool → Option Ticket → Reply
finish_replied m fits o = elim o [ None ↦ reply.UnknownTicket | Some t ↦ cond fits (finish_reply_at t m) reply.Stranger ]

abbrev finish_changed : ℕ → Machine → Bool → Option Ticket → Machine
finish_changed n m fits o = elim o [
  | None ↦ m
  | Some t ↦ cond fits (record m { progress = changed t.id (publish t.version) m.progress; tickets = closed n m.tickets }) m
]

-- a run that is handed in under a number that no ticket has is a step of the machine that changes nothing
pub finish-unknown : (s : StateView) (n : ℕ) → IsSound s → find (has_number n) s.tickets ≡ None → IsStep s s (Finish n false) reply.UnknownTicket
finish-unknown s n h is = still s (Finish n false) reply.UnknownTicket h (λ k. sym (ap (finish_replied (machine_at k s) false) (there s n None k is))) (λ k. sym (ap (finish_changed n (machine_at k s) false) (there s n None k is)))

-- a run that does not fit a standing ticket is a step of the machine that changes nothing
pub finish-stranger : (s : StateView) (n : ℕ) (t : TicketView) → IsSound s → find (has_number n) s.tickets ≡ Some t → IsStep s s (Finish n false) reply.Stranger
finish-stranger s n t h is = still s (Finish n false) reply.Stranger h (λ k. sym (ap (finish_replied (machine_at k s) false) (there s n (Some t) k is))) (λ k. sym (ap (finish_changed n (machine_at k s) false) (there s n (Some t) k is)))

abbrev with_both : StateView → ℕ → List Progress → List Ticket → Machine
with_both s k ps ts = record (machine_at k s) { progress = ps; tickets = ts }

abbrev finish_said : ℕ → Option ℕ → Reply
finish_said v o = cond (is_below o v) (reply.Finished v) (reply.Stale (unwrap_or o 0))

finish-said : (s : StateView) (n : ℕ) (t : TicketView) (k : ℕ) → find (has_number n) s.tickets ≡ Some t → finish_said t.version (version_shown t.id s.shown) ≡ finish_replied (machine_at k s) true (ticket_of n (machine_at k s).tickets)
finish-said s n t k is = ap (finish_said t.version) (sym (published-shown t.id s.shown)) ∙ sym (ap (finish_replied (machine_at k s) true) (there s n (Some t) k is))

kept-below : (x : ShownView) (v : ℕ) → is_below (published_version x) v ≡ false → progress_of_shown x ≡ publish v (progress_of_shown x)
kept-below x v is = sym (ap (λ (b : Bool). cond b (record (progress_of_shown x) { published = Some v }) (progress_of_shown x)) is)

put-below : (x : ShownView) (p : PublishedView) → is_below (published_version x) p.version ≡ true → progress_of_shown (publishing p x) ≡ publish p.version (progress_of_shown x)
put-below x p is = sym (ap (λ (b : Bool). cond b (record (progress_of_shown x) { published = Some p.version }) (progress_of_shown x)) is)

stale-progress : (s : StateView) (id v : ℕ) → IsSound s → is_below (version_shown id s.shown) v ≡ false → map progress_of_shown s.shown ≡ changed id (publish v) (map progress_of_shown s.shown)
stale-progress s id v h above =
    kept-if id (publish v) s.shown (All-weaker (λ (x : ShownView). has_id id x ≡ true → is_below (published_version x) v ≡ is_below (version_shown id s.shown) v) (λ (x : ShownView). has_id id x ≡ true → progress_of_shown x ≡ publish v (progress_of_shown x)) (λ x same has. kept-below x v (same has ∙ above)) s.shown (ids-below id v s.shown s.listing h.listed h.ids))

stale-step : (s : StateView) (n : ℕ) (t : TicketView) → IsSound s → find (has_number n) s.tickets ≡ Some t → is_below (version_shown t.id s.shown) t.version ≡ false → IsStep s (record s { tickets = left n s.tickets }) (Finish n true) (reply.Stale (unwrap_or (version_shown t.id s.shown) 0))
stale-step s n t h is above = record {
  reply = λ k. sym (ap (λ (b : Bool). cond b (reply.Finished t.version) (reply.Stale (unwrap_or (version_shown t.id s.shown) 0))) above) ∙ finish-said s n t k is;
  state = λ k. ap₂ (with_both s k) (stale-progress s t.id t.version h above) (sym (closed-left n s.tickets)) ∙ sym (ap (finish_changed n (machine_at k s) true) (there s n (Some t) k is));
  spacing = refl;
  runs = keeps-same s (record s { tickets = left n s.tickets }) (reply.Stale (unwrap_or (version_shown t.id s.shown) 0)) refl;
  sound = tickets-sound s n h;
}

pub finish-stale : (s : StateView) (n : ℕ) (t : TicketView) (ts : List TicketView) (o : Option ℕ) (found : ℕ) → IsSound s → find (has_number n) s.tickets ≡ Some t → o ≡ version_shown t.id s.shown → is_below o t.version ≡ false → ts ≡ left n s.tickets → found ≡ unwrap_or o 0 → IsStep s (record s { tickets = ts }) (Finish n true) (reply.Stale found)
finish-stale s n t ts o found h is o_is above ts_is found_is =
    let above' : is_below (version_shown t.id s.shown) t.version ≡ false = subst (λ (q : Option ℕ). is_below q t.version ≡ false) o_is above in
    let found' : found ≡ unwrap_or (version_shown t.id s.shown) 0 = found_is ∙ ap (λ (q : Option ℕ). unwrap_or q 0) o_is in
    subst (λ (us : List TicketView). IsStep s (record s { tickets = us }) (Finish n true) (reply.Stale found)) (sym ts_is) (subst (λ (v : ℕ). IsStep s (record s { tickets = left n s.tickets }) (Finish n true) (reply.Stale v)) (sym found') (stale-step s n t h is above'))

abbrev PutRun : StateView → PublishedView → ShownView → Type 0
PutRun s p x = IfSome x.published (IsOfItsVersion s.opening s.edits x.scenario) → IsOfItsVersion s.opening s.edits x.scenario p

put-run : (s : StateView) (n : ℕ) (t : TicketView) (run : RunView) → IsSound s → find (has_number n) s.tickets ≡ Some t → IsRun run → run.log ≡ t.log → run.scenario ≡ t.scenario → All (λ (x : ShownView). has_id t.id x ≡ true → PutRun s (record { version = t.version; run = run }) x) s.shown
put-run s n t run h is sound log scenario =
    let made : IsTicketOfItsVersion s.opening s.edits t = find-All (IsTicketOfItsVersion s.opening s.edits) (has_number n) s.tickets t h.tickets is in
    let claimed : IsTicketOfItsScenario s.shown s.listing.next t = find-All (IsTicketOfItsScenario s.shown s.listing.next) (has_number n) s.tickets t h.claimed is in
    All-weaker (λ (x : ShownView). x.id ≡ t.id → x.scenario ≡ t.scenario) (λ (x : ShownView). has_id t.id x ≡ true → PutRun s (record { version = t.version; run = run }) x) (λ x same has _. record { made = made.made; log = log ∙ made.log; scenario = scenario ∙ sym (same (eqb-true x.id t.id has)); run = sound }) s.shown claimed.scenario

put-progress : (s : StateView) (id : ℕ) (p : PublishedView) → IsSound s → is_below (version_shown id s.shown) p.version ≡ true → map progress_of_shown (with_change id (publishing p) s.shown) ≡ changed id (publish p.version) (map progress_of_shown s.shown)
put-progress s id p h below =
    change-if id (publishing p) (publish p.version) s.shown (All-weaker (λ (x : ShownView). has_id id x ≡ true → is_below (published_version x) p.version ≡ is_below (version_shown id s.shown) p.version) (λ (x : ShownView). has_id id x ≡ true → progress_of_shown (publishing p x) ≡ publish p.version (progress_of_shown x)) (λ x same has. put-below x p (same has ∙ below)) s.shown (ids-below id p.version s.shown s.listing h.listed h.ids))

finish-step : (s : StateView) (n : ℕ) (t : TicketView) (run : RunView) → IsSound s → find (has_number n) s.tickets ≡ Some t → is_below (version_shown t.id s.shown) t.version ≡ true → IsRun run → run.log ≡ t.log → run.scenario ≡ t.scenario → IsStep s (record s { shown = with_change t.id (publishing (record { version = t.version; run = run })) s.shown; tickets = left n s.tickets }) (Finish n true) (reply.Finished t.version)
finish-step s n t run h is below sound log scenario =
    let p : PublishedView = record { version = t.version; run = run } in
    record {
      reply = λ k. sym (ap (λ (b : Bool). cond b (reply.Finished t.version) (reply.Stale (unwrap_or (version_shown t.id s.shown) 0))) below) ∙ finish-said s n t k is;
      state = λ k. ap₂ (with_both s k) (put-progress s t.id p h below) (sym (closed-left n s.tickets)) ∙ sym (ap (finish_changed n (machine_at k s) true) (there s n (Some t) k is));
      spacing = refl;
      runs = keeps-put s (record s { shown = with_change t.id (publishing p) s.shown; tickets = left n s.tickets }) t.id t.version p refl refl;
      sound = change-sound s t.id (publishing p) (left n s.tickets) h (λ x. refl) (put-run s n t run h is sound log scenario) (left-part n s.tickets) (length-filter-le (λ (u : TicketView). not (has_number n u)) s.tickets);
    }

pub finish-published : (s : StateView) (n : ℕ) (t : TicketView) (run : RunView) (xs : List ShownView) (ts : List TicketView) (o : Option ℕ) → IsSound s → find (has_number n) s.tickets ≡ Some t → o ≡ version_shown t.id s.shown → is_below o t.version ≡ true → IsRun run → run.log ≡ t.log → run.scenario ≡ t.scenario → xs ≡ with_change t.id (publishing (record { version = t.version; run = run })) s.shown → ts ≡ left n s.tickets → IsStep s (record s { shown = xs; tickets = ts }) (Finish n true) (reply.Finished t.version)
finish-published s n t run xs ts o h is o_is below sound log scenario xs_is ts_is =
    let below' : is_below (version_shown t.id s.shown) t.version ≡ true = subst (λ (q : Option ℕ). is_below q t.version ≡ true) o_is below in
    subst (λ (ys : List ShownView). IsStep s (record s { shown = ys; tickets = ts }) (Finish n true) (reply.Finished t.version)) (sym xs_is) (subst (λ (us : List TicketView). IsStep s (record s { shown = with_change t.id (publishing (record { version = t.version; run = run })) s.shown; tickets = us }) (Finish n true) (reply.Finished t.version)) (sym ts_is) (finish-step s n t run h is below' sound log scenario))

abbrev give_up_replied : Option Ticket → Reply
give_up_replied o = cond (is_some o) reply.GivenUp reply.UnknownTicket

abbrev give_up_changed : ℕ → Machine → Option Ticket → Machine
give_up_changed n m o = elim o [ None ↦ m | Some t ↦ record m { progress = marked t m; tickets = closed n m.tickets } ]

-- to give up a number that no ticket has is a step of the machine that changes nothing
pub give_up-unknown : (s : StateView) (n : ℕ) → IsSound s → find (has_number n) s.tickets ≡ None → IsStep s s (GiveUp n) reply.UnknownTicket
give_up-unknown s n h is = still s (GiveUp n) reply.UnknownTicket h (λ k. sym (ap give_up_replied (there s n None k is))) (λ k. sym (ap (give_up_changed n (machine_at k s)) (there s n None k is)))

abbrev mark_now : ℕ → ℕ → List Progress → Bool → List Progress
mark_now id v ps b = cond b (changed id (λ (p : Progress). record p { mark = Some v }) ps) ps

other-step : (s : StateView) (n : ℕ) (t : TicketView) → IsSound s → find (has_number n) s.tickets ≡ Some t → (t.version ≡ length s.edits → ⊥) → IsStep s (record s { tickets = left n s.tickets }) (GiveUp n) reply.GivenUp
other-step s n t h is other =
    let test : (t.version == length s.edits) ≡ false = ne_eqb t.version (length s.edits) other in
    record {
      reply = λ k. sym (ap give_up_replied (there s n (Some t) k is));
      state = λ k. ap₂ (with_both s k) (sym (ap (mark_now t.id t.version (map progress_of_shown s.shown)) test)) (sym (closed-left n s.tickets)) ∙ sym (ap (give_up_changed n (machine_at k s)) (there s n (Some t) k is));
      spacing = refl;
      runs = keeps-same s (record s { tickets = left n s.tickets }) reply.GivenUp refl;
      sound = tickets-sound s n h;
    }

pub give_up-other : (s : StateView) (n : ℕ) (t : TicketView) (ts : List TicketView) → IsSound s → find (has_number n) s.tickets ≡ Some t → (t.version ≡ length s.edits → ⊥) → ts ≡ left n s.tickets → IsStep s (record s { tickets = ts }) (GiveUp n) reply.GivenUp
give_up-other s n t ts h is other ts_is = subst (λ (us : List TicketView). IsStep s (record s { tickets = us }) (GiveUp n) reply.GivenUp) (sym ts_is) (other-step s n t h is other)

now-step : (s : StateView) (n : ℕ) (t : TicketView) → IsSound s → find (has_number n) s.tickets ≡ Some t → t.version ≡ length s.edits → IsStep s (record s { shown = with_change t.id (marking t.version) s.shown; tickets = left n s.tickets }) (GiveUp n) reply.GivenUp
now-step s n t h is now =
    let test : (t.version == length s.edits) ≡ true = eq-eqb t.version (length s.edits) now in
    record {
      reply = λ k. sym (ap give_up_replied (there s n (Some t) k is));
      state = λ k. ap₂ (with_both s k) (change-progress t.id (marking t.version) (λ (p : Progress). record p { mark = Some t.version }) (λ x. refl) s.shown ∙ sym (ap (mark_now t.id t.version (map progress_of_shown s.shown)) test)) (sym (closed-left n s.tickets)) ∙ sym (ap (give_up_changed n (machine_at k s)) (there s n (Some t) k is));
      spacing = refl;
      runs = keeps-change s (record s { shown = with_change t.id (marking t.version) s.shown; tickets = left n s.tickets }) reply.GivenUp t.id (marking t.version) (λ x. refl) (λ x. refl) refl;
      sound = change-sound s t.id (marking t.version) (left n s.tickets) h (λ x. refl) (all-always (λ (x : ShownView). has_id t.id x ≡ true → IfSome x.published (IsOfItsVersion s.opening s.edits x.scenario) → IfSome x.published (IsOfItsVersion s.opening s.edits x.scenario)) (λ x _ r. r) s.shown) (left-part n s.tickets) (length-filter-le (λ (u : TicketView). not (has_number n u)) s.tickets);
    }

pub give_up-now : (s : StateView) (n : ℕ) (t : TicketView) (xs : List ShownView) (ts : List TicketView) → IsSound s → find (has_number n) s.tickets ≡ Some t → t.version ≡ length s.edits → xs ≡ with_change t.id (marking t.version) s.shown → ts ≡ left n s.tickets → IsStep s (record s { shown = xs; tickets = ts }) (GiveUp n) reply.GivenUp
give_up-now s n t xs ts h is now xs_is ts_is =
    subst (λ (ys : List ShownView). IsStep s (record s { shown = ys; tickets = ts }) (GiveUp n) reply.GivenUp) (sym xs_is) (subst (λ (us : List TicketView). IsStep s (record s { shown = with_change t.id (marking t.version) s.shown; tickets = us }) (GiveUp n) reply.GivenUp) (sym ts_is) (now-step s n t h is now))

marked-at : (o : Option ℕ) (v : ℕ) → (elim o [ None ↦ false | Some w ↦ w == v ]) ≡ is_mark o v
marked-at None v = refl
marked-at (Some w) v = refl

due-at : (s : StateView) (k : ℕ) (x : ShownView) → is_due (machine_at k s) (progress_of_shown x) ≡ is_due_at (length s.edits) s.tickets x
due-at s k x = ap₂ (λ (a b : Bool). is_below (published_version x) (length s.edits) && not a && not b) (marked-at x.mark (length s.edits)) (list_any-map ticket_of_view (λ (t : Ticket). t.id == x.id && t.version == length s.edits) s.tickets)

find-same : {X : Type 0} (p q : X → Bool) (xs : List X) → ((x : X) → p x ≡ q x) → find p xs ≡ find q xs
find-same p q [] same = refl
find-same p q (x ∷ xs) same = ap₂ (λ b o. cond b (Some x) o) (same x) (find-same p q xs same)

-- the first scenario that is due is the first that is due at the current version by the standing tickets
pub due-shown : (s : StateView) → due_shown s ≡ find (is_due_at (length s.edits) s.tickets) s.shown
due-shown s = find-same (λ (x : ShownView). is_due (machine_at 0 s) (progress_of_shown x)) (is_due_at (length s.edits) s.tickets) s.shown (due-at s 0)

due-is : (s : StateView) (k : ℕ) (o : Option ShownView) → find (is_due_at (length s.edits) s.tickets) s.shown ≡ o → due (machine_at k s) ≡ option_map progress_of_shown o
due-is s k o is =
    find-map progress_of_shown (is_due (machine_at k s)) s.shown
    ∙ (ap (option_map progress_of_shown) (find-same (λ (x : ShownView). is_due (machine_at k s) (progress_of_shown x)) (is_due_at (length s.edits) s.tickets) s.shown (due-at s k))
    ∙ ap (option_map progress_of_shown) is)

abbrev claim_replied : Machine → Option Progress → Reply
claim_replied m o = elim o [ None ↦ reply.NoneDue | Some p ↦ cond (are_all_out m) reply.TooManyTickets (reply.Claimed m.next_ticket p.id (version m) p.published) ]

abbrev claim_changed : Machine → Option Progress → Machine
claim_changed m o = elim o [
  | None ↦ m
  | Some p ↦ cond (are_all_out m) m (record m { tickets = m.tickets ++ record { number = m.next_ticket; id = p.id; version = version m } ∷ []; next_ticket = m.next_ticket + 1 })
]

-- a claim where no scenario is due is a step of the machine that changes nothing
pub claim-idle : (s : StateView) → IsSound s → find (is_due_at (length s.edits) s.tickets) s.shown ≡ None → IsStep s s Claim reply.NoneDue
claim-idle s h is = still s Claim reply.NoneDue h (λ k. sym (ap (claim_replied (machine_at k s)) (due-is s k None is))) (λ k. sym (ap (claim_changed (machine_at k s)) (due-is s k None is)))

all-out : (s : StateView) (k : ℕ) → 256 ≤ length s.tickets → are_all_out (machine_at k s) ≡ true
all-out s k le = let same = length-map s.tickets ticket_of_view in let le' : 256 ≤ length (map ticket_of_view s.tickets) = omega arith in grind (arith, nat_tests)

not-all-out : (s : StateView) (k : ℕ) → length s.tickets < 256 → are_all_out (machine_at k s) ≡ false
not-all-out s k lt = let same = length-map s.tickets ticket_of_view in let lt' : length (map ticket_of_view s.tickets) < 256 = omega arith in grind (arith, nat_tests)

-- a claim where a scenario is due, and at least 256 tickets stand, is a step of the machine that changes nothing
pub claim-busy : (s : StateView) (x : ShownView) → IsSound s → find (is_due_at (length s.edits) s.tickets) s.shown ≡ Some x → 256 ≤ length s.tickets → IsStep s s Claim reply.TooManyTickets
claim-busy s x h is le =
    still s Claim reply.TooManyTickets h
    (λ k. sym (ap (claim_replied (machine_at k s)) (due-is s k (Some x) is) ∙ ap (λ (b : Bool). cond b reply.TooManyTickets (reply.Claimed s.next_ticket x.id (length s.edits) (published_version x))) (all-out s k le)))
    (λ k. sym (ap (claim_changed (machine_at k s)) (due-is s k (Some x) is) ∙ ap (λ (b : Bool). cond b (machine_at k s) (record (machine_at k s) { tickets = (machine_at k s).tickets ++ record { number = s.next_ticket; id = x.id; version = length s.edits } ∷ []; next_ticket = s.next_ticket + 1 })) (all-out s k le)))

abbrev new_ticket : StateView → ShownView → TicketView
new_ticket s x = record { number = s.next_ticket; id = x.id; version = length s.edits; log = s.current; scenario = x.scenario }

claim-sound : (s : StateView) (x : ShownView) → IsSound s → find (is_due_at (length s.edits) s.tickets) s.shown ≡ Some x → length s.tickets < 256 → IsSound (record s { tickets = s.tickets ++ new_ticket s x ∷ []; next_ticket = s.next_ticket + 1 })
claim-sound s x h is lt = record {
  spacing = h.spacing;
  opening = h.opening;
  accepted = h.accepted;
  current = h.current;
  listed = h.listed;
  ids = h.ids;
  runs = h.runs;
  tickets = All-push (IsTicketOfItsVersion s.opening s.edits) s.tickets (new_ticket s x) h.tickets (record { made = omega arith; log = h.current ∙ sym (log_at-now s.opening s.edits) });
  claimed = All-push (IsTicketOfItsScenario s.shown s.listing.next) s.tickets (new_ticket s x) h.claimed (record { scenario = ids-alike (is_due_at (length s.edits) s.tickets) s.shown s.listing x h.listed h.ids is; given = find-All (λ (y : ShownView). y.id < s.listing.next) (is_due_at (length s.edits) s.tickets) s.shown x (ids-given s.shown s.listing h.listed h.ids) is });
  few = omega (arith, length_push s.tickets (new_ticket s x));
}

claim-step : (s : StateView) (x : ShownView) → IsSound s → find (is_due_at (length s.edits) s.tickets) s.shown ≡ Some x → length s.tickets < 256 → IsStep s (record s { tickets = s.tickets ++ new_ticket s x ∷ []; next_ticket = s.next_ticket + 1 }) Claim (reply.Claimed s.next_ticket x.id (length s.edits) (published_version x))
claim-step s x h is lt = record {
  reply = λ k. sym (ap (claim_replied (machine_at k s)) (due-is s k (Some x) is) ∙ ap (λ (b : Bool). cond b reply.TooManyTickets (reply.Claimed s.next_ticket x.id (length s.edits) (published_version x))) (not-all-out s k lt));
  state = λ k. ap (λ (ts : List Ticket). let m : Machine = record (machine_at k s) { tickets = ts; next_ticket = s.next_ticket + 1 } in m) (map-append ticket_of_view s.tickets (new_ticket s x ∷ [])) ∙ sym (ap (claim_changed (machine_at k s)) (due-is s k (Some x) is) ∙ ap (λ (b : Bool). cond b (machine_at k s) (record (machine_at k s) { tickets = (machine_at k s).tickets ++ record { number = s.next_ticket; id = x.id; version = length s.edits } ∷ []; next_ticket = s.next_ticket + 1 })) (not-all-out s k lt));
  spacing = refl;
  runs = keeps-same s (record s { tickets = s.tickets ++ new_ticket s x ∷ []; next_ticket = s.next_ticket + 1 }) (reply.Claimed s.next_ticket x.id (length s.edits) (published_version x)) refl;
  sound = claim-sound s x h is lt;
}

-- a claim of the first scenario that is due, where fewer than 256 tickets stand, puts its ticket behind them and is a step of the machine
pub claim-given : (s : StateView) (x : ShownView) (ts : List TicketView) (r : Reply) → IsSound s → find (is_due_at (length s.edits) s.tickets) s.shown ≡ Some x → length s.tickets < 256 → ts ≡ s.tickets ++ new_ticket s x ∷ [] → r ≡ reply.Claimed s.next_ticket x.id (length s.edits) (published_version x) → IsStep s (record s { tickets = ts; next_ticket = s.next_ticket + 1 }) Claim r
claim-given s x ts r h is lt ts_is r_is =
    subst (λ (us : List TicketView). IsStep s (record s { tickets = us; next_ticket = s.next_ticket + 1 }) Claim r) (sym ts_is) (subst (λ (q : Reply). IsStep s (record s { tickets = s.tickets ++ new_ticket s x ∷ []; next_ticket = s.next_ticket + 1 }) Claim q) (sym r_is) (claim-step s x h is lt))

-- what is published for a scenario that is found is of its version
pub found-run : (s : StateView) (x : ShownView) (p : ShownView → Bool) → IsSound s → find p s.shown ≡ Some x → IfSome x.published (IsOfItsVersion s.opening s.edits x.scenario)
found-run s x p h is = find-All (λ (y : ShownView). IfSome y.published (IsOfItsVersion s.opening s.edits y.scenario)) p s.shown x h.runs is

-- a run of a ticket's log and scenario that is published, where nothing as new is, and closes the ticket, is a step of the machine
pub finish-with : (s : StateView) (n : ℕ) (t : TicketView) (id v : ℕ) (run : RunView) (xs : List ShownView) (ts : List TicketView) (o : Option ℕ) → IsSound s → find (has_number n) s.tickets ≡ Some t → id ≡ t.id → v ≡ t.version → o ≡ version_shown id s.shown → is_below o v ≡ true → IsRun run → run.log ≡ t.log → run.scenario ≡ t.scenario → xs ≡ with_change id (publishing (record { version = v; run = run })) s.shown → ts ≡ left n s.tickets → IsStep s (record s { shown = xs; tickets = ts }) (Finish n true) (reply.Finished v)
finish-with s n t id v run xs ts o h is id_is v_is o_is below sound log scenario xs_is ts_is =
    subst (λ (w : ℕ). IsStep s (record s { shown = xs; tickets = ts }) (Finish n true) (reply.Finished w)) (sym v_is) (finish-published s n t run xs ts o h is (o_is ∙ ap (λ i. version_shown i s.shown) id_is) (subst (λ (w : ℕ). is_below o w ≡ true) v_is below) sound log scenario (xs_is ∙ ap₂ (λ i w. with_change i (publishing (record { version = w; run = run })) s.shown) id_is v_is) ts_is)

-- a run that fits a ticket, and only closes it, where a version at least as new is published, is a step of the machine
pub stale-with : (s : StateView) (n : ℕ) (t : TicketView) (id v : ℕ) (ts : List TicketView) (o : Option ℕ) (found : ℕ) → IsSound s → find (has_number n) s.tickets ≡ Some t → id ≡ t.id → v ≡ t.version → o ≡ version_shown id s.shown → is_below o v ≡ false → ts ≡ left n s.tickets → found ≡ unwrap_or o 0 → IsStep s (record s { tickets = ts }) (Finish n true) (reply.Stale found)
stale-with s n t id v ts o found h is id_is v_is o_is above ts_is found_is = finish-stale s n t ts o found h is (o_is ∙ ap (λ i. version_shown i s.shown) id_is) (subst (λ (w : ℕ). is_below o w ≡ false) v_is above) ts_is found_is

-- to give up a ticket of the current version, which is closed and marks its scenario, is a step of the machine
pub now-with : (s : StateView) (n : ℕ) (t : TicketView) (id v : ℕ) (xs : List ShownView) (ts : List TicketView) → IsSound s → find (has_number n) s.tickets ≡ Some t → id ≡ t.id → v ≡ t.version → v ≡ length s.edits → xs ≡ with_change id (marking v) s.shown → ts ≡ left n s.tickets → IsStep s (record s { shown = xs; tickets = ts }) (GiveUp n) reply.GivenUp
now-with s n t id v xs ts h is id_is v_is now xs_is ts_is = give_up-now s n t xs ts h is (sym v_is ∙ now) (xs_is ∙ ap₂ (λ i w. with_change i (marking w) s.shown) id_is v_is) ts_is

-- to give up a ticket of another version than the current one, which is closed, is a step of the machine
pub other-with : (s : StateView) (n : ℕ) (t : TicketView) (v : ℕ) (ts : List TicketView) → IsSound s → find (has_number n) s.tickets ≡ Some t → v ≡ t.version → (v ≡ length s.edits → ⊥) → ts ≡ left n s.tickets → IsStep s (record s { tickets = ts }) (GiveUp n) reply.GivenUp
other-with s n t v ts h is v_is other ts_is = give_up-other s n t ts h is (λ e. other (v_is ∙ e)) ts_is

-- a run of the log and scenario of the ticket that stands under a number fits the number
pub fits-of : {s v : StateView} (n : ℕ) (t : TicketView) (run : RunView) → s ≡ v → find (has_number n) s.tickets ≡ Some t → run.log ≡ t.log → run.scenario ≡ t.scenario → Fits v n run
fits-of {s} {v} n t run is some log scenario = subst (λ (w : StateView). Fits w n run) is (subst (λ (o : Option TicketView). HasThoseOf o run) (sym some) (log, scenario))

-- a run that fits the number of a standing ticket has its log and scenario
pub those-of : {s v : StateView} (n : ℕ) (t : TicketView) (run : RunView) → s ≡ v → find (has_number n) s.tickets ≡ Some t → Fits v n run → HasThoseOf (Some t) run
those-of {s} {v} n t run is some fits = subst (λ (o : Option TicketView). HasThoseOf o run) some (subst (λ (w : StateView). Fits w n run) (sym is) fits)

-- no run fits a number that no ticket has
pub none-fits : {s v : StateView} (n : ℕ) (run : RunView) → s ≡ v → find (has_number n) s.tickets ≡ None → Fits v n run → ⊥
none-fits {s} {v} n run is none fits = subst (λ (o : Option TicketView). HasThoseOf o run) none (subst (λ (w : StateView). Fits w n run) (sym is) fits)

-- where the result says that the run fitted, what was done as with a run that fits was done as the result says
pub does-fitted : (s v : StateView) (n : ℕ) (r : Result ℕ (Refusal FinishFault)) → fitted r ≡ true → Does s v (Finish n true) (finish_answer r) → Does s v (Finish n (fitted r)) (finish_answer r)
does-fitted s v n r is does = subst (λ (b : Bool). Does s v (Finish n b) (finish_answer r)) (sym is) does

-- a result that says that the run fitted, where it does, tells of the fit what it should
pub tells-fit : (F : Type 0) (r : Result ℕ (Refusal FinishFault)) → F → fitted r ≡ true → TellsFit F r
tells-fit F (Ok version) fits is = fits
tells-fit F (Err why.JournalFull) fits is = tt
tells-fit F (Err (why.Fault finish.UnknownTicket)) fits is = cc
tells-fit F (Err (why.Fault finish.Stranger)) fits is = cc
tells-fit F (Err (why.Fault (finish.Stale published))) fits is = fits
tells-fit F (Err why.Memory) fits is = tt

-- a run that is now shown for the scenario of a standing ticket, with all else as it was, is published for the ticket
pub publishes : {s v : StateView} (new : StateView) (n : ℕ) (t : TicketView) (id w : ℕ) (run : RunView) → s ≡ v → find (has_number n) s.tickets ≡ Some t → id ≡ t.id → new.shown ≡ with_change id (publishing (record { version = w; run = run })) s.shown → Publishes v new n w run
publishes {s} {v} new n t id w run is some same put = subst (λ (x : StateView). Publishes x new n w run) is (record { ticket = t; stood = some; shown = put ∙ ap (λ i. with_change i (publishing (record { version = w; run = run })) s.shown) same })

-- a run that an Ok result publishes, by a state before, it publishes by an equal state before
pub published-as : {s v : StateView} (new : StateView) (n : ℕ) (run : RunView) (r : Result ℕ (Refusal FinishFault)) → s ≡ v → IfOk r (λ w. Publishes s new n w run) → IfOk r (λ w. Publishes v new n w run)
published-as {s} {v} new n run r is h = subst (λ (x : StateView). IfOk r (λ w. Publishes x new n w run)) is h

-- an Ok result that publishes a run that fits publishes some run that fits
pub fitting-some : {s v : StateView} (new : StateView) (n : ℕ) (run : RunView) (r : Result ℕ (Refusal FinishFault)) → s ≡ v → Fits s n run → IfOk r (λ w. Publishes s new n w run) → IfOk r (λ w. PublishesFitting v new n w)
fitting-some {s} {v} new n run (Ok w) is fits h = subst (λ (x : StateView). PublishesFitting x new n w) is (run, fits, h)
fitting-some {s} {v} new n run (Err e) is fits h = tt

-- an Ok result that publishes some run that fits, by a state before, does so by an equal state before
pub fitting-as : {s v : StateView} (new : StateView) (n : ℕ) (r : Result ℕ (Refusal FinishFault)) → s ≡ v → IfOk r (λ w. PublishesFitting s new n w) → IfOk r (λ w. PublishesFitting v new n w)
fitting-as {s} {v} new n r is h = subst (λ (x : StateView). IfOk r (λ w. PublishesFitting x new n w)) is h

-- where nothing is found, the copy of what is found is None
pub none-found : {T : Type 0} (o : Option (Bor T)) (p : Option T) → is_none o ≡ true → option_copied o ≡ p → p ≡ None
none-found None p test is = sym is
none-found (Some x) p test is = cc

-- where something is found, the copy of what is found holds something
pub some-found : {T : Type 0} (o : Option (Bor T)) (p : Option T) → is_none o ≡ false → option_copied o ≡ p → is_some p ≡ true
some-found None p test is = cc
some-found (Some x) p test is = ap is_some (sym is)

-- no ticket stands under a number that none is found by
pub none-stands : {s v : StateView} (n : ℕ) → s ≡ v → find (has_number n) s.tickets ≡ None → Stands v n → ⊥
none-stands {s} {v} n is none stands =
    let same : IsTrue (is_some (find (has_number n) s.tickets)) = subst (λ (w : StateView). Stands w n) (sym is) stands in
    let no : IsTrue false = subst (λ (o : Option TicketView). IsTrue (is_some o)) none same in
    cc

-- a ticket that is found by its number in a state stands in an equal one
pub stands-as : {s v : StateView} (n : ℕ) → s ≡ v → is_some (find (has_number n) s.tickets) ≡ true → Stands v n
stands-as {s} {v} n is some = subst (λ (w : StateView). Stands w n) is some

-- a result that says that the run fitted, where the ticket stands, tells of its standing what it should
pub stands-outcome : (S : Type 0) (r : Result ℕ (Refusal FinishFault)) → S → fitted r ≡ true → TellsStanding S (Some r)
stands-outcome S (Ok version) stands is = stands
stands-outcome S (Err why.JournalFull) stands is = tt
stands-outcome S (Err (why.Fault finish.UnknownTicket)) stands is = cc
stands-outcome S (Err (why.Fault finish.Stranger)) stands is = cc
stands-outcome S (Err (why.Fault (finish.Stale published))) stands is = stands
stands-outcome S (Err why.Memory) stands is = tt

-- what holds of the version that the run left by a task is answered with holds of the version in the call's result
pub published-left : (P : ℕ → Type 0) (r : Result ℕ (Refusal FinishFault)) (q : Result (Option ℕ) (Refusal FinishFault)) → outcome_of_run q ≡ Some r → IfOk r P → IfOk q (λ version. IfSome version P)
published-left P r (Ok None) is h = cc
published-left P r (Ok (Some version)) is h =
    let same : r ≡ Ok version = cc in
    subst (λ (k : Result ℕ (Refusal FinishFault)). IfOk k P) same h
published-left P r (Err refusal) is h = tt
