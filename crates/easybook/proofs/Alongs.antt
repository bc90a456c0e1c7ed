-- The responses to a session at a desk are responses along the history of the desk, where the session's list has all its calls there: if it
-- lacks none in the end, it lacked none before, and none came between.
use Rattle.std.proofs.Common.{◌≡◌, ℕ, ◌+◌, ◌≤◌, true, List, length, Result, refl, ap, subst, ◌∙◌, arith}
use mathlib.Core.List.{IsPrefix}
use Rattle.scenarios.specs.ScenarioList.{id_of}
use Rattle.book_machine.specs.declared.caller.Caller.TheVariants as caller
use Rattle.book_machine.specs.declared.settle_state.SettleState.{SettleState}
use Rattle.book_machine.specs.Call.{BookCall, View}
use Rattle.book_machine.specs.Machine.{Machine, version}
use Rattle.chronicle.specs.Events.{Happened}
use Rattle.tasks.specs.Published.{PublishedView}
use Rattle.version_book.specs.declared.faults.ViewFault.{ViewFault}
use Rattle.version_book.specs.declared.refusal.Refusal.{Refusal}
use Rattle.version_book.specs.Answers.{view_answer}
use Rattle.version_book.specs.Steps.{Answer}
use Rattle.workers.specs.Callers.{SessionView}
use Rattle.workers.specs.History.{CalledAt, Settles}
use Rattle.workers.specs.declared.settled.Settled.{Settled}
use Rattle.scripts.specs.Analysts.{IsViewed}
use Rattle.version_book.specs.BookRules.{IsPresent}
use Rattle.scripts.specs.Lifting.{Leads, Lifts}
use Rattle.easybook.specs.Along.{Goes, Looks, Makes, Place, Waits, ended_by, rules_along}
use Rattle.easybook.specs.DeskRules.{IsListed, IsRead, desk_rules}
use Rattle.easybook.proofs.Own.{goes_by_others, list_noted, noted, own, own_grows, own_noted}

-- where a session stands in the history
abbrev pub place_of : SessionView → Place
place_of s = record { events = s.front.events; seen = s.seen }

-- the session has this number, and where its front is kept, its list has no more calls than the front has of it
abbrev pub IsFitting : ℕ → SessionView → Type 0
IsFitting who s = (s.number ≡ who) × (s.front.kept ≡ true → length s.list ≤ length (own who s.front.events))

-- its front is kept and has no other call of it than those of its list
abbrev pub IsWhole : ℕ → SessionView → Type 0
IsWhole who s = (s.front.kept ≡ true) × (length s.list ≡ length (own who s.front.events))

called : (opening : Machine) (who : ℕ) (old new : SessionView) (call : BookCall) (answer : Answer) → IsListed opening old call answer new → old.number ≡ who → new.front.kept ≡ true
    → (old.front.kept ≡ true) × ((before : List Happened) × IsPrefix old.front.events before × CalledAt opening before (caller.Session who) call answer new.front.events)
called opening who old new call answer l is kept =
    let h = l.history kept in
    (h.0, (h.1.0, h.1.1, subst (λ (n : ℕ). CalledAt opening h.1.0 (caller.Session n) call answer new.front.events) is h.1.2))

unmissed : (opening : Machine) (who : ℕ) (old new : SessionView) (call : BookCall) (answer : Answer) (before : List Happened)
    → length new.list ≡ length old.list + noted answer → length old.list ≤ length (own who old.front.events)
    → IsPrefix old.front.events before → CalledAt opening before (caller.Session who) call answer new.front.events
    → length new.list ≡ length (own who new.front.events)
    → (length old.list ≡ length (own who old.front.events)) × Goes who old.front.events before
unmissed opening who old new call answer before gained few p at whole =
    let counted : length (own who new.front.events) ≡ length (own who before) + noted answer = own_noted opening who before call answer new.front.events at in
    let grown : length (own who old.front.events) ≤ length (own who before) = own_grows who old.front.events before p in
    (omega (arith, gained, few, counted, grown, whole), goes_by_others who old.front.events before p (omega (arith, gained, few, counted, grown, whole)))

call_fits : (opening : Machine) (who : ℕ) (old new : SessionView) (call : BookCall) (answer : Answer) → IsListed opening old call answer new → IsFitting who old → IsFitting who new
call_fits opening who old new call answer l fits = (
  l.number ∙ fits.0,
  λ kept.
      let h = called opening who old new call answer l fits.0 kept in
      let gained : length new.list ≡ length old.list + noted answer = list_noted old.list new.list call answer l.list in
      let counted : length (own who new.front.events) ≡ length (own who h.1.0) + noted answer = own_noted opening who h.1.0 call answer new.front.events h.1.2 in
      let grown : length (own who old.front.events) ≤ length (own who h.1.0) = own_grows who old.front.events h.1.0 h.1.1 in
      let few : length old.list ≤ length (own who old.front.events) = fits.1 h.0 in
      omega (arith, gained, counted, grown, few),
)

call_whole : (opening : Machine) (who : ℕ) (old new : SessionView) (call : BookCall) (answer : Answer) → IsListed opening old call answer new → IsFitting who old → IsWhole who new → IsWhole who old × Makes opening who (place_of old) call answer (place_of new)
call_whole opening who old new call answer l fits whole =
    let h = called opening who old new call answer l fits.0 whole.0 in
    let gained : length new.list ≡ length old.list + noted answer = list_noted old.list new.list call answer l.list in
    let so = unmissed opening who old new call answer h.1.0 gained (fits.1 h.0) h.1.1 h.1.2 whole.1 in
    ((h.0, so.0), record { before = h.1.0; goes = so.1; answered = h.1.2; seen = l.seen })

pub does_leads : (opening : Machine) (who : ℕ) (old new : SessionView) (call : BookCall) (answer : Answer) → IsListed opening old call answer new
    → Leads (IsFitting who) (IsWhole who) old new (Makes opening who (place_of old) call answer (place_of new))
does_leads opening who old new call answer l fits = (call_fits opening who old new call answer l fits, λ whole. call_whole opening who old new call answer l fits whole)

pub views_leads : (opening : Machine) (who : ℕ) (old new : SessionView) (id : ℕ) (outcome : Result PublishedView (Refusal ViewFault)) → IsViewed (desk_rules opening) old id outcome new
    → Leads (IsFitting who) (IsWhole who) old new (IsViewed (rules_along opening who) (place_of old) id outcome (place_of new))
views_leads opening who old new id outcome v fits =
    let l : IsListed opening old (View id old.seen) (view_answer outcome) new = v.call in (
      call_fits opening who old new (View id old.seen) (view_answer outcome) l fits,
      λ whole.
          let made = call_whole opening who old new (View id old.seen) (view_answer outcome) l fits whole in
          let h = v.shown whole.0 in
          let at : CalledAt opening h.1.0 (caller.Session who) (View id old.seen) (view_answer outcome) new.front.events = subst (λ (n : ℕ). CalledAt opening h.1.0 (caller.Session n) (View id old.seen) (view_answer outcome) new.front.events) fits.0 h.1.2 in
          let gained : length new.list ≡ length old.list + noted (view_answer outcome) = list_noted old.list new.list (View id old.seen) (view_answer outcome) l.list in
          let so = unmissed opening who old new (View id old.seen) (view_answer outcome) h.1.0 gained (fits.1 h.0) h.1.1 at whole.1 in (
            made.0,
            record {
              call = made.1;
              shown = record { before = h.1.0; goes = so.1; answered = at; true_there = h.1.3 };
            },
          ),
    )

stays_fitting : (who : ℕ) (old new : SessionView) → new ≡ record old { front = new.front } → (new.front.kept ≡ true → (old.front.kept ≡ true) × IsPrefix old.front.events new.front.events) → IsFitting who old → IsFitting who new
stays_fitting who old new same on fits = (
  ap (λ (s : SessionView). s.number) same ∙ fits.0,
  λ kept.
      let h = on kept in
      let grown : length (own who old.front.events) ≤ length (own who new.front.events) = own_grows who old.front.events new.front.events h.1 in
      let few : length old.list ≤ length (own who old.front.events) = fits.1 h.0 in
      let list : length new.list ≡ length old.list = ap (λ (s : SessionView). length s.list) same in
      omega (arith, grown, few, list),
)

was_whole : (who : ℕ) (old new : SessionView) → new ≡ record old { front = new.front } → old.front.kept ≡ true → IsPrefix old.front.events new.front.events → IsFitting who old → IsWhole who new → IsWhole who old × Goes who old.front.events new.front.events
was_whole who old new same kept p fits whole =
    let grown : length (own who old.front.events) ≤ length (own who new.front.events) = own_grows who old.front.events new.front.events p in
    let few : length old.list ≤ length (own who old.front.events) = fits.1 kept in
    let list : length new.list ≡ length old.list = ap (λ (s : SessionView). length s.list) same in
    let all : length new.list ≡ length (own who new.front.events) = whole.1 in
    ((kept, omega (arith, grown, few, list, all)), goes_by_others who old.front.events new.front.events p (omega (arith, grown, few, list, all)))

pub reads_leads : (opening : Machine) (who : ℕ) (old new : SessionView) (Holds : Machine → Type 0) → IsRead opening old Holds new
    → Leads (IsFitting who) (IsWhole who) old new (Looks opening who (place_of old) Holds (place_of new))
reads_leads opening who old new Holds r fits = (
  stays_fitting who old new r.1 (λ kept. let h = r.0 kept in (h.0, h.1)) fits,
  λ whole.
      let h = r.0 whole.0 in
      let so = was_whole who old new r.1 h.0 h.1 fits whole in
      (so.0, record { goes = so.1; holds = h.2; seen = ap (λ (s : SessionView). s.seen) r.1 }),
)

pub settles_leads : (opening : Machine) (who : ℕ) (old new : SessionView) (outcome : SettleState) → (desk_rules opening).settles old outcome new
    → Leads (IsFitting who) (IsWhole who) old new (Waits opening who (place_of old) outcome (place_of new))
settles_leads opening who old new outcome r fits = (
  stays_fitting who old new r.1 (λ kept. let h = r.0 kept in (h.0, h.1)) fits,
  λ whole.
      let h = r.0 whole.0 in
      let so = was_whole who old new r.1 h.0 h.1 fits whole in
      (so.0, record { goes = so.1; settled = h.2; seen = ap (λ (s : SessionView). s.seen) r.1 }),
)

-- a wait of a session that ended in the history as the returned state says is one by the rules of the desk
pub outcome_by : (opening : Machine) (mine old new : SessionView) (ended : Settled) (outcome : SettleState) → mine ≡ old → ended ≡ ended_by outcome
    → Settles opening mine.front mine.seen ended new.front → new ≡ record mine { front = new.front } → (desk_rules opening).settles old outcome new
outcome_by opening mine old new ended outcome is so s same = subst (λ (v : SessionView). (desk_rules opening).settles v outcome new) is (subst (λ (e : Settled). Settles opening mine.front mine.seen e new.front) so s, same)

-- each rule of the desk leads to that along the history, from where a session stands: it stays fitting, and where it is whole in the end,
-- it was whole before
pub desk_lifts : (opening : Machine) (who : ℕ) → Lifts (desk_rules opening) (rules_along opening who) place_of (IsFitting who) (IsWhole who)
desk_lifts opening who = record {
  does = does_leads opening who;
  views = views_leads opening who;
  finds = λ old new name found r. reads_leads opening who old new (λ m. found ≡ id_of name m.listing) r;
  counts = λ old new number r. reads_leads opening who old new (λ m. number ≡ version m) r;
  reads = λ old new moment r. reads_leads opening who old new (λ m. IsPresent m moment) r;
  settles = settles_leads opening who;
  seen = λ s. refl;
}
