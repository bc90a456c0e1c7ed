-- The responses to an analyst along one history of the book machine, to which others add calls too. Each of its calls and
-- readings has a place in it, in the order in which they are made.
use Rattle.std.specs.Prelude.{◌≡◌, ℕ, ◌<◌, List, [], ◌++◌, length, slice_get, Some, Result}
use Rattle.std.specs.List.{All}
use Rattle.swf_text.specs.Text.{lines}
use Rattle.scenarios.specs.ScenarioList.{id_of}
use Rattle.book_machine.specs.declared.caller.Caller.{Caller}
use Rattle.book_machine.specs.declared.caller.Caller.TheVariants as caller
use Rattle.book_machine.specs.declared.settle_state.SettleState.{SettleState}
use Rattle.book_machine.specs.declared.settle_state.SettleState.TheVariants as state
use Rattle.book_machine.specs.Call.{BookCall, Claim, Finish, GiveUp, View}
use Rattle.book_machine.specs.History.{Noted}
use Rattle.book_machine.specs.Machine.{Machine, version}
use Rattle.chronicle.specs.Events.{Happened, IsLegalFrom, notes_of, state_after}
use Rattle.tasks.specs.Published.{PublishedView}
use Rattle.version_book.specs.declared.faults.ViewFault.{ViewFault}
use Rattle.version_book.specs.declared.refusal.Refusal.{Refusal}
use Rattle.version_book.specs.Answers.{view_answer}
use Rattle.version_book.specs.Steps.{Answer}
use Rattle.workers.specs.declared.settled.Settled.{Settled}
use Rattle.workers.specs.declared.settled.Settled.TheVariants as settled_as
use Rattle.workers.specs.History.{CalledAt, IsSettledAt}
use Rattle.workers.specs.Lists.{ListedView, part_of}
use Rattle.scripts.specs.Analysts.{LinesBy}
use Rattle.version_book.specs.BookRules.{IsPresent, IsTrueOf}
use Rattle.version_book.specs.Rules.{Rules}
use Rattle.version_book.specs.Session.{seen_of}
use Rattle.scripts.specs.Transcript.{looked_at}

-- the state of an analyst: the history up to its last response, and the greatest version that an edit or a view returned
pub record Place : Type 0 where
  pub events : List Happened
  pub seen : ℕ

-- the history goes on, but by no call of this session
abbrev pub Goes : ℕ → List Happened → List Happened → Type 0
Goes who old new = (others : List Happened) × (new ≡ old ++ others) × (part_of (caller.Session who) (notes_of others) ≡ [])

-- how a wait for the runs ended, by the state that is returned
abbrev pub ended_by : SettleState → Settled
ended_by state.Done = settled_as.Done
ended_by (state.Failed n) = settled_as.Failed n
ended_by state.Waiting = settled_as.Stopped

module _ (opening : Machine) (who : ℕ) where
  -- The history goes on, and then the session calls: the reply is the machine's there.
  pub record Makes (old : Place) (call : BookCall) (answer : Answer) (new : Place) : Type 0 where
    pub before : List Happened
    pub goes : Goes who old.events before
    pub answered : CalledAt opening before (caller.Session who) call answer new.events
    pub seen : new.seen ≡ seen_of old.seen answer

  -- What a view shows is true at the place of its call: the run is that of the log of its version, under the scenario.
  pub record Shows (old : Place) (id : ℕ) (outcome : Result PublishedView (Refusal ViewFault)) (new : Place) : Type 0 where
    pub before : List Happened
    pub goes : Goes who old.events before
    pub answered : CalledAt opening before (caller.Session who) (View id old.seen) (view_answer outcome) new.events
    pub true_there : IsTrueOf (state_after opening before) id outcome

  -- The history goes on, and there the session reads what holds of the machine.
  pub record Looks (old : Place) (Holds : Machine → Type 0) (new : Place) : Type 0 where
    pub goes : Goes who old.events new.events
    pub holds : Holds (state_after opening new.events)
    pub seen : new.seen ≡ old.seen

  -- The history goes on until no work is waited for, or behind a stop.
  pub record Waits (old : Place) (outcome : SettleState) (new : Place) : Type 0 where
    pub goes : Goes who old.events new.events
    pub settled : IsSettledAt opening new.events old.seen (ended_by outcome)
    pub seen : new.seen ≡ old.seen

  abbrev pub rules_along : Rules Place
  rules_along = record {
    does = Makes;
    sees = Shows;
    finds = λ old name found new. Looks old (λ m. found ≡ id_of name m.listing) new;
    counts = λ old number new. Looks old (λ m. number ≡ version m) new;
    reads = λ old moment new. Looks old (λ m. IsPresent m moment) new;
    settles = Waits;
    seen = λ p. p.seen;
  }

-- The text answers the script as the session's, along the history: from where it has made no call and seen no version, line
-- after line; and all its calls in the history are those of the script.
pub record IsAnsweredAlong (A : Type 0) (comments : List (List ℕ)) (opening : Machine) (events : List Happened) (who : ℕ) (script text : List ℕ) : Type 0 where
  pub first : Place
  pub last : Place
  pub begins : Goes who [] first.events
  pub unseen : first.seen ≡ 0
  pub answered : LinesBy (rules_along opening who) A comments first (looked_at A (lines script)) 1 text last
  pub ends : Goes who last.events events

-- what a worker calls: it claims, and hands in or gives up what it claimed
abbrev pub IsWork : BookCall → Type 0
IsWork Claim = Unit {0}
IsWork (Finish ticket fits) = Unit {0}
IsWork (GiveUp ticket) = Unit {0}
IsWork call = ⊥

abbrev pub AreWork : List ListedView → Type 0
AreWork list = All (λ (e : ListedView). IsWork e.call) list

-- who makes which calls, beside this many scripts: their sessions, and workers
abbrev pub MayCall : ℕ → Caller → BookCall → Type 0
MayCall count (caller.Session k) call = k < count
MayCall count (caller.Worker k) call = IsWork call

-- There is one legal history of the book machine from this state on along which each text answers its script: the first script
-- is session 0's, and so on. No other session makes a call in it, and workers only claim, hand in and give up.
pub record AreAnsweredAlong (A : Type 0) (comments : List (List ℕ)) (opening : Machine) (scripts texts : List (List ℕ)) : Type 0 where
  pub events : List Happened
  pub legal : IsLegalFrom opening events
  pub as_many : length texts ≡ length scripts
  pub each : (k : ℕ) (script text : List ℕ) → slice_get scripts k ≡ Some script → slice_get texts k ≡ Some text → IsAnsweredAlong A comments opening events k script text
  pub only : All (λ (n : Noted). MayCall (length scripts) n.caller n.call) (notes_of events)
