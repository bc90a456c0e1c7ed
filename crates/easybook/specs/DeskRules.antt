-- The rules of a session at a desk: its list gains each call, and each call and reading has a place in the history of the
-- desk, behind all earlier responses.
use Rattle.std.specs.Prelude.{◌≡◌, ℕ, List, ◌++◌, length, Some, slice_get}
use Rattle.swf_text.specs.Text.{lines}
use Rattle.scenarios.specs.ScenarioList.{id_of}
use Rattle.book_machine.specs.declared.caller.Caller.TheVariants as caller
use Rattle.book_machine.specs.Call.{BookCall}
use Rattle.book_machine.specs.Machine.{Machine, version}
use Rattle.version_book.specs.Steps.{Answer}
use Rattle.workers.specs.Callers.{IsNewSession, SessionView}
use Rattle.workers.specs.History.{Calls, Reads, Settles, Views}
use Rattle.workers.specs.Lists.{Gains}
use Rattle.scripts.specs.Analysts.{LinesBy}
use Rattle.version_book.specs.BookRules.{IsPresent}
use Rattle.version_book.specs.Rules.{Rules}
use Rattle.version_book.specs.Session.{seen_of}
use Rattle.scripts.specs.Transcript.{looked_at}
use Rattle.easybook.specs.Along.{ended_by}

-- a call: the list gains it with its reply, the session has seen what an edit or a view returned, and the call
-- has its place in the history
pub record IsListed (opening : Machine) (old : SessionView) (call : BookCall) (answer : Answer) (new : SessionView) : Type 0 where
  pub list : Gains old.list new.list call answer
  pub number : new.number ≡ old.number
  pub seen : new.seen ≡ seen_of old.seen answer
  pub history : Calls opening old.front (caller.Session old.number) call answer new.front

-- a reading: at some place of the history this held of the machine, and the session knows the history up to there
abbrev pub IsRead : Machine → SessionView → (Machine → Type 0) → SessionView → Type 0
IsRead opening old Holds new = Reads opening old.front Holds new.front × (new ≡ record old { front = new.front })

abbrev pub desk_rules : Machine → Rules SessionView
desk_rules opening = record {
  does = IsListed opening;
  sees = λ old id outcome new. Views opening old.front (caller.Session old.number) id old.seen outcome new.front;
  finds = λ old name found new. IsRead opening old (λ m. found ≡ id_of name m.listing) new;
  counts = λ old number new. IsRead opening old (λ m. number ≡ version m) new;
  reads = λ old moment new. IsRead opening old (λ m. IsPresent m moment) new;
  settles = λ old outcome new. Settles opening old.front old.seen (ended_by outcome) new.front × (new ≡ record old { front = new.front });
  seen = λ s. s.seen;
}

-- the session worked a script to its end, and this was written
abbrev pub IsWorkedAtDesk : Type 0 → Machine → List (List ℕ) → SessionView → List ℕ → SessionView → List ℕ → List ℕ → Type 0
IsWorkedAtDesk A opening comments old script new before after =
    (out : List ℕ) × LinesBy (desk_rules opening) A comments old (looked_at A (lines script)) 1 out new × (after ≡ before ++ out)

-- a session with the text that its script produced
pub record AnsweredView : Type 0 where
  pub session : SessionView
  pub text : List ℕ

-- the text is what a new session produced for the script of its number, and this is the session's state then
pub record IsAnsweredAtDesk (A : Type 0) (opening : Machine) (comments scripts : List (List ℕ)) (a : AnsweredView) : Type 0 where
  pub first : SessionView
  pub new : IsNewSession first
  pub script : List ℕ
  pub is_script : slice_get scripts first.number ≡ Some script
  pub answered : LinesBy (desk_rules opening) A comments first (looked_at A (lines script)) 1 a.text a.session

-- each of the sessions has the number of its place, and its text is what its script produced
pub record AreAtDesk (A : Type 0) (opening : Machine) (comments scripts : List (List ℕ)) (sessions : List SessionView) (texts : List (List ℕ)) : Type 0 where
  pub as_many : length sessions ≡ length texts
  pub each : (k : ℕ) (session : SessionView) (text : List ℕ) → slice_get sessions k ≡ Some session → slice_get texts k ≡ Some text
      → (session.number ≡ k) × IsAnsweredAtDesk A opening comments scripts (record { session = session; text = text })
