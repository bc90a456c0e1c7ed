-- How the results that one analyst may get, by the rules of a session, are those of another, by rules of the session's history.
use Rattle.std.specs.Prelude.{◌≡◌, ℕ, List, Option, Result}
use Rattle.book_machine.specs.declared.settle_state.SettleState.{SettleState}
use Rattle.book_machine.specs.Call.{BookCall}
use Rattle.tasks.specs.Published.{PublishedView}
use Rattle.version_book.specs.declared.faults.ViewFault.{ViewFault}
use Rattle.version_book.specs.declared.refusal.Refusal.{Refusal}
use Rattle.version_book.specs.Steps.{Answer}
use Rattle.scripts.specs.Analysts.{IsViewed, LinesBy}
use Rattle.version_book.specs.Reading.{Moment}
use Rattle.version_book.specs.Rules.{Rules}

-- A step keeps the invariant. Whether the fact holds may be known at the end alone: where the new state is good, it does, and
-- the old one was good.
abbrev pub Leads : {S : Type 0} → (S → Type 0) → (S → Type 0) → S → S → Type 0 → Type 0
Leads Inv Good old new fact = Inv old → Inv new × (Good new → Good old × fact)

module _ {S T : Type 0} (from : Rules S) (to : Rules T) (at : S → T) (Inv Good : S → Type 0) where
  -- each rule of the one leads to that of the other, where its states stand; a call that views goes with what it shows
  pub record Lifts : Type 0 where
    pub does : (old new : S) (call : BookCall) (answer : Answer) → from.does old call answer new → Leads Inv Good old new (to.does (at old) call answer (at new))
    pub views : (old new : S) (id : ℕ) (outcome : Result PublishedView (Refusal ViewFault)) → IsViewed from old id outcome new → Leads Inv Good old new (IsViewed to (at old) id outcome (at new))
    pub finds : (old new : S) (name : List ℕ) (found : Option ℕ) → from.finds old name found new → Leads Inv Good old new (to.finds (at old) name found (at new))
    pub counts : (old new : S) (version : ℕ) → from.counts old version new → Leads Inv Good old new (to.counts (at old) version (at new))
    pub reads : (old new : S) (moment : Option Moment) → from.reads old moment new → Leads Inv Good old new (to.reads (at old) moment (at new))
    pub settles : (old new : S) (state : SettleState) → from.settles old state new → Leads Inv Good old new (to.settles (at old) state (at new))
    pub seen : (s : S) → from.seen s ≡ to.seen (at s)

  -- A transcript of a script by the rules of the one is one by those of the other: from where the invariant holds, if
  -- the state in the end is good.
  abbrev pub LinesLift : Type 0 → Type 0
  LinesLift A =
      Lifts → (comments : List (List ℕ)) (old : S) (ls : List (List ℕ)) (number : ℕ) (out : List ℕ) (new : S)
      → LinesBy from A comments old ls number out new → Leads Inv Good old new (LinesBy to A comments (at old) ls number out (at new))
