-- The main theorem: whatever sessions and workers call, what is published for a scenario is the simulation of its version's log
-- from the first second on, and no published version goes down.
use Rattle.std.specs.Prelude.{◌≡◌, ℕ, ◌≤◌, List, [], ◌∷◌, length, Some, slice_get}
use Rattle.std.specs.List.{filter_map}
use Rattle.swf_text.specs.Entry.{LogEntry}
use Rattle.job_table.specs.Edit.{LogEdit, log_at}
use Rattle.scenarios.specs.ScenarioList.{Listed}
use Rattle.checkpoints.specs.Simulated.{IsSimulated}
use Rattle.book_machine.specs.declared.caller.Caller.{Caller}
use Rattle.book_machine.specs.declared.reply.Reply.TheVariants as replies
use Rattle.book_machine.specs.Call.{BookCall, AddScenario}
use Rattle.book_machine.specs.History.{Noted}
use Rattle.book_machine.specs.Laws.{IsNoOlder}
use Rattle.book_machine.specs.Versions.{edit_outcome}
use Rattle.tasks.specs.Published.{PublishedView}
use Rattle.version_book.specs.Book.{BookView, machine_of}
use Rattle.version_book.specs.Looks.{IsListedAs}
use Rattle.version_book.specs.Lookups.{published_for, version_shown}
use Rattle.version_book.specs.Sound.{IsBook}
use Rattle.version_book.specs.Steps.{Answer, Answers}

-- who called what of a book, and what it returned
pub record Made : Type 0 where
  pub who : Caller
  pub call : BookCall
  pub answer : Answer

-- The calls lead from the one book to the other, each as its contract says. They are any calls, of any sessions and workers, in
-- any order: edits, claims, and results that come late, twice, or are of another log or scenario; and any of them may be refused.
abbrev pub Leads : BookView → List Made → BookView → Type 0
Leads old [] new = new ≡ old
Leads old (made ∷ others) new = (next : BookView) × Answers old next made.who made.call made.answer × Leads next others new

-- the edits of a book's log that were accepted, as its journal tells them
abbrev pub edits_of : BookView → List LogEdit
edits_of b = filter_map (λ (n : Noted). edit_outcome n.call n.reply) b.journal

-- the log of a version: the one that was opened, after the first of these edits, as many as the version says
abbrev pub log_of : BookView → ℕ → List LogEntry
log_of b version = log_at b.state.opening (edits_of b) version

-- one of these calls added the scenario, under its name, and was answered its id
pub record IsAddedIn (notes : List Noted) (s : Listed) : Type 0 where
  pub place : ℕ
  pub note : Noted
  pub noted : slice_get notes place ≡ Some note
  pub call : note.call ≡ AddScenario s.name s.scenario
  pub reply : note.reply ≡ replies.Added s.id

-- The run is of a version that was made, of its log and under the scenario that was added, and it is their simulation.
pub record IsRight (b : BookView) (s : Listed) (p : PublishedView) : Type 0 where
  pub made : p.version ≤ length (edits_of b)
  pub added : IsAddedIn b.journal s
  pub log : p.run.log ≡ log_of b p.version
  pub scenario : p.run.scenario ≡ s.scenario
  pub simulated : IsSimulated (log_of b p.version) s.scenario p.run

-- What holds of a book and of the one before it: the log of each version stays what it was; what is published under an id is
-- right, of the listed scenario with this id; and for each scenario that is still listed the version that was published is
-- published still, or a newer one.
pub record IsKept (old new : BookView) : Type 0 where
  pub logs : (version : ℕ) → version ≤ length (edits_of old) → log_of new version ≡ log_of old version
  pub right : (id : ℕ) (p : PublishedView) → published_for id new.state.shown ≡ Some p → (s : Listed) × IsListedAs (machine_of new) id s × IsRight new s p
  pub versions : (id : ℕ) (s : Listed) → IsListedAs (machine_of new) id s → IsNoOlder (version_shown id old.state.shown) (version_shown id new.state.shown)

-- after any list of calls
abbrev pub MainTheorem : Type 0
MainTheorem = (old new : BookView) (calls : List Made) → IsBook old → IsBook new → Leads old calls new → IsKept old new
