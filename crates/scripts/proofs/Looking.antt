-- Views of a session: what a view returns is true of the book, and its response is the report, the line beside others, or why nothing is
-- shown.
use Rattle.std.proofs.Common.{◌≡◌, ℕ, List, ◌++◌, refl, sym, ◌∙◌, ap, subst, inl, inr, ◌⊎◌}
use Rattle.std.specs.Prelude.{codes, Some}
use Rattle.swf_text.specs.Entry.{LogEntry}
use Rattle.scenarios.specs.Scenario.{ScenarioView}
use Rattle.scenarios.specs.Plan.{plan_of}
use Rattle.scenarios.specs.ScenarioList.{Listed, named}
use Rattle.report.specs.Pieces.{left}
use Rattle.report.specs.Schedule.{schedule_text}
use Rattle.report.specs.Side.{shown_line}
use Rattle.book_machine.specs.declared.reply.Reply.TheVariants as reply
use Rattle.book_machine.specs.Call.{View}
use Rattle.book_machine.specs.Machine.{Machine}
use Rattle.tasks.specs.Published.{PublishedView}
use Rattle.version_book.specs.declared.faults.ViewFault.{ViewFault}
use Rattle.version_book.specs.declared.faults.ViewFault.TheVariants as view
use Rattle.version_book.specs.declared.refusal.Refusal.{Refusal}
use Rattle.version_book.specs.declared.refusal.Refusal.TheVariants as why
use Rattle.scripts.specs.declared.view_report.Report.{Report}
use Rattle.scripts.specs.declared.view_report.Report.TheVariants as report
use Rattle.scripts.specs.Lines.{refused}
use Rattle.version_book.specs.Looks.{IsListedAs, IsLooked, IsOf}
use Rattle.scripts.specs.Looks.{unseen_line}
use Rattle.version_book.specs.Session.{Session, IsStep}
use Rattle.scripts.specs.Steps.{IsSeen}
use Rattle.scripts.specs.Reports.{report_text}
use Rattle.scripts.proofs.Shorts.{IsReport, IsView, NotLooked}
use Rattle.scripts.proofs.Named.{place-of, name-found}

schedule-as : (name : List ℕ) (v : ℕ) {log log' : List LogEntry} {under under' : ScenarioView} → log ≡ log' → under ≡ under' → schedule_text name v (plan_of log under) ≡ schedule_text name v (plan_of log' under')
schedule-as name v is is' = cc

is-report : (kind : Report) (m : Machine) (s : Listed) (p : PublishedView) → IsOf m s p → IsReport kind m s p.version (report_text kind s.name p.version p.run)
is-report report.Schedule m s p h = schedule-as s.name p.version h.log h.scenario
is-report report.Table m s p h = (p.run.tables, h.simulated.tables, refl)
is-report report.Users m s p h = (p.run.tables, h.simulated.tables, refl)
is-report report.Days m s p h = (p.run.tables, h.simulated.tables, refl)

pub listed-as : (m : Machine) (name : List ℕ) (id : ℕ) (s : Listed) → named name m.listing.scenarios ≡ Some s → id ≡ s.id → IsListedAs m id s
listed-as m name id s is id_is = let p = place-of name s m.listing.scenarios is in record { place = p.0; listed = p.1; id = sym id_is }

pub viewed : (old new : Session) (id : ℕ) (s : Listed) (kind : Report) (p : PublishedView) (text : List ℕ) → IsStep old (View id old.seen) (reply.Shown p.version) new → IsLooked old.machine id p → IsListedAs old.machine id s → text ≡ report_text kind s.name p.version p.run → IsView old (IsReport kind) text new s
viewed old new id s kind p text step look listed is =
    let of = look.is s listed in
    inr (inr (reply.Shown p.version, subst (λ (n : ℕ). IsStep old (View n old.seen) (reply.Shown p.version) new) (sym listed.id) step, inl (subst (IsReport kind old.machine s p.version) (sym is) (is-report kind old.machine s p of))))

pub viewed-short : (old new : Session) (id : ℕ) (s : Listed) (kind : Report) (p : PublishedView) (text : List ℕ) → IsStep old (View id old.seen) (reply.Shown p.version) new → IsListedAs old.machine id s → text ≡ refused (codes "Memory") → IsView old (IsReport kind) text new s
viewed-short old new id s kind p text step listed is =
    inr (inr (reply.Shown p.version, subst (λ (n : ℕ). IsStep old (View n old.seen) (reply.Shown p.version) new) (sym listed.id) step, inr is))

not-viewed-at : (old new : Session) (s : Listed) (kind : Report) (refusal : Refusal ViewFault) → NotLooked refusal old s.id new → IsView old (IsReport kind) (unseen_line refusal) new s
not-viewed-at old new s kind why.JournalFull h = inl (h.0, (refl, h.1))
not-viewed-at old new s kind (why.Fault view.NoSuchScenario) h = inr (inr (reply.NoSuchScenario, h.0, refl))
not-viewed-at old new s kind (why.Fault view.NotYet) h = inr (inr (reply.NotYet, h, refl))
not-viewed-at old new s kind (why.Fault (view.Behind x y)) h = inr (inr (reply.Behind x y, h, refl))
not-viewed-at old new s kind why.Memory h = inr (inl (refl, h))

-- the line that says why a view shows nothing is the response to it
pub not-viewed : (old new : Session) (id : ℕ) (s : Listed) (kind : Report) (refusal : Refusal ViewFault) (text : List ℕ) → NotLooked refusal old id new → IsListedAs old.machine id s → text ≡ unseen_line refusal → IsView old (IsReport kind) text new s
not-viewed old new id s kind refusal text h listed is =
    subst (λ (t : List ℕ). IsView old (IsReport kind) t new s) (sym is) (not-viewed-at old new s kind refusal (subst (λ (n : ℕ). NotLooked refusal old n new) (sym listed.id) h))

pub side-shown : (old new : Session) (s : Listed) (p : PublishedView) → IsStep old (View s.id old.seen) (reply.Shown p.version) new → IsOf old.machine s p → IsSeen old s (shown_line s.name p.version p.run.tables.overall) new
side-shown old new s p step of = (reply.Shown p.version, step, (p.run.tables, of.simulated.tables, refl))

-- a view that finds nothing published gives the scenario's line beside others, which says `not yet`
pub side-not_yet : (old new : Session) (s : Listed) → IsStep old (View s.id old.seen) reply.NotYet new → IsSeen old s (left 16 s.name ++ codes " not yet\n") new
side-not_yet old new s step = (reply.NotYet, step, refl)

-- a view that finds an older version than was seen gives the scenario's line beside others, which says `behind`
pub side-behind : (old new : Session) (s : Listed) (x y : ℕ) → IsStep old (View s.id old.seen) (reply.Behind x y) new → IsSeen old s (left 16 s.name ++ codes " behind\n") new
side-behind old new s x y step = (reply.Behind x y, step, refl)

-- the report on what a view shows of the scenario that a name finds, or out of memory, is the response to it
pub named-viewed : (old new : Session) (name : List ℕ) (id : ℕ) (kind : Report) (p : PublishedView) (text : List ℕ) (s : Listed) → named name old.machine.listing.scenarios ≡ Some s → id ≡ s.id → IsStep old (View id old.seen) (reply.Shown p.version) new → IsLooked old.machine id p → (text ≡ report_text kind name p.version p.run) ⊎ (text ≡ refused (codes "Memory")) → IsView old (IsReport kind) text new s
named-viewed old new name id kind p text s is id_is step look (inl says) =
    let called : s.name ≡ name = name-found name s old.machine.listing.scenarios is in
    viewed old new id s kind p text step look (listed-as old.machine name id s is id_is) (says ∙ ap (λ (n : List ℕ). report_text kind n p.version p.run) (sym called))
named-viewed old new name id kind p text s is id_is step look (inr short) = viewed-short old new id s kind p text step (listed-as old.machine name id s is id_is) short

-- a view that shows a run gives the run's line beside others
pub beside-shown : (old new : Session) (id : ℕ) (p : PublishedView) → IsStep old (View id old.seen) (reply.Shown p.version) new → IsLooked old.machine id p → (s : Listed) → IsListedAs old.machine id s → IsSeen old s (shown_line s.name p.version p.run.tables.overall) new
beside-shown old new id p step look s listed =
    side-shown old new s p (subst (λ (n : ℕ). IsStep old (View n old.seen) (reply.Shown p.version) new) (sym listed.id) step) (look.is s listed)
