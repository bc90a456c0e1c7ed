-- The transcript of a script on a log where no memory is refused: there is at most one, since a log is opened in one way, and the plain run's
-- schedule is what a script yields.
use Rattle.std.proofs.Common.{◌≡◌, ℕ, List, ◌++◌, Option, Result, Ok, refl, sym, ◌∙◌, ap, subst}
use Rattle.swf_text.specs.Entry.{LogEntry}
use Rattle.swf_text.specs.Log.{log_of}
use Rattle.swf_text.specs.Text.{LogText, lines}
use Rattle.swf_text.proofs.Lemmas.{one_text}
use Rattle.scenarios.specs.ScenarioList.{Listing}
use Rattle.commands.specs.Opening.{kept, opened}
use Rattle.scripts.specs.Lines.{settled_line}
use Rattle.scripts.specs.Transcript.{IsUnrefused, begun}
use Rattle.scripts.proofs.Lemmas.{one-unrefused, schedules_first, unrefused-too}
use Rattle.easybook.specs.Opened.{IsOpened}
use Rattle.easybook.specs.Unrefused.{ItIsAnAnswer, PlainRunsAreScripts, ThereIsOneAnswer}

record AreOne (comments others : List (List ℕ)) (table entries : List LogEntry) (scenarios list : Listing) : Type 0 where
  comments_same : comments ≡ others
  table_same : table ≡ entries
  scenarios_same : scenarios ≡ list

one-listing : {E : Type 0} (r : Result Listing E) (one other : Listing) → r ≡ Ok one → r ≡ Ok other → one ≡ other
one-listing r one other is same = cc

opened-once : (log : List ℕ) (procs : Option ℕ) (comments others : List (List ℕ)) (table entries : List LogEntry) (scenarios list : Listing) → IsOpened log procs comments table scenarios → IsOpened log procs others entries list → AreOne comments others table entries scenarios list
opened-once log procs comments others table entries scenarios list o p =
    let read : p.read ≡ o.read = one_text (lines log) o.read p.read o.is_text p.is_text in
    record {
      comments_same = o.kept_comments ∙ ap (λ (t : LogText). kept t.comments) (sym read) ∙ sym p.kept_comments;
      table_same = o.arranged ∙ ap (λ (t : LogText). log_of t.entries) (sym read) ∙ sym p.arranged;
      scenarios_same = one-listing (opened procs o.read.comments) scenarios list o.opened_with (ap (λ (t : LogText). opened procs t.comments) (sym read) ∙ p.opened_with);
    }

-- two transcripts of the same log, options and script in which no memory is refused are the same
pub there_is_one_answer : (A : Type 0) → ThereIsOneAnswer A
there_is_one_answer A log procs script text other f g =
    let same = opened-once log procs g.comments f.comments g.table f.table g.scenarios f.scenarios g.is_opened f.is_opened in
    let over_comments = subst (λ (comments : List (List ℕ)). IsUnrefused A comments (begun g.table g.scenarios.scenarios) script other) same.comments_same g.transcript in
    let over_table = subst (λ (table : List LogEntry). IsUnrefused A f.comments (begun table g.scenarios.scenarios) script other) same.table_same over_comments in
    let over_list = subst (λ (list : Listing). IsUnrefused A f.comments (begun f.table list.scenarios) script other) same.scenarios_same over_table in
    one-unrefused A f.comments (begun f.table f.scenarios.scenarios) script text other f.transcript over_list

-- a transcript in which no memory is refused is one of those that a script within its limit may have
pub it_is_an_answer : (A : Type 0) → ItIsAnAnswer A
it_is_an_answer A log procs script text few f = record {
  comments = f.comments;
  table = f.table;
  scenarios = f.scenarios;
  is_opened = f.is_opened;
  within = few;
  transcript = unrefused-too A f.comments (begun f.table f.scenarios.scenarios) script text f.transcript;
}

-- the plain run's schedule of a log, behind the line `settled 0`, is what the lines `settle` and `schedule NAME` yield, with the name of the
-- log's first scenario
pub plain_runs_are_scripts : (A : Type 0) → PlainRunsAreScripts A
plain_runs_are_scripts A log procs text script s asks =
    let table = log_of s.read.entries in
    let comments = kept s.read.comments in
    let answered = schedules_first A table procs s.read.comments comments s.scenarios s.first script s.opened_with s.is_first asks in
    record {
      comments = comments;
      table = table;
      scenarios = s.scenarios;
      is_opened = record { within = s.within; read = s.read; is_text = s.is_text; opened_with = s.opened_with; kept_comments = refl; arranged = refl };
      transcript = subst (λ (t : List ℕ). IsUnrefused A comments (begun table s.scenarios.scenarios) script (settled_line 0 ++ t)) (sym s.schedule) answered;
    }
