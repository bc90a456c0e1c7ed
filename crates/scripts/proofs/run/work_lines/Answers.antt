use Rattle.std.proofs.Common.{◌≡◌, ℕ, ◌+◌, ◌<◌, List, [], length, map, Option, Result, refl, sym, ap, subst, ◌∙◌, arith, false-eqb}
use Rattle.std.specs.List.{before_first}
use Rattle.std.proofs.KnownBytes.{Appends-nil}
use Rattle.std.proofs.lemmas.Bool.{eqb-true}
use Rattle.std.proofs.lemmas.Result.{err_from_is_err_and}
use Rattle.swf_text.specs.Text.{is_feed}
use Rattle.swf_text.proofs.Lemmas.{after-shorter}
use Rattle.commands.specs.declared.command.Command.{Command}
use Rattle.commands.specs.declared.fault.CommandFault.{CommandFault}
use Rattle.commands.specs.Commands.{command_of_line}
use Rattle.scripts.specs.Analysts.{LineBy}
use Rattle.scripts.specs.Replies.{reply_text}
use Rattle.scripts.specs.Transcript.{is_quit}
use Rattle.scripts.proofs.Scripts.{HaveAnswered, answered-all, answered-more, answered-part, answered-quit}
use Rattle.scripts.proofs.run.work_lines.Goals as goal

pub loop-rest-init : goal.loop-rest-init
loop-rest-init g c = record {
  within = omega arith;
  outcome = record { front = []; done = []; whole = refl; count = refl; answers = (refl, refl); written = Appends-nil _ };
}

pub returns-in_err-write : goal.returns-in_err-write
returns-in_err-write g c =
    let p = err_from_is_err_and c.from_residual.result c.from_residual.ensures.1 in
    let comments : List (List ℕ) = map (λ c'. c'.items) c.args.comments.now in
    let some : 0 < length c.loop-rest.rest.now = omega (arith, false-eqb _ 0 c.loop-rest-test.ensures) in
    let asked : c.parse_command-asked.result ≡ command_of_line {A = g.row.A.Denot} (before_first is_feed c.loop-rest.rest.now) = c.parse_command-asked.ensures ∙ ap (command_of_line {A = g.row.A.Denot}) c.split_line.ensures.line in
    let answers = subst (λ (k : Result (Option (Command g.row.A.Denot)) CommandFault). LineBy g.S.Analyst.rules comments c.loop-rest.analyst c.loop-rest.number k (reply_text c.answer_line.result) c.answer_line.new.analyst) asked c.answer_line.ensures in
    rw (p.1) (answered-part g.S.Analyst.rules g.row.A.Denot comments c.args.analyst.now c.args.script.now c.loop-rest.analyst c.loop-rest.rest.now c.loop-rest.number _ _ _ (reply_text c.answer_line.result) c.answer_line.new.analyst some c.loop-rest.invariant.outcome answers c.in_err-write.ensures)

pub returns-then-quits : goal.returns-then-quits
returns-then-quits g c =
    let comments : List (List ℕ) = map (λ c'. c'.items) c.args.comments.now in
    let some : 0 < length c.loop-rest.rest.now = omega (arith, false-eqb _ 0 c.loop-rest-test.ensures) in
    let asked : c.parse_command-asked.result ≡ command_of_line {A = g.row.A.Denot} (before_first is_feed c.loop-rest.rest.now) = c.parse_command-asked.ensures ∙ ap (command_of_line {A = g.row.A.Denot}) c.split_line.ensures.line in
    let answers = subst (λ (k : Result (Option (Command g.row.A.Denot)) CommandFault). LineBy g.S.Analyst.rules comments c.loop-rest.analyst c.loop-rest.number k (reply_text c.answer_line.result) c.answer_line.new.analyst) asked c.answer_line.ensures in
    answered-quit g.S.Analyst.rules g.row.A.Denot comments c.args.analyst.now c.args.script.now c.loop-rest.analyst c.loop-rest.rest.now c.loop-rest.number _ _ _ (reply_text c.answer_line.result) c.answer_line.new.analyst some c.loop-rest.invariant.outcome answers (ap is_quit (sym asked) ∙ (sym c.is_quit-quits.ensures ∙ c.if-quits.true)) c.in_ok-write.ensures

pub loop-rest-preserved : goal.loop-rest-preserved
loop-rest-preserved g c =
    let comments : List (List ℕ) = map (λ c'. c'.items) c.args.comments.now in
    let some : 0 < length c.loop-rest.rest.now = omega (arith, false-eqb _ 0 c.loop-rest-test.ensures) in
    let asked : c.parse_command-asked.result ≡ command_of_line {A = g.row.A.Denot} (before_first is_feed c.loop-rest.rest.now) = c.parse_command-asked.ensures ∙ ap (command_of_line {A = g.row.A.Denot}) c.split_line.ensures.line in
    let answers = subst (λ (k : Result (Option (Command g.row.A.Denot)) CommandFault). LineBy g.S.Analyst.rules comments c.loop-rest.analyst c.loop-rest.number k (reply_text c.answer_line.result) c.answer_line.new.analyst) asked c.answer_line.ensures in
    record {
      within = omega (arith, after-shorter c.loop-rest.rest.now some, ap length c.split_line.ensures.rest, c.loop-rest.invariant.within);
      outcome = subst (λ (r : List ℕ). HaveAnswered g.S.Analyst.rules g.row.A.Denot comments c.args.analyst.now c.args.script.now c.answer_line.new.analyst r (c.loop-rest.number + 1) (g.W.Write.contents c.args.writer.now) (g.W.Write.contents c.write.new.writer)) (sym c.split_line.ensures.rest)
          (answered-more g.S.Analyst.rules g.row.A.Denot comments c.args.analyst.now c.args.script.now c.loop-rest.analyst c.loop-rest.rest.now c.loop-rest.number _ _ _ (reply_text c.answer_line.result) c.answer_line.new.analyst some c.loop-rest.invariant.outcome answers (ap is_quit (sym asked) ∙ (sym c.is_quit-quits.ensures ∙ c.if-quits.false)) c.in_ok-write.ensures);
    }

pub returns : goal.returns
returns g c =
    answered-all g.S.Analyst.rules g.row.A.Denot (map (λ c'. c'.items) c.args.comments.now) c.args.analyst.now c.args.script.now c.loop-rest.analyst c.loop-rest.rest.now c.loop-rest.number _ _ (eqb-true _ 0 (sym c.loop-rest-test.ensures)) c.loop-rest.invariant.outcome
