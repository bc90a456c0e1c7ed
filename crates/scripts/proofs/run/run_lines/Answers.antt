use Rattle.std.proofs.Common.{map, subst}
use Rattle.version_book.specs.Session.{Session}
use Rattle.scripts.specs.Transcript.{Tells}
use Rattle.scripts.proofs.BookAnswers.{tells-of-book}
use Rattle.scripts.proofs.run.run_lines.Goals as goal

pub returns : goal.returns
returns g c =
    subst (λ (s : Session). Tells g.row.A.Denot (map (λ c'. c'.items) c.args.comments.now) s c.args.script.now (g.W.Write.contents c.args.writer.now) (g.W.Write.contents c.work_lines.new.writer) c.work_lines.result) c.new-session.ensures
    (tells-of-book g.row.A.Denot (map (λ c'. c'.items) c.args.comments.now) c.new-session.result c.args.script.now _ _ c.work_lines.result c.work_lines.new.analyst c.work_lines.ensures)
