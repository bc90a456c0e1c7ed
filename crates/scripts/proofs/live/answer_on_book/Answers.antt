use Rattle.std.proofs.Common.{map}
use Rattle.scripts.specs.Replies.{reply_text}
use Rattle.scripts.proofs.BookAnswers.{line-of-book}
use Rattle.scripts.proofs.live.answer_on_book.Goals as goal

pub returns : goal.returns
returns g c =
    line-of-book {A = g.row.A.Denot} (map (λ c'. c'.items) c.args.comments.now) c.args.analyst.now c.args.line c.args.asked (reply_text c.answer_line.result) c.answer_line.new.analyst c.answer_line.ensures
