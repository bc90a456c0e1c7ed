use Rattle.easybook.proofs.Books.{added-more}
use Rattle.easybook.proofs.book.add_all.Goals as goal

pub scenarios-preserved : goal.scenarios-preserved
scenarios-preserved g c =
    added-more c.args.book.now c.scenarios.book c.add.new.book c.args.scenarios.now.scenarios c.scenarios.place (record { name = c.in-Some.row.0.now; id = c.in-Some.row.1; scenario = c.in-Some.row.2 })
    c.scenarios.invariant
    c.in-Some.ensures.value
    c.in_ok-add.ensures.added
    c.in_ok-add.ensures.spacing
