use Rattle.easybook.proofs.book.opened_book.Goals as goal

pub returns-clause-book : goal.returns-clause-book
returns-clause-book g c = c.in_ok-book_over.ensures c.args.log.now c.args.options.procs c.in_ok-opening.ensures.opened
