use Rattle.easybook.proofs.Books.{Added}
use Rattle.easybook.proofs.book.add_all.Given as goal

abbrev pub invariant-scenarios : goal.invariant-scenarios
invariant-scenarios g l = Added l.fn.book l.book l.scenarios.scenarios l.place
