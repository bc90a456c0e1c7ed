use Rattle.std.proofs.Common.{map, ap}
use Rattle.book_machine.specs.Noted.{noted_of}
use Rattle.version_book.proofs.Histories.{opened-book}
use Rattle.version_book.proofs.book.Book.new.Goals as goal

pub invariant_of-result : goal.invariant_of-result
invariant_of-result g c = opened-book _ c.args.table c.args.spacing _ c.in_ok-state.ensures.sound c.in_ok-state.ensures.state (ap (map noted_of) c.new-2.ensures.items)
