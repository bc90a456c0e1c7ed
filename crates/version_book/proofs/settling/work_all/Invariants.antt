use Rattle.std.proofs.Common.{◌-◌}
use Rattle.book_machine.specs.Machine.{note_limit}
use Rattle.version_book.specs.Book.{machine_of}
use Rattle.version_book.proofs.Settlings.{HaveWorked}
use Rattle.version_book.proofs.settling.work_all.Given as goal

abbrev pub invariant-loop-short : goal.invariant-loop-short
invariant-loop-short g l = HaveWorked l.short (machine_of l.fn.book) (machine_of l.book)

abbrev pub decreases-loop-short : goal.decreases-loop-short
decreases-loop-short g l = note_limit - (machine_of l.book).notes
