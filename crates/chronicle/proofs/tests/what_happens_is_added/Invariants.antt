use Rattle.std.specs.Prelude.{[]}
use Rattle.book_machine.specs.Machine.{opened}
use Rattle.chronicle.proofs.tests.what_happens_is_added.Given as goal

abbrev pub ghosts-added : goal.ghosts-added
ghosts-added g a = record { book = a.unnamed; opening = opened [] }
