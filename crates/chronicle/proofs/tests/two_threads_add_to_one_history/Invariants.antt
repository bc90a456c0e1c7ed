use Rattle.std.specs.Prelude.{[]}
use Rattle.book_machine.specs.Machine.{opened}
use Rattle.chronicle.proofs.tests.two_threads_add_to_one_history.Given as goal

abbrev pub ghosts-added_by_two : goal.ghosts-added_by_two
ghosts-added_by_two g a = record { book = a.unnamed; opening = opened [] }
