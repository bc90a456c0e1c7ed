use Rattle.version_book.specs.Book.{machine_of}
use Rattle.play_histories.proofs.settling.is_left.Given as goal

abbrev pub ghosts-is_left_on : goal.ghosts-is_left_on
ghosts-is_left_on g a = record { book = a.unnamed; opening = machine_of a.book }
