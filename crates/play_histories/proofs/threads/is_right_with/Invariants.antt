use Rattle.version_book.specs.Book.{machine_of}
use Rattle.play_histories.proofs.threads.is_right_with.Given as goal

abbrev pub ghosts-is_right_on : goal.ghosts-is_right_on
ghosts-is_right_on g a = record { book = a.unnamed; opening = machine_of a.book }
