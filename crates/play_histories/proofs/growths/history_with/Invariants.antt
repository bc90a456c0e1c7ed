use Rattle.version_book.specs.Book.{machine_of}
use Rattle.play_histories.proofs.growths.history_with.Given as goal

abbrev pub ghosts-history_on : goal.ghosts-history_on
ghosts-history_on g a = record { book = a.unnamed; opening = machine_of a.book }
