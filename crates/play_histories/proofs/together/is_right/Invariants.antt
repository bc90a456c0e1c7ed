use Rattle.version_book.specs.Book.{machine_of}
use Rattle.play_histories.proofs.together.is_right.Given as goal

abbrev pub ghosts-plays_on : goal.ghosts-plays_on
ghosts-plays_on g a = record { book = a.unnamed; opening = machine_of a.book }
