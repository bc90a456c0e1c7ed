use Rattle.std.proofs.Common.{map}
use Rattle.version_book.specs.Book.{machine_of}
use Rattle.easybook.proofs.shared.share.Given as goal

abbrev pub ghosts-run_scripts-J-Naming : goal.ghosts-run_scripts-J-Naming
ghosts-run_scripts-J-Naming g a = record { book = a.unnamed; opening = machine_of a.book }

abbrev pub ghosts-run_scripts-J-Works : goal.ghosts-run_scripts-J-Works
ghosts-run_scripts-J-Works g a = record { comments = map (λ c. c.items) a.comments.now; scripts = map (λ s. s.items) a.scripts.now }
