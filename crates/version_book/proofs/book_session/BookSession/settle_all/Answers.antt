use Rattle.std.proofs.Common.{◌∙◌, ap}
use Rattle.book_machine.specs.Machine.{settled}
use Rattle.version_book.specs.Book.{machine_of}
use Rattle.version_book.specs.Session.{Session}
use Rattle.version_book.proofs.book_session.BookSession.settle_all.Goals as goal

pub returns-clause-state : goal.returns-clause-state
returns-clause-state g c = c.settled.ensures ∙ ap (λ (s : Session). settled s.seen (machine_of c.work_all-short.new.book)) c.self.view_is
