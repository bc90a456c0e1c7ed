use Rattle.std.proofs.Common.{subst}
use Rattle.version_book.specs.BookRules.{IsTrueOf}
use Rattle.version_book.specs.Session.{Session}
use Rattle.version_book.proofs.book_session.BookSessionAnalyst.view.Goals as goal

pub returns-in-Ok-clause-outcome : goal.returns-in-Ok-clause-outcome
returns-in-Ok-clause-outcome g c = subst (λ (u : Session). IsTrueOf u.machine c.args.id c.view-outcome.result) c.self.view_is c.view-outcome.ensures.right

pub returns-in_default-clause-outcome : goal.returns-in_default-clause-outcome
returns-in_default-clause-outcome g c = subst (λ (u : Session). IsTrueOf u.machine c.args.id c.view-outcome.result) c.self.view_is c.view-outcome.ensures.right
