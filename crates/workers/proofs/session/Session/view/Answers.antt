use Rattle.std.proofs.Common.{rules, ◌≡◌}
use Rattle.std.specs.Prelude.{Err}
use Rattle.book_machine.specs.declared.caller.Caller.TheVariants as caller
use Rattle.version_book.specs.declared.refusal.Refusal.TheVariants as why
use Rattle.workers.proofs.Tying.{views_nothing}
use Rattle.workers.proofs.session.Session.view.Goals as goal

pub returns-in_err-reserve_call-clause-history : goal.returns-in_err-reserve_call-clause-history
returns-in_err-reserve_call-clause-history g c =
    let e : c.from_residual.result ≡ Err why.Memory = search rules in
    rw (← c.self.view_is, e) (views_nothing g.J.Naming.opening _ (caller.Session c.self.inside.number) c.args.id c.self.inside.seen)

pub returns-in-Ok-clause-history : goal.returns-in-Ok-clause-history
returns-in-Ok-clause-history g c = rw (← c.self.view_is) c.view_for-outcome.ensures.history
