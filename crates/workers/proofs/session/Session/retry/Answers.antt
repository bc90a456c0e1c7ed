use Rattle.std.proofs.Common.{rules, ◌≡◌}
use Rattle.std.specs.Prelude.{Err}
use Rattle.book_machine.specs.declared.caller.Caller.TheVariants as caller
use Rattle.book_machine.specs.Call.{Retry}
use Rattle.version_book.specs.declared.refusal.Refusal.TheVariants as why
use Rattle.workers.proofs.Tying.{calls_nothing}
use Rattle.workers.proofs.session.Session.retry.Goals as goal

pub returns-in_err-reserve_call-clause-history : goal.returns-in_err-reserve_call-clause-history
returns-in_err-reserve_call-clause-history g c =
    let e : c.from_residual.result ≡ Err why.Memory = search rules in
    rw (← c.self.view_is, e) (calls_nothing g.J.Naming.opening _ (caller.Session c.self.inside.number) (Retry c.args.id))
