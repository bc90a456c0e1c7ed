use Rattle.std.proofs.Common.{rules, ◌≡◌}
use Rattle.std.specs.Prelude.{Err}
use Rattle.book_machine.specs.declared.caller.Caller.TheVariants as caller
use Rattle.book_machine.specs.Call.{DropScenario}
use Rattle.version_book.specs.declared.refusal.Refusal.TheVariants as why
use Rattle.workers.proofs.Tying.{calls_nothing}
use Rattle.workers.proofs.session.Session.drop_scenario.Goals as goal

pub returns-in_err-new-clause-history : goal.returns-in_err-new-clause-history
returns-in_err-new-clause-history g c =
    let e : c.from_residual.result ≡ Err why.Memory = search rules in
    rw e (calls_nothing g.J.Naming.opening _ (caller.Session c.args.self.now.number) (DropScenario c.args.name.now))

pub returns-in_err-reserve_call-clause-history : goal.returns-in_err-reserve_call-clause-history
returns-in_err-reserve_call-clause-history g c =
    let e : c.from_residual-in_err-reserve_call.result ≡ Err why.Memory = search rules in
    rw (← c.self.view_is, e) (calls_nothing g.J.Naming.opening _ (caller.Session c.self.inside.number) (DropScenario c.args.name.now))
