use Rattle.std.proofs.Common.{rules, ◌≡◌, arith, refl}
use Rattle.std.specs.Prelude.{Some}
use Rattle.book_machine.specs.declared.caller.Caller.TheVariants as caller
use Rattle.chronicle.specs.Events.{Opened}
use Rattle.workers.specs.Callers.{next_caller}
use Rattle.workers.proofs.Tying.{next_is, or_false, tied_behind}
use Rattle.workers.proofs.shared.Shared.next_session.Goals as goal

pub invariant_of-self : goal.invariant_of-self
invariant_of-self g c =
    let found : next_caller c.self.inside.sessions ≡ Some c.in_ok-number.number = search rules in
    let same = next_is c.self.inside.sessions c.in_ok-number.number found in
    tied_behind _ _ _ _ _ _ _ _ _ _ (Opened (caller.Session c.in_ok-number.number)) refl (omega (arith, same)) (omega arith) (or_false c.self.inside.stopped) c.self.invariant c.open.ensures
