use Rattle.std.proofs.Common.{rules, ◌≡◌, arith}
use Rattle.std.specs.Prelude.{None, Some}
use Rattle.scenarios.specs.ScenarioList.{id_of}
use Rattle.version_book.proofs.Stepping.{seen-as, ok-outcome}
use Rattle.version_book.proofs.SessionSteps.{drop-refused, drop-accepted}
use Rattle.version_book.proofs.state.State.drop_named.Goals as goal

pub invariant_of-self : goal.invariant_of-self
invariant_of-self g c =
    let some : id_of c.args.name.now c.self.inside.scenarios ≡ Some c.in-Ok.id = ok-outcome _ _ _ c.in-Ok.ensures.answer in
    ((drop-accepted _ c.args.name.now c.in-Ok.id _ _ _ c.self.invariant.0 some c.drop_named.ensures.dropped c.hide.ensures.shown c.close_all.ensures.tickets).sound, omega (arith, c.self.invariant.1, c.hide.ensures.capacity), omega (arith, c.self.invariant.2, c.close_all.ensures.capacity))

pub returns-in-Ok : goal.returns-in-Ok
returns-in-Ok g c =
    let some : id_of c.args.name.now c.self.inside.scenarios ≡ Some c.in-Ok.id = ok-outcome _ _ _ c.in-Ok.ensures.answer in
    seen-as c.self.view_is (drop-accepted _ c.args.name.now c.in-Ok.id _ _ _ c.self.invariant.0 some c.drop_named.ensures.dropped c.hide.ensures.shown c.close_all.ensures.tickets)

pub invariant_of-self-in-Err : goal.invariant_of-self-in-Err
invariant_of-self-in-Err g c =
    let none : id_of c.args.name.now c.self.inside.scenarios ≡ None = search rules in
    ((drop-refused _ c.args.name.now _ c.self.invariant.0 none c.drop_named.ensures.dropped).sound, c.self.invariant.1, c.self.invariant.2)

pub returns-in-Err : goal.returns-in-Err
returns-in-Err g c =
    let none : id_of c.args.name.now c.self.inside.scenarios ≡ None = search rules in
    seen-as c.self.view_is (drop-refused _ c.args.name.now _ c.self.invariant.0 none c.drop_named.ensures.dropped)
