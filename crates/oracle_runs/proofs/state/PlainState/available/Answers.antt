use Rattle.std.proofs.Common.{arith}
use Rattle.easy_rule.proofs.Lemmas.{available-le}
use Rattle.oracle_runs.proofs.state.PlainState.available.Goals as goal

pub overflow_add-result : goal.overflow_add-result
overflow_add-result g c =
    let within = rw (← c.self.view_is) at (available-le c.args.self.now c.args.t c.free.ensures.sound) in
    let free = rw (← c.self.view_is) at c.free.ensures.value in
    let back = rw c.deref.ensures.value at c.all_back_by.ensures in
    omega (arith, within, free, back, c.self.invariant.limited)
