use Rattle.std.specs.Arc.{arc_value}
use Rattle.scenarios.proofs.Plans.{plan-is}
use Rattle.scenarios.proofs.plan.Plan.new.Goals as goal

pub invariant_of-result : goal.invariant_of-result
invariant_of-result g c =
    let table = rw c.deref.ensures at c.len.ensures.sound in
    record { table = table; scenario = c.procs.ensures.scenario; plan = plan-is (arc_value c.args.table) c.args.scenario table c.procs.ensures.scenario }

pub returns-clause-sound : goal.returns-clause-sound
returns-clause-sound g c = plan-is (arc_value c.args.table) c.args.scenario (rw c.deref.ensures at c.len.ensures.sound) c.procs.ensures.scenario
