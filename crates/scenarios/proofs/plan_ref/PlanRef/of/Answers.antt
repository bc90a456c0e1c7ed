use Rattle.scenarios.proofs.Plans.{plan-is}
use Rattle.scenarios.proofs.plan_ref.PlanRef.of.Goals as goal

pub invariant_of-result : goal.invariant_of-result
invariant_of-result g c =
    let table = c.len.ensures.sound in
    record { table = table; scenario = c.procs.ensures.scenario; plan = plan-is c.args.table.now c.args.scenario table c.procs.ensures.scenario }

pub returns-clause-sound : goal.returns-clause-sound
returns-clause-sound g c = plan-is c.args.table.now c.args.scenario c.len.ensures.sound c.procs.ensures.scenario
