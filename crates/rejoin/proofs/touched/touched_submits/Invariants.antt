use Rattle.std.proofs.Common.{◌≡◌, take}
use Rattle.std.specs.List.{flat_map}
use Rattle.scenarios.specs.PlanView.{plan_in}
use Rattle.rejoin.specs.Named.{submits_of}
use Rattle.rejoin.proofs.touched.touched_submits.Given as goal

abbrev pub invariant-loop-number : goal.invariant-loop-number
invariant-loop-number g l = l.submits.items ≡ flat_map (submits_of (plan_in l.old_plan) (plan_in l.new_plan)) (take l.number-index l.numbers)
