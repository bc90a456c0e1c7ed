use Rattle.std.proofs.Common.{map, take}
use Rattle.job_table.specs.Edit.{edit_of}
use Rattle.scenarios.specs.PlanView.{plan_in}
use Rattle.rejoin.proofs.Collecting.{Collected}
use Rattle.rejoin.proofs.touched.touched_numbers.Given as goal

abbrev pub invariant-loop-edit : goal.invariant-loop-edit
invariant-loop-edit g l = Collected (plan_in l.old_plan) (plan_in l.new_plan) (map edit_of (take l.edit-index l.edits)) l.numbers.items
