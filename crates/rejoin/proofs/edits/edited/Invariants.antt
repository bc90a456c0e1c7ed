use Rattle.std.proofs.Common.{map, take}
use Rattle.job_table.specs.Edit.{edit_of}
use Rattle.rejoin.proofs.Editing.{Edited}
use Rattle.rejoin.proofs.edits.edited.Given as goal

abbrev pub invariant-loop-edit : goal.invariant-loop-edit
invariant-loop-edit g l = Edited l.table (map edit_of (take l.edit-index l.edits)) l.new
