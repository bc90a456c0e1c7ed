use Rattle.std.proofs.Common.{◌≡◌, map, take}
use Rattle.job_table.specs.Edit.{edit_of}
use Rattle.book_machine.specs.Noted.{noted_edit_of}
use Rattle.tasks.proofs.base.edits_of.Given as goal

abbrev pub invariant-loop-edit : goal.invariant-loop-edit
invariant-loop-edit g l = map edit_of l.edits.items ≡ map noted_edit_of (take l.edit-index l.noted)
