use Rattle.std.proofs.Common.{map, take}
use Rattle.job_table.specs.Edit.{edit_of}
use Rattle.rejoin.specs.Skips.{AreNumbersOf}
use Rattle.rejoin.proofs.skips.numbers_of.Given as goal

abbrev pub invariant-loop-edit : goal.invariant-loop-edit
invariant-loop-edit g l = AreNumbersOf (map edit_of (take l.edit-index l.edits)) l.numbers.keys
