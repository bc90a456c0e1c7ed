use Rattle.std.proofs.Common.{length}
use Rattle.report.proofs.Prints.{IsWriting}
use Rattle.report.proofs.printing.write_alone.Given as goal

abbrev pub invariant-rows : goal.invariant-rows
invariant-rows g l = IsWriting (g.W.Write.contents l.fn.writer) (g.W.Write.contents l.writer) l.rows l.fn.rows

abbrev pub decreases-rows : goal.decreases-rows
decreases-rows g l = length l.rows
