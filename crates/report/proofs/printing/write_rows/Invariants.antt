use Rattle.std.proofs.Common.{◌<◌, length}
use Rattle.report.proofs.Prints.{IsPrinting}
use Rattle.report.proofs.printing.write_rows.Given as goal

abbrev pub invariant-rows : goal.invariant-rows
invariant-rows g l = record {
  printed : 0 < length l.printed.items;
  next : 0 < length l.next.items;
  under_way : IsPrinting (g.W.Write.contents l.fn.writer) (g.W.Write.contents l.writer) l.printed.items l.next.items l.rows l.fn.rows;
}

abbrev pub decreases-rows : goal.decreases-rows
decreases-rows g l = length l.rows
