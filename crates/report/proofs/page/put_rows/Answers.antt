use Rattle.std.proofs.Common.{arith}
use Rattle.report.proofs.Prints.{lines-next}
use Rattle.report.proofs.page.put_rows.Goals as goal

pub loop-row-preserved : goal.loop-row-preserved
loop-row-preserved c = record {
  text = lines-next c.args.rows.now c.loop-row.row-index _ _ _ c.loop-row-test.true c.loop-row.invariant.text c.put_row.ensures.line;
  short = omega (arith, c.loop-row.invariant.short, c.put_row.ensures.short);
}
