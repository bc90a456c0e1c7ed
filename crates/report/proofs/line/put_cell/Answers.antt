use Rattle.std.proofs.Common.{arith}
use Rattle.report.proofs.Lines.{blanks-before, cell-put}
use Rattle.report.specs.Pieces.{right}
use Rattle.std.specs.Fmt.{decimal}
use Rattle.std.proofs.Common.{◌-◌, drop}
use Rattle.report.proofs.line.put_cell.Goals as goal

pub returns-clause-written : goal.returns-clause-written
returns-clause-written c =
    cell-put c.put_right.new.line (right c.args.width (decimal c.args.number)) (drop c.args.end c.args.line.now) (c.put_right.result - 1) c.put_right.result (omega (arith, c.put_right.ensures.least, c.requires.capacity)) c.put_right.ensures.written c.put_right.ensures.blank

pub returns-clause-blank : goal.returns-clause-blank
returns-clause-blank c = blanks-before c.put_right.new.line (c.put_right.result - 1) c.put_right.result (omega arith) c.put_right.ensures.blank
