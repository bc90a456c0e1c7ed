use Rattle.std.proofs.Common.{drop, refl}
use Rattle.std.specs.Prelude.{replicate}
use Rattle.std.specs.Fmt.{decimal}
use Rattle.report.specs.Pieces.{right, cell}
use Rattle.report.proofs.Lines.{five-put}
use Rattle.report.proofs.schedule.row_numbers.Goals as goal

pub returns-clause-numbers : goal.returns-clause-numbers
returns-clause-numbers c =
    let row = c.args.row.now in
    five-put (right 8 (decimal row.number)) (cell 10 row.submit) (cell 10 row.start) (cell 10 row.end) (cell 8 row.size)
    (drop c.put_right-begin.result c.put_right-begin.new.line) (drop c.put_cell-submit.result c.put_cell-submit.new.line) (drop c.put_cell-start.result c.put_cell-start.new.line)
    (drop c.put_cell-end.result c.put_cell-end.new.line) (drop c.put_cell-size.result c.put_cell-size.new.line) (drop 105 (replicate 105 32))
    c.put_right-begin.ensures.written c.put_cell-submit.ensures.written c.put_cell-start.ensures.written c.put_cell-end.ensures.written c.put_cell-size.ensures.written refl
