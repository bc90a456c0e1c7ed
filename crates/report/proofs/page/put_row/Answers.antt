use Rattle.std.proofs.Common.{◌∙◌, length, refl}
use Rattle.report.specs.Pieces.{verdict}
use Rattle.report.specs.Schedule.{row_numbers}
use Rattle.report.proofs.Joins.{begun, joined_as}
use Rattle.report.proofs.Lines.{slice-rest}
use Rattle.report.proofs.page.put_row.Goals as goal

pub returns-clause-line : goal.returns-clause-line
returns-clause-line c =
    let row = c.args.row.now in
    let numbers = row_numbers row in
    joined_as c.args.lines.now.items numbers (verdict row.killed)
    (begun c.args.lines.now.items numbers c.put_all.ensures (slice-rest c.row_numbers-numbers.result.line c.row_numbers-numbers.result.begin (length c.row_numbers-numbers.result.line) refl ∙ c.row_numbers-numbers.ensures.numbers))
    c.put_all-2.ensures c.verdict.ensures.text
