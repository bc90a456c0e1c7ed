use Rattle.report.specs.Pieces.{verdict}
use Rattle.report.specs.Schedule.{row_numbers}
use Rattle.report.proofs.Joins.{begun, joined_as}
use Rattle.report.proofs.Lines.{slice-rest}
use Rattle.report.proofs.schedule.push_row.Goals as goal
use Rattle.std.proofs.Common.{◌∙◌, length, refl}

pub returns : goal.returns
returns g c =
    let row = c.args.row.now in
    let numbers = row_numbers row in
    joined_as c.args.text.now.items numbers (verdict row.killed)
    (begun c.args.text.now.items numbers c.in_ok-extend_from_slice.ensures.items (slice-rest c.row_numbers-numbers.result.line c.row_numbers-numbers.result.begin (length c.row_numbers-numbers.result.line) refl ∙ c.row_numbers-numbers.ensures.numbers))
    c.in_ok-extend_from_slice-2.ensures.items c.verdict.ensures.text
