use Rattle.std.proofs.Common.{◌≡◌, length, arith, ◌∙◌}
use Rattle.std.proofs.KnownBytes.{Appends-nil}
use Rattle.std.proofs.lemmas.List.{nil_from_length}
use Rattle.std.proofs.lemmas.Result.{err_from_is_err_and}
use Rattle.report.specs.Pages.{rows_in}
use Rattle.report.proofs.Prints.{all-done, more-done, none-done, not-done}
use Rattle.report.proofs.printing.write_alone.Goals as goal

pub rows-init : goal.rows-init
rows-init g c = none-done _ c.args.rows (Appends-nil _)

pub returns-in_err-write_bytes : goal.returns-in_err-write_bytes
returns-in_err-write_bytes g c =
    let p = err_from_is_err_and c.from_residual.result c.from_residual.ensures.1 in
    rw (p.1) (not-done _ _ _ (rows_in c.take.new.self) c.rows.rows c.take.new.rows c.args.rows c.as_slice.result.now c.rows.invariant c.take.ensures.rows
    (c.as_slice.ensures.value ∙ c.print.ensures.lines) c.in_err-write_bytes.ensures)

pub rows-preserved : goal.rows-preserved
rows-preserved g c =
    more-done _ _ _ (rows_in c.take.new.self) c.rows.rows c.take.new.rows c.args.rows c.as_slice.result.now c.rows.invariant c.take.ensures.rows
    (c.as_slice.ensures.value ∙ c.print.ensures.lines) c.in_ok-write_bytes.ensures

pub returns : goal.returns
returns g c =
    let none : length c.rows.rows ≡ 0 = omega (arith, c.left.ensures, c.rows-test.false) in
    all-done _ _ c.rows.rows c.args.rows c.rows.invariant (nil_from_length c.rows.rows none)
