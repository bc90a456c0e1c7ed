use Rattle.std.proofs.Common.{ap, ◌∙◌}
use Rattle.std.proofs.lemmas.Result.{err_from_is_err_and}
use Rattle.report.specs.Pages.{lines_in}
use Rattle.report.proofs.Prints.{page-failed}
use Rattle.report.proofs.batch.write_all.Goals as goal

pub returns-in_err-write_bytes : goal.returns-in_err-write_bytes
returns-in_err-write_bytes g c =
    let p = err_from_is_err_and c.from_residual.result c.from_residual.ensures.1 in
    rw (p.1) (page-failed _ _ _ c.args.pages.now c.loop-page.page-index c.page-item.result c.as_slice.result.now c.loop-page-test.true (c.as_slice.ensures.value ∙ ap lines_in c.page-item.is) c.loop-page.invariant c.in_err-write_bytes.ensures)
