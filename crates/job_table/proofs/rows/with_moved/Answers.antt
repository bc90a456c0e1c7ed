use Rattle.chunks.specs.Chunks.{flat}
use Rattle.std.proofs.Common.{◌≤◌, ℕ, length, ap, ◌∙◌, arith, subst, sym}
use Rattle.job_table.specs.Table.{IsTable}
use Rattle.job_table.specs.Edit.{without}
use Rattle.job_table.proofs.Tables.{table-left}
use Rattle.job_table.proofs.Stored.{left-some}
use Rattle.job_table.proofs.rows.with_moved.Goals as goal

pub with_one-requires-clause-table : goal.with_one-requires-clause-table
with_one-requires-clause-table g c = subst IsTable (sym c.in_ok-left.ensures.rows) (table-left c.number.result (flat c.args.rows.now) c.requires.table)

pub returns-clause-both : goal.returns-clause-both
returns-clause-both g c = λ two.
    let rows = flat c.args.rows.now in
    let left : 1 ≤ length (flat c.in_ok-left.left) = left-some _ c.args.submit rows (flat c.in_ok-left.left) c.requires.table c.requires.known (c.in_ok-left.ensures.rows ∙ ap (λ (n : ℕ). without n rows) c.number.ensures.number) two in
    omega (arith, c.in_ok-left.ensures.least, c.in_ok-with_one.ensures.least left)
