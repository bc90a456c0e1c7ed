use Rattle.std.proofs.Common.{sym, ◌∙◌}
use Rattle.job_table.proofs.Same.{same-entry}
use Rattle.job_table.proofs.rows.is_same.Goals as goal

pub returns-then-are_equal : goal.returns-then-are_equal
returns-then-are_equal g c =
    let main = sym (c.as_slice.ensures ∙ c.main.ensures.main) ∙ c.are_equal.ensures.0 c.if-are_equal.true ∙ (c.as_slice-2.ensures ∙ c.main-2.ensures.main) in
    same-entry c.args.one.now c.args.other.now c.parts.result.now c.parts-then-are_equal.result.now c.eq.result main c.parts.ensures c.parts-then-are_equal.ensures c.eq.ensures
