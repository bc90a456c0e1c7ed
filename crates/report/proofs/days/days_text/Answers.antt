use Rattle.std.proofs.Common.{◌++◌, sym, ap, ◌∙◌, arith}
use Rattle.std.specs.List.{flat_map}
use Rattle.std.proofs.lemmas.List.{append-nil, drop_all}
use Rattle.report.specs.Days.{day_line}
use Rattle.report.proofs.Joins.{next_line}
use Rattle.report.proofs.days.days_text.Goals as goal

pub lines-preserved : goal.lines-preserved
lines-preserved g c = next_line day_line _ c.lines.row-index _ _ _ _ c.lines-test.true c.lines.invariant c.in_ok-push_day.ensures

pub returns : goal.returns
returns g c =
    let none = drop_all c.lines.row-index c.deref-row-items.result.now (omega (arith, c.lines-test.false)) in
    sym (append-nil c.lines.text.items) ∙ ap (λ left. c.lines.text.items ++ flat_map day_line left) (sym none) ∙ c.lines.invariant
