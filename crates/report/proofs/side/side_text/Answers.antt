use Rattle.std.proofs.Common.{◌++◌, ap, ◌∙◌, length, refl}
use Rattle.std.specs.Prelude.{codes}
use Rattle.std.specs.Fmt.{decimal}
use Rattle.report.specs.Side.{side_line}
use Rattle.report.proofs.Joins.{three, headed, next_line}
use Rattle.report.proofs.side.side_text.Goals as goal

pub lines-init : goal.lines-init
lines-init g c =
    let empty = c.in_ok-text.text.items in
    let count = decimal (length c.args.lines.now) in
    let heading = codes "side scenarios " ++ count ++ codes "\n" in
    let piece = three empty (codes "side scenarios ") count (codes "\n") c.in_ok-extend_from_slice.ensures.items c.in_ok-push_number.ensures c.in_ok-push.ensures.items in
    headed side_line heading heading empty c.push.new.self.items c.args.lines.now c.args.lines.now c.in_ok-text.ensures.items piece refl refl

pub lines-preserved : goal.lines-preserved
lines-preserved g c =
    next_line side_line c.args.lines.now c.lines.line-index c.line-item.result _ _ _ c.lines-test.true c.lines.invariant (c.in_ok-push_side.ensures ∙ ap (λ line. c.lines.text.items ++ side_line line) c.line-item.is)
