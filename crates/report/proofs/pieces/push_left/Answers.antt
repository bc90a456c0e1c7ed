use Rattle.std.proofs.Common.{◌≡◌, ◌-◌, ◌++◌, length, ap, ◌∙◌}
use Rattle.std.specs.Prelude.{replicate}
use Rattle.report.proofs.Joins.{joined}
use Rattle.report.proofs.pieces.push_left.Goals as goal

pub returns : goal.returns
returns g c =
    let pad : c.blanks-pad.result.now ≡ replicate (c.args.width - length c.args.name.now) 32 = c.blanks-pad.ensures ∙ ap (λ k. replicate k 32) c.saturating_sub.ensures in
    joined _ _ _ c.in_ok-extend_from_slice.ensures.items (c.in_ok-extend_from_slice-2.ensures.items ∙ ap (λ p. c.extend_from_slice.new.self.items ++ p) pad)
