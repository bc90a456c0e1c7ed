use Rattle.std.proofs.Common.{List, ap, arith, drop, take, ◌∙◌}
use Rattle.chunks.proofs.Lists.{cut_more}
use Rattle.chunks.proofs.pieces.chunks_of.Goals as goal

pub chunks-preserved : goal.chunks-preserved
chunks-preserved g c =
    cut_more c.chunks.from c.min-next.result c.args.items.items c.in_ok-part.field-0 c.chunks.row.items c.push.new.self.items c.chunks.invariant
    (omega (arith, c.args.items.ok.0, c.len-len.ensures, c.chunks-test.true)) (omega (arith, c.args.items.ok.0, c.len-len.ensures, c.min-next.ensures))
    (c.in_ok-part.ensures ∙ ap (λ (list : List g.row.T.Denot). take c.min-next.result (drop c.chunks.from list)) c.in_ok-whole.ensures) c.in_ok-push.ensures.items
