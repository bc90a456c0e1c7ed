use Rattle.std.proofs.Common.{◌∙◌}
use Rattle.chunks.proofs.Changes.{flat_two}
use Rattle.chunks.proofs.pieces.pieces_of.Goals as goal

pub returns-clause-flat : goal.returns-clause-flat
returns-clause-flat g c =
    flat_two c.in_ok-pieces.pieces.items c.push-2.new.self.items c.push-3.new.self.items c.in_ok-of-2.field-0 c.in_ok-of-3.field-0 c.args.items.items 128 c.in_ok-pieces.ensures.items c.in_ok-push-2.ensures.items c.in_ok-push-3.ensures.items
    (c.in_ok-of-2.ensures ∙ c.in_ok-back.ensures.items)
    (c.in_ok-of-3.ensures ∙ c.in_ok-back.ensures.tail)
