use Rattle.std.proofs.Common.{Vec, ap}
use Rattle.chunks.proofs.Lists.{part_is}
use Rattle.chunks.proofs.chunk.Chunk.part.Goals as goal

pub returns : goal.returns
returns g c =
    part_is c.args.len c.args.from c.self.inside.len c.self.inside.from c.self.inside.list.value.items c.args.self.now c.in_ok-try_clone.field-0.value.items c.self.view_is c.requires
    (ap (λ (list : Vec g.row.T.Denot g.row.A.Denot). list.items) c.in_ok-try_clone.ensures)
