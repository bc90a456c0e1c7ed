use Rattle.std.proofs.Common.{Vec, ap}
use Rattle.chunks.proofs.Exchanged.{put_is}
use Rattle.chunks.proofs.chunk.Chunk.put.Goals as goal

pub returns-clause-put : goal.returns-clause-put
returns-clause-put g c =
    put_is c.self.inside.len c.self.inside.from c.args.at c.self.inside.list.value.items c.in-Some.list.now.items c.args.self.now c.self.view_is
    (ap (λ (list : Vec g.row.T.Denot g.row.A.Denot). list.items) c.in-Some.ensures.value) c.requires c.args.item
