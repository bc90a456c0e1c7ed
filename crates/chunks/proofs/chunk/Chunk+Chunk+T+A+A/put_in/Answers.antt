use Rattle.std.proofs.Common.{List, Vec, ap}
use Rattle.std.proofs.lemmas.Result.{on_err_weaker, on_ok_weaker}
use Rattle.chunks.proofs.Exchanged.{kept_is, put_within}
use Rattle.chunks.proofs.chunk.Chunk+Chunk+T+A+A.put_in.Goals as goal

pub returns-clause-put : goal.returns-clause-put
returns-clause-put g c =
    on_ok_weaker c.put.result
    (λ put.
    put_within c.self.inside.len c.self.inside.from c.args.chunk c.self.inside.list.value.items c.in-Some.list.now.items c.args.self.now c.self.view_is
    (ap (λ (list : Vec (List g.row.T.Denot) g.row.A.Denot). list.items) c.in-Some.ensures.value) c.requires.chunk c.index_mut.result.now c.put.new.self c.args.at c.args.item c.index_mut.ensures.value put)
    c.put.ensures.put

pub returns-clause-kept : goal.returns-clause-kept
returns-clause-kept g c =
    on_err_weaker c.put.result
    (λ kept.
    kept_is c.self.inside.len c.self.inside.from c.args.chunk c.self.inside.list.value.items c.in-Some.list.now.items c.args.self.now c.self.view_is
    (ap (λ (list : Vec (List g.row.T.Denot) g.row.A.Denot). list.items) c.in-Some.ensures.value) c.requires.chunk c.put.new.self c.index_mut.result.now c.index_mut.ensures.value kept)
    c.put.ensures.kept
