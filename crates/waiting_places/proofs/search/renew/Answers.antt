use Rattle.std.proofs.Common.{inl}
use Rattle.waiting_places.proofs.Grown.{renewed}
use Rattle.waiting_places.proofs.Parts.{raised}
use Rattle.waiting_places.proofs.search.renew.Goals as goal

pub returns-then-is_stale-clause-tree : goal.returns-then-is_stale-clause-tree
returns-then-is_stale-clause-tree g c =
    let tree = raised g.T.Waits.size g.T.Waits.estimate c.args.nodes.now c.args.places.now c.requires.tree c.args.node c.raise.new.nodes c.requires.inner c.raise.ensures.len c.raise.ensures.first c.raise.ensures.second c.raise.ensures.others in
    renewed g.T.Waits.size g.T.Waits.estimate c.raise.new.nodes c.args.places.now tree c.outdate_above.new.nodes c.args.places.now c.outdate_above.ensures.len tree.capacity c.outdate_above.ensures.kept (λ times place x is one. inl is)
