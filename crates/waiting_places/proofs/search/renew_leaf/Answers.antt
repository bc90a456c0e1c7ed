use Rattle.std.proofs.Common.{inl}
use Rattle.waiting_places.proofs.Grown.{renewed}
use Rattle.waiting_places.proofs.Parts.{raised_leaf}
use Rattle.waiting_places.proofs.search.renew_leaf.Goals as goal

pub returns-then-is_stale-clause-tree : goal.returns-then-is_stale-clause-tree
returns-then-is_stale-clause-tree g c =
    let tree = raised_leaf g.T.Waits.size g.T.Waits.estimate c.args.nodes.now c.args.places.now c.requires.tree c.args.leaf c.raise_leaf.new.nodes c.requires.leaf c.raise_leaf.ensures.len c.raise_leaf.ensures.here c.raise_leaf.ensures.others in
    renewed g.T.Waits.size g.T.Waits.estimate c.raise_leaf.new.nodes c.args.places.now tree c.outdate_above.new.nodes c.args.places.now c.outdate_above.ensures.len tree.capacity c.outdate_above.ensures.kept (λ times place x is one. inl is)
