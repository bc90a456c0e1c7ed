use Rattle.std.proofs.Common.{◌+◌, ◌/◌, ◌-◌, length, subst, sym}
use Rattle.waiting_places.specs.Bounds.{FrontierView, IsBelow}
use Rattle.waiting_places.proofs.Nodes.{in_leaf, written}
use Rattle.waiting_places.proofs.tree.raise_leaf.Goals as goal

pub returns-clause-here : goal.returns-clause-here
returns-clause-here g c place x is at =
    let below = c.set.ensures (place - c.min-from.result) x (in_leaf c.args.places.now place c.args.leaf c.min-from.result c.min-to.result x is at c.min-from.ensures c.min-to.ensures) in
    subst (λ (m : FrontierView). IsBelow m (g.T.Waits.size x) (g.T.Waits.estimate x)) (sym (written c.args.nodes.now (length c.args.nodes.now / 2 + c.args.leaf) c.set.new.self c.requires)) below
