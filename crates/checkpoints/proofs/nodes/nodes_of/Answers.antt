use Rattle.std.proofs.Common.{[], subst, sym, refl}
use Rattle.checkpoints.specs.Nodes.{AreNodesOf}
use Rattle.checkpoints.proofs.nodes.nodes_of.Goals as goal

pub returns : goal.returns
returns g c = c.in_ok-add_nodes.ensures.nodes [] (subst (AreNodesOf []) (sym c.new.ensures.items) refl)
