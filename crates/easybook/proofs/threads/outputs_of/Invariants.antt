use Rattle.std.proofs.Common.{map}
use Rattle.easybook.specs.DeskRules.{AreAtDesk}
use Rattle.easybook.proofs.threads.outputs_of.Given as goal

abbrev pub invariant-loop-thread : goal.invariant-loop-thread
invariant-loop-thread g l = AreAtDesk g.row.A.Denot g.J.Naming.opening g.J.Works.comments g.J.Works.scripts l.sessions.items (map (λ t. t.items) l.texts.items)
