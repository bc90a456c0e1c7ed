use Rattle.std.proofs.Common.{map, ap}
use Rattle.easybook.proofs.Histories.{no_parts_of}
use Rattle.easybook.proofs.threads.outputs_of.Goals as goal

pub loop-thread-init : goal.loop-thread-init
loop-thread-init g c = no_parts_of g.row.A.Denot g.J.Naming.opening g.J.Works.comments g.J.Works.scripts c.in_ok-sessions.sessions.items (map (λ t. t.items) c.in_ok-texts.texts.items) c.in_ok-sessions.ensures.items (ap (map (λ t. t.items)) c.in_ok-texts.ensures.items)
