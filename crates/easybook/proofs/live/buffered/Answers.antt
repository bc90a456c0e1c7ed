use Rattle.easybook.proofs.Lives.{fresh}
use Rattle.easybook.proofs.live.buffered.Goals as goal

pub returns-in-Ok : goal.returns-in-Ok
returns-in-Ok g c = fresh (g.R.Read.remaining) c.in-Ok.reader c.args.reader c.in-Ok.ensures.inner c.in-Ok.ensures.empty c.in-Ok.ensures.capacity
