use Rattle.metrics.proofs.Falls.{falls_of_none}
use Rattle.metrics.proofs.days.Days.none.Goals as goal

pub returns : goal.returns
returns g c = falls_of_none _ _ c.new.ensures.items c.new-2.ensures.items
