use Rattle.rejoin.proofs.Noting.{none-found, found-none}
use Rattle.rejoin.proofs.ledger.has_none.Goals as goal

pub returns : goal.returns
returns g c = ((λ t. none-found c.args.seconds.now.entries (c.is_empty.ensures.0 t)), (λ h. c.is_empty.ensures.1 (found-none c.args.seconds.now.entries h)))
