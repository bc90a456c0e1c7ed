use Rattle.std.proofs.Common.{refl}
use Rattle.scenarios.specs.declared.order.Order.TheVariants.{Arrival, Shortest}
use Rattle.scenarios.specs.Order.{HasEachOrder, all_orders}
use Rattle.scenarios.proofs.order.Order.all.Goals as goal

listed : HasEachOrder all_orders
listed Arrival = (0, refl)
listed Shortest = (1, refl)

pub returns-clause-each : goal.returns-clause-each
returns-clause-each c = listed
