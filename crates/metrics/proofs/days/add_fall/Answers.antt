use Rattle.std.proofs.Common.{Err}
use Rattle.std.specs.Ordering.{nat_cmp}
use Rattle.metrics.proofs.RisingLists.{found_in}
use Rattle.metrics.proofs.Falls.{falls-set, falls-insert}
use Rattle.metrics.proofs.days.add_fall.Goals as goal

pub returns-in-Ok-clause-list : goal.returns-in-Ok-clause-list
returns-in-Ok-clause-list g c = falls-set c.args.falls.now.items c.in-Ok.place c.index_mut.result.now c.args.by (rw (← c.deref.ensures.value) c.in-Ok.ensures.0) c.index_mut.ensures.value c.requires.list

pub returns-in_ok-insert-in-Err-clause-list : goal.returns-in_ok-insert-in-Err-clause-list
returns-in_ok-insert-in-Err-clause-list g c = falls-insert c.args.day c.args.falls.now.items c.insert.new.self.items c.in-Err.place c.args.by (found_in nat_cmp c.args.day c.deref.result.now c.args.falls.now.items (Err c.in-Err.place) c.deref.ensures.value c.in-Err.ensures) c.in_ok-insert-in-Err.ensures.items c.requires.near c.requires.list
