use Rattle.std.proofs.Common.{◌-◌, ◌≤◌}
use Rattle.event_loop.specs.Going.{IsRunOn, IsLast}
use Rattle.event_loop.proofs.engine.Engine.work_until.Given as goal

abbrev pub invariant-events : goal.invariant-events
invariant-events g l = record {
  run : IsRunOn l.fn.self l.self l.all.items;
  last : IsLast l.fn.self l.self;
  within : l.self.position ≤ l.end;
}

abbrev pub decreases-events : goal.decreases-events
decreases-events g l = l.end - l.self.position
