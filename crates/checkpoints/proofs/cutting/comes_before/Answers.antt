use Rattle.checkpoints.proofs.Coming.{comes-none, comes-at, quiet-none, quiet-at}
use Rattle.checkpoints.proofs.cutting.comes_before.Goals as goal

pub returns-in-None-default-clause-comes : goal.returns-in-None-default-clause-comes
returns-in-None-default-clause-comes g c = comes-none c.args.engine.now c.args.end c.next_event.result (c.next_event.ensures.going c.requires) c.in-None-default.is-0

pub returns-in-None-default-clause-none : goal.returns-in-None-default-clause-none
returns-in-None-default-clause-none g c e = quiet-none c.args.engine.now c.args.end c.next_event.result (c.next_event.ensures.going c.requires) c.in-None-default.is-0

pub returns-in-Some-Some-clause-comes : goal.returns-in-Some-Some-clause-comes
returns-in-Some-Some-clause-comes g c =
    comes-at c.args.engine.now c.args.end c.next_event.result c.in-Some-Some.second c.in-Some-Some.end (c.next_event.ensures.going c.requires) c.in-Some-Some.is-0 c.in-Some-Some.is-1

pub returns-in-Some-Some-clause-none : goal.returns-in-Some-Some-clause-none
returns-in-Some-Some-clause-none g c late =
    quiet-at c.args.engine.now c.args.end c.next_event.result c.in-Some-Some.second c.in-Some-Some.end (c.next_event.ensures.going c.requires) c.in-Some-Some.is-0 c.in-Some-Some.is-1 late
