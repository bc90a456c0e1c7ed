use Rattle.scenarios.proofs.Skipping.{counted-more, counted-all, counted-first, counted-small}
use Rattle.scenarios.proofs.skips.skips_among.Goals as goal

pub entries-init : goal.entries-init
entries-init g c = counted-first c.args.entries c.args.scenario.now

pub add_skip-requires-clause-size : goal.add_skip-requires-clause-size
add_skip-requires-clause-size g c = (counted-small c.entries.skips c.entries.entries c.args.entries c.args.scenario.now c.entries.invariant c.requires).0

pub add_skip-requires-clause-run : goal.add_skip-requires-clause-run
add_skip-requires-clause-run g c = (counted-small c.entries.skips c.entries.entries c.args.entries c.args.scenario.now c.entries.invariant c.requires).1

pub add_skip-requires-clause-large : goal.add_skip-requires-clause-large
add_skip-requires-clause-large g c = (counted-small c.entries.skips c.entries.entries c.args.entries c.args.scenario.now c.entries.invariant c.requires).2

pub add_skip-requires-clause-long : goal.add_skip-requires-clause-long
add_skip-requires-clause-long g c = (counted-small c.entries.skips c.entries.entries c.args.entries c.args.scenario.now c.entries.invariant c.requires).3

pub entries-preserved : goal.entries-preserved
entries-preserved g c =
    counted-more c.entries.skips c.add_skip.new.skips c.entries.entries c.next.new.self c.args.entries c.in-Some.entry.now c.in-Err.reason c.args.scenario.now c.entries.invariant c.in-Some.ensures.steps c.in-Err.ensures.job
    c.add_skip.ensures.size c.add_skip.ensures.run c.add_skip.ensures.large c.add_skip.ensures.long

pub returns : goal.returns
returns g c = counted-all c.entries.skips c.entries.entries c.args.entries c.args.scenario.now c.entries.invariant c.in_default.ensures.steps.0
