use Rattle.std.proofs.Common.{◌≡◌, drop}
use Rattle.std.specs.List.{list_any}
use Rattle.easy_rule.specs.Rule.{may_backfill}
use Rattle.easy_rule.proofs.behind.may_any.Given as goal

abbrev pub invariant-loop-job : goal.invariant-loop-job
invariant-loop-job g l = list_any (may_backfill l.now l.free l.shadow) l.job-iterator ≡ list_any (may_backfill l.now l.free l.shadow) (drop l.settled l.cluster.state.waiting)
