use Rattle.easy_rule.proofs.WalkLemmas.{IsWalk}
use Rattle.easy_rule.proofs.shadow_walk.walk.Given as goal

abbrev pub invariant-loop-r : goal.invariant-loop-r
invariant-loop-r g l = IsWalk l.cluster.state l.need l.capacity l.time l.reads l.r-iterator
