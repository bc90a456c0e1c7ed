use Rattle.std.proofs.Common.{◌≡◌, map, take}
use Rattle.commands.specs.Opening.{declared}
use Rattle.commands.proofs.opening.declared_list.Given as goal

abbrev pub invariant-loop-comment : goal.invariant-loop-comment
invariant-loop-comment g l = l.list ≡ declared (take l.comment-index (map (λ c. c.items) l.comments))
