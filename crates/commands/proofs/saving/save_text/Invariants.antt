use Rattle.std.proofs.Common.{◌≡◌, ◌++◌, map, take}
use Rattle.commands.specs.Opening.{comment_of}
use Rattle.commands.proofs.saving.save_text.Given as goal

abbrev pub invariant-loop-comment : goal.invariant-loop-comment
invariant-loop-comment g l = map (λ c. c.items) l.lines.items ≡ take l.comment-index (map (λ c. c.items) l.comments)

abbrev pub invariant-loop-place : goal.invariant-loop-place
invariant-loop-place g l = map (λ c. c.items) l.lines.items ≡ map (λ c. c.items) l.comments ++ take l.place (map comment_of l.scenarios.scenarios)
