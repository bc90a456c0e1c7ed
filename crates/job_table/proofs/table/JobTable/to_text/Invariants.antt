use Rattle.std.proofs.Common.{◌≡◌, take, map}
use Rattle.job_table.proofs.table.JobTable.to_text.Given as goal

abbrev pub invariant-loop-comment : goal.invariant-loop-comment
invariant-loop-comment g l = map (λ c. c.items) l.lines.items ≡ map (λ c. c.items) (take l.comment-index l.comments)
