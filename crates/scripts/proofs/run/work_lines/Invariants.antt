use Rattle.std.proofs.Common.{map, length, ◌+◌, ◌≤◌}
use Rattle.scripts.proofs.Scripts.{HaveAnswered}
use Rattle.scripts.proofs.run.work_lines.Given as goal

abbrev pub invariant-loop-rest : goal.invariant-loop-rest
invariant-loop-rest g l = record {
  within : l.number + length l.rest ≤ length l.script + 1;
  outcome : HaveAnswered g.S.Analyst.rules g.row.A.Denot (map (λ c. c.items) l.comments) l.fn.analyst l.script l.analyst l.rest l.number (g.W.Write.contents l.fn.writer) (g.W.Write.contents l.writer);
}

abbrev pub decreases-loop-rest : goal.decreases-loop-rest
decreases-loop-rest g l = length l.rest
