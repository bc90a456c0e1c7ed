use Rattle.std.proofs.Common.{take, map}
use Rattle.easybook.specs.Program.{AreFronts}
use Rattle.easybook.proofs.program.read_scripts.Given as goal

abbrev pub invariant-loop-name : goal.invariant-loop-name
invariant-loop-name g l = AreFronts (g.S.Sources.known l.sources) (take l.name-index (map (λ n. n.now) l.names)) (map (λ s. s.items) l.scripts.items)
