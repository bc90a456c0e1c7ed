use Rattle.std.proofs.Common.{arith}
use Rattle.cluster_state.proofs.cluster.Cluster.with_running.Goals as goal

pub of-requires-clause-once : goal.of-requires-clause-once
of-requires-clause-once g c = λ n. (let o = c.requires.sound.once n in omega (arith, o))
