use Rattle.std.proofs.Common.{◌≡◌, map, take}
use Rattle.job_table.specs.Table.{pair_of}
use Rattle.job_table.proofs.index.pairs_of.Given as goal

abbrev pub invariant-loop-entry : goal.invariant-loop-entry
invariant-loop-entry g l = l.pairs.items ≡ map pair_of (take l.entry-index l.rows)
