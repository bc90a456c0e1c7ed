use Rattle.std.proofs.Common.{rules}
use Rattle.std.proofs.lemmas.List.Sorted.{IsPartitionPoint-from_clause}
use Rattle.chunks.specs.Chunks.{ends_by, stands}
use Rattle.chunks.proofs.Places.{parted-ends, placed_at}
use Rattle.chunks.proofs.search.chunk_before.Goals as goal

pub returns-clause-place : goal.returns-clause-place
returns-clause-place g c =
    let test = stands g.T.Keyed.major g.T.Keyed.minor c.args.major c.args.minor in
    let split = IsPartitionPoint-from_clause (ends_by test) c.args.row.now c.partition_point.result c.partition_point.ensures.partitioned (parted-ends test c.args.row.now c.requires.sized c.requires.parted) (λ a r q k. search rules) in
    placed_at (ends_by test) c.args.row.now c.partition_point.result c.partition_point.ensures.bound split
