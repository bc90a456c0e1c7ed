use Rattle.std.proofs.Common.{rules}
use Rattle.std.proofs.lemmas.List.Sorted.{IsPartitionPoint-from_clause}
use Rattle.chunks.specs.Chunks.{stands}
use Rattle.chunks.proofs.Places.{placed_at}
use Rattle.chunks.proofs.search.before.Goals as goal

pub returns-clause-place : goal.returns-clause-place
returns-clause-place g c =
    let test = stands g.T.Keyed.major g.T.Keyed.minor c.args.major c.args.minor in
    let split = IsPartitionPoint-from_clause test c.args.items.now c.partition_point.result c.partition_point.ensures.partitioned c.requires (λ a r q k. search rules) in
    placed_at test c.args.items.now c.partition_point.result c.partition_point.ensures.bound split
