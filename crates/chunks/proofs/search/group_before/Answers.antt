use Rattle.std.proofs.Common.{rules}
use Rattle.std.proofs.lemmas.List.Sorted.{IsPartitionPoint-from_clause}
use Rattle.chunks.specs.Chunks.{ends_by, stands}
use Rattle.chunks.proofs.Places.{placed_at}
use Rattle.chunks.proofs.Grouped.{parted_groups}
use Rattle.chunks.proofs.search.group_before.Goals as goal

pub returns-clause-place : goal.returns-clause-place
returns-clause-place g c =
    let ends = ends_by (ends_by (stands g.T.Keyed.major g.T.Keyed.minor c.args.major c.args.minor)) in
    let parted = parted_groups (stands g.T.Keyed.major g.T.Keyed.minor c.args.major c.args.minor) c.args.groups.now c.requires.sized.groups c.requires.sized.chunks c.requires.parted in
    let split = IsPartitionPoint-from_clause ends c.args.groups.now c.partition_point.result c.partition_point.ensures.partitioned parted (λ a r q k. search rules) in
    placed_at ends c.args.groups.now c.partition_point.result c.partition_point.ensures.bound split
