use Rattle.std.proofs.Common.{rules, nat_lt}
use Rattle.std.proofs.lemmas.List.Sorted.{IsPartitionPoint-from_clause, IsPartitionedBy-ltb}
use Rattle.rejoin.proofs.Finding.{partition-count}
use Rattle.rejoin.proofs.search.count_below.Goals as goal

pub returns : goal.returns
returns c =
    let ns = c.args.numbers.now in
    let parts = IsPartitionPoint-from_clause (λ n. nat_lt n c.args.bound) ns c.partition_point.result c.partition_point.ensures.partitioned (IsPartitionedBy-ltb (λ n. n) ns c.args.bound c.requires) (λ a r q k. search rules) in
    partition-count ns c.args.bound c.partition_point.result (search rules) parts
