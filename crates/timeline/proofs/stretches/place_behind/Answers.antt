use Rattle.std.proofs.Common.{nat_le, ◌+◌, ◌-◌, arith, rules}
use Rattle.std.proofs.lemmas.Bool.{leb-true, leb-false}
use Rattle.std.proofs.lemmas.List.Sorted.{IsPartitionPoint-from_clause, IsPartitionedBy-leb}
use Rattle.timeline.proofs.Places.{parted}
use Rattle.timeline.proofs.stretches.place_behind.Goals as goal

pub returns : goal.returns
returns c =
    let seconds = c.args.seconds.now in
    let rises = IsPartitionedBy-leb (λ s. s - c.args.second) seconds c.args.lasting (λ i j d l m. (let k = c.requires.rising i j d l m in omega (arith, k))) in
    let point = IsPartitionPoint-from_clause (λ s. nat_le (s - c.args.second) c.args.lasting) _ _ c.partition_point-place.ensures.partitioned rises (λ a r q k. search rules) in
    parted (c.args.second + c.args.lasting) seconds c.partition_point-place.result c.requires.rising c.partition_point-place.ensures.bound
    (λ k l. (let m = leb-true _ _ (point.0 k 0 (omega arith) l) in omega (arith, m)))
    (λ k l u. (let m = leb-false _ _ (point.1 k 0 l u) in omega (arith, m)))
