use Rattle.std.proofs.Common.{rules, nat_lt}
use Rattle.std.proofs.lemmas.List.Sorted.{IsPartitionPoint-from_clause, IsPartitionedBy-ltb}
use Rattle.merkle_scattered.proofs.ScatteredPositions.{parted_at}
use Rattle.merkle_scattered.proofs.multi.count_before.Goals as goal

pub returns-clause-parts : goal.returns-clause-parts
returns-clause-parts g c =
    let parted = IsPartitionedBy-ltb (λ i. i) _ c.args.end c.requires.ascend in
    let point = IsPartitionPoint-from_clause (λ i. nat_lt i c.args.end) _ _ c.partition_point.ensures.partitioned parted (λ a r q k. search rules) in
    parted_at c.args.end c.args.locations.now c.partition_point.result point.0 point.1 c.partition_point.ensures.bound
