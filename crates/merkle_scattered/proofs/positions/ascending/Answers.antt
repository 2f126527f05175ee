use Rattle.std.proofs.lemmas.List.Filters.{dedup_is}
use Rattle.merkle_scattered.proofs.RisingLists.{sorted_once}
use Rattle.merkle_scattered.proofs.positions.ascending.Goals as goal

pub returns : goal.returns
returns g c = sorted_once _ _ _ c.sort_unstable.ensures.permutation c.sort_unstable.ensures.sorted (dedup_is _ _ _ c.dedup.ensures.filtered)
