use Rattle.std.proofs.Common.{◌+◌, ◌-◌, ◌*◌, ◌^◌, ◌<◌, ◌≤◌, ◌⊎◌}
use Rattle.merkle_base.specs.Forest.{size}
use Rattle.merkle_forest_theory.specs.Mmr.{mmr_merges}
use Rattle.merkle_topology.proofs.mmr.search.Given as goal

abbrev pub invariant-loop-low : goal.invariant-loop-low
invariant-loop-low l = record {
  ordered : l.low ≤ l.high;
  limit : l.high ≤ 4611686018427387904;
  within : size mmr_merges l.low ≤ l.nodes;
  greatest : l.nodes < size mmr_merges (l.high + 1);
  halved : (l.high - l.low) * 2 ^ (l.probes - 2) ≤ 32;
  begun : (l.low < l.high) ⊎ (1 ≤ l.probes);
  counted : l.probes ≤ 8;
}

abbrev pub decreases-loop-low : goal.decreases-loop-low
decreases-loop-low l = l.high - l.low
