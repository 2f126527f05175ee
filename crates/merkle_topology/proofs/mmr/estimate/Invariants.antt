use Rattle.std.proofs.Common.{◌≡◌, ◌<◌, ◌^◌}
use Rattle.merkle_topology.proofs.mmr.estimate.Given as goal

abbrev pub invariant-loop : goal.invariant-loop
invariant-loop l = record {
  same : l.nodes ≡ l.fn.nodes;
  below : l.leaves < 2 ^ 63;
}
