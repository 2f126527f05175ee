use Rattle.std.proofs.Common.{◌∙◌, arith}
use Rattle.merkle_lanes.proofs.four.hash_leaves.Goals as goal

pub returns : goal.returns
returns c =
    let all = c.digests.ensures in
    let lane = c.compress_leaves.ensures in
    record {
      first = all.first ∙ lane 0 (omega arith);
      second = all.second ∙ lane 1 (omega arith);
      third = all.third ∙ lane 2 (omega arith);
      fourth = all.fourth ∙ lane 3 (omega arith);
    }
