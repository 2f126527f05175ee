use Rattle.std.proofs.Common.{refl, ◌∙◌}
use Rattle.merkle_lanes.proofs.BlockLemmas.{digest_of_padded}
use Rattle.merkle_lanes.proofs.hash_one_within.Goals as goal

pub returns : goal.returns
returns g c =
    let k = c.in_ok-count in
    c.hash_blocks.ensures ∙ digest_of_padded _ c.pad.new.bytes k.count k.count refl k.ensures.count k.ensures.bytes
