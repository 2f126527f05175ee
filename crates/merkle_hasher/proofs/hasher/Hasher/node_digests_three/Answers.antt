use Rattle.std.proofs.Common.{refl}
use Rattle.merkle_hasher.proofs.ShortLists.{map_of_three}
use Rattle.merkle_hasher.proofs.hasher.Hasher.node_digests_three.Goals as goal

pub returns : goal.returns
returns g c =
    let m = c.node_digest_pair-first.ensures _ _ refl in
    rw (m.0, m.1, c.node_digest-third.ensures) (map_of_three _ c.args.nodes.now _ _ _ c.requires c.index-nodes-0.is c.index-nodes-1.is c.index-nodes-2.is)
