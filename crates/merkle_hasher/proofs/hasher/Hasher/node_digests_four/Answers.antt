use Rattle.std.proofs.Common.{refl}
use Rattle.merkle_hasher.proofs.ShortLists.{map_of_four}
use Rattle.merkle_hasher.proofs.hasher.Hasher.node_digests_four.Goals as goal

pub returns : goal.returns
returns g c =
    let m = c.node_digest_pair-first.ensures _ _ refl in
    let k = c.node_digest_pair-third.ensures _ _ refl in
    rw (m.0, m.1, k.0, k.1)
    (map_of_four _ c.args.nodes.now _ _ _ _ c.requires c.index-nodes-0.is c.index-nodes-1.is c.index-nodes-2.is c.index-nodes-3.is)
