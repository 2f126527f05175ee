use Rattle.std.proofs.Common.{◌≡◌, ◌++◌, map, take}
use Rattle.merkle_hasher.specs.declared.subtree.Subtree.{Subtree}
use Rattle.merkle_audit_parts.specs.Claimed.{digest_in_claim}
use Rattle.merkle_audit_parts.proofs.claim.RangeNodes.push_digests.Given as goal

abbrev pub invariant-loop-node : goal.invariant-loop-node
invariant-loop-node g l = l.digests.items ≡ l.fn.digests.items ++ map (λ (n : Subtree g.row.F.Denot). digest_in_claim g.D.Digest.EMPTY l.self n.position) (take l.node-index l.nodes)
