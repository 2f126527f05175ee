use Rattle.std.proofs.Common.{◌≡◌, map, take}
use Rattle.merkle_hasher.specs.declared.subtree.Subtree.{Subtree}
use Rattle.merkle_audit_parts.specs.Listed.{digest_in}
use Rattle.merkle_audit_parts.proofs.list.ListNodes.digests.Given as goal

abbrev pub invariant-loop-node : goal.invariant-loop-node
invariant-loop-node g l = l.digests.items ≡ map (λ (n : Subtree g.row.F.Denot). digest_in g.D.Digest.EMPTY l.self.nodes.value n.position) (take l.node-index l.nodes)
