use Rattle.std.proofs.Common.{◌≡◌, drop}
use Rattle.merkle_restore.specs.HeldParents.{first_wrong}
use Rattle.merkle_restore.proofs.damage.compare_each.Given as goal

abbrev pub invariant-loop-node : goal.invariant-loop-node
invariant-loop-node g l =
    let h = g.H.Hasher.hashing l.hasher in
    let held = (g.B.Base.contents l.base).node in
    first_wrong h held l.nodes ≡ first_wrong h held (drop l.node-index l.nodes)
