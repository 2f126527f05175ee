use Rattle.std.proofs.Common.{◌∙◌}
use Rattle.merkle_hasher.proofs.LeafDigests.{positioned_digests-push, positioned_digests-hashed}
use Rattle.merkle_leaves.proofs.queue.queue_leaf.Goals as goal

pub returns-then-len-lt-LEAVES_AT_ONCE : goal.returns-then-len-lt-LEAVES_AT_ONCE
returns-then-len-lt-LEAVES_AT_ONCE g c =
    positioned_digests-push (g.T.Hasher.hashing c.args.hasher.now) c.args.digests.now.items c.args.waiting.now.items c.push.new.self.items c.args.position c.args.element c.in-Ok.ensures.items

pub returns : goal.returns
returns g c =
    let h = g.T.Hasher.hashing c.args.hasher.now in
    positioned_digests-hashed h c.args.digests.now.items c.leaf_digests.new.digests.items c.push.new.self.items c.deref.result.now
    c.clear.new.self.items c.clear.ensures.items c.deref.ensures.value c.in_ok-leaf_digests.ensures
    ∙ positioned_digests-push h c.args.digests.now.items c.args.waiting.now.items c.push.new.self.items c.args.position c.args.element c.in-Ok.ensures.items
