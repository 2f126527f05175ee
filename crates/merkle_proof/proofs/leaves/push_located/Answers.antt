use Rattle.std.proofs.Common.{◌≡◌, ◌<◌, length, get_or, rules}
use Rattle.merkle_proof.proofs.LocatedDigests.{zipped_push}
use Rattle.merkle_proof.proofs.leaves.push_located.Goals as goal

pub loop-index-preserved : goal.loop-index-preserved
loop-index-preserved g c =
    let es = c.args.elements.now in
    let ds = c.args.digests.now in
    let i = c.loop-index.index in
    let e = c.index-elements-index.result in
    let d = c.index-digests-index.result in
    let below : i < length es = search rules in
    let e_is : e ≡ get_or es i e = search rules in
    let d_is : d ≡ get_or ds i d = search rules in
    zipped_push es ds i e d c.args.located.now.items c.loop-index.located.items c.push.new.self.items c.requires below e_is d_is c.loop-index.invariant c.in_ok-push.ensures.items
