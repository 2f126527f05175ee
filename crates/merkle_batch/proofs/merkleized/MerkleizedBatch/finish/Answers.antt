use Rattle.std.proofs.Common.{◌≡◌, length, arith, ap}
use Rattle.merkle_base.proofs.Nodes.{size_le}
use Rattle.merkle_batch.proofs.merkleized.MerkleizedBatch.finish.Goals as goal

pub invariant_of-own : goal.invariant_of-own
invariant_of-own g c =
    let law = g.met.F.Family.lawful in
    let before : c.draft.inside.size_before ≡ c.args.draft.before = ap (λ d. d.before) c.draft.view_is in
    let appended : length c.draft.inside.appended.items ≡ length c.args.draft.appended = ap (λ d. length d.appended) c.draft.view_is in
    omega (arith, before, appended, c.requires.counted.sized, size_le g.F.Family.rule c.args.leaves g.F.Family.MAX_LEAVES c.requires.counted.bounded, law.size_at_limit, law.limit_fits)
