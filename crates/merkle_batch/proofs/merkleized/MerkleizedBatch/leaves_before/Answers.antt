use Rattle.std.proofs.Common.{arith, ap, sym, subst, ◌∙◌, inl, inr}
use Rattle.merkle_base.proofs.Nodes.{size_inj}
use Rattle.merkle_batch_theory.specs.BatchValid.{IsBatchValid}
use Rattle.merkle_batch_theory.specs.Records.{MerkleizedModel, after}
use Rattle.merkle_batch_theory.proofs.HeldNodes.{counted_nodes}
use Rattle.merkle_batch.proofs.AppendedReads.{oldest_le}
use Rattle.merkle_batch.proofs.merkleized.MerkleizedBatch.leaves_before.Goals as goal

pub position_to_location-requires : goal.position_to_location-requires
position_to_location-requires g c =
    let F = g.F.Family in
    let b = c.args.self.now in
    let valid : IsBatchValid F.rule F.MAX_LEAVES b = subst (IsBatchValid F.rule F.MAX_LEAVES) c.self.view_is c.self.invariant in
    omega (
      arith,
      c.size_before.ensures,
      oldest_le F.rule F.MAX_LEAVES b valid,
      counted_nodes F.rule F.MAX_LEAVES F.MAX_NODES b.leaves (after b.own) g.met.F.Family.lawful valid.counted,
    )

pub returns-in-Some-clause-known : goal.returns-in-Some-clause-known
returns-in-Some-clause-known g c = inl (c.in-Some.ensures.found.1 ∙ c.size_before.ensures)

pub returns-in-Some-clause-sized : goal.returns-in-Some-clause-sized
returns-in-Some-clause-sized g c = λ n at. size_inj g.F.Family.rule c.in-Some.before n (c.in-Some.ensures.found.1 ∙ c.size_before.ensures ∙ sym at)

pub returns-in-None-clause-known : goal.returns-in-None-clause-known
returns-in-None-clause-known g c = inr (ap (λ (m : MerkleizedModel _). m.leaves) c.self.view_is)

pub returns-in-None-clause-sized : goal.returns-in-None-clause-sized
returns-in-None-clause-sized g c = λ n at. absurd (c.in-None.ensures.none n (at ∙ sym c.size_before.ensures))
