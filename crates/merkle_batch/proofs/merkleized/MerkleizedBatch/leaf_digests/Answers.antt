use Rattle.std.proofs.Common.{◌≡◌, ◌∷◌, length, drop, ap, ap₂, sym, subst, ◌∙◌, inl, inr}
use Rattle.merkle_batch.specs.HeldLeaves.{held_leaves, AreLeavesHeld}
use Rattle.merkle_batch_theory.specs.BatchValid.{IsBatchValid}
use Rattle.merkle_batch_theory.specs.History.{last_list}
use Rattle.merkle_batch_theory.specs.Read.{newest}
use Rattle.merkle_batch_theory.specs.Records.{MerkleizedModel, records}
use Rattle.merkle_batch_theory.proofs.ShownLists.{chain_shows}
use Rattle.merkle_batch.proofs.AppendedReads.{appended_held, begins_at, ends_at, none_held}
use Rattle.merkle_batch.proofs.merkleized.MerkleizedBatch.leaf_digests.Goals as goal

pub held_leaf_digests-requires : goal.held_leaf_digests-requires
held_leaf_digests-requires g c =
    let rule = g.F.Family.rule in
    let max = g.F.Family.MAX_LEAVES in
    let b = c.args.self.now in
    let n = c.leaves_before.result in
    let valid : IsBatchValid rule max b = subst (IsBatchValid rule max) c.self.view_is c.self.invariant in
    let held : AreLeavesHeld rule max (newest (records b)) n b.leaves = elim c.leaves_before.ensures.known [
      | inl at ↦ appended_held rule max b valid n at
      | inr is ↦ subst (λ m. AreLeavesHeld rule max (newest (records b)) m b.leaves) (sym is) (none_held rule max b valid)
    ] in
    subst (λ m. AreLeavesHeld rule max (newest (records b)) n m) (sym (ap (λ (m : MerkleizedModel _). m.leaves) c.self.view_is)) held

pub returns-clause-listed : goal.returns-clause-listed
returns-clause-listed g c = λ n at.
    c.held_leaf_digests.ensures.listed
    ∙ ap₂ (λ a b. held_leaves g.F.Family.rule (newest (records c.args.self.now)) a b) (c.leaves_before.ensures.sized n at) (ap (λ (m : MerkleizedModel _). m.leaves) c.self.view_is)

pub returns-clause-of_lists : goal.returns-clause-of_lists
returns-clause-of_lists g c = λ h X ls history.
    let rule = g.F.Family.rule in
    let max = g.F.Family.MAX_LEAVES in
    let b = c.args.self.now in
    let last = last_list (X ∷ ls) in
    let valid : IsBatchValid rule max b = subst (IsBatchValid rule max) c.self.view_is c.self.invariant in
    let end : c.self.inside.leaves ≡ length last = ap (λ (m : MerkleizedModel _). m.leaves) c.self.view_is ∙ ends_at h rule max b valid X ls history in
    c.held_leaf_digests.ensures.shown h last (chain_shows h rule b (X ∷ ls) history) end
    ∙ ap (λ n. drop n last) (c.leaves_before.ensures.sized (length X) (begins_at h rule max b valid X ls history))
