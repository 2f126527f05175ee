use Rattle.std.proofs.Common.{[], ◌∷◌, ap, ◌∙◌}
use Rattle.merkle_batch_theory.specs.Unmerkleized.{pending_list, with_leaves}
use Rattle.merkle_batch_theory.proofs.PendingUpdates.{leaves_list}
use Rattle.merkle_batch.proofs.MerkleizeFacts.{of_fields}
use Rattle.merkle_batch.proofs.batch.UnmerkleizedBatch.add_leaf_digest.Goals as goal

pub returns-clause-added : goal.returns-clause-added
returns-clause-added g c =
    ap (λ xs. of_fields c.self.inside.parent.value c.self.inside.leaves_before xs c.self.inside.updates.entries c.self.inside.forgotten) c.in_ok-push.ensures.items
    ∙ ap (λ b. with_leaves b (c.args.digest ∷ [])) c.self.view_is

pub returns-clause-edited : goal.returns-clause-edited
returns-clause-edited g c = λ X.
    let rule = g.F.Family.rule in
    ap (λ b. pending_list rule b X) (returns-clause-added g c) ∙ leaves_list rule c.args.self (c.args.digest ∷ []) X
