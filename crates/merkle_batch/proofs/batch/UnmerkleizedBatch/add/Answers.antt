use Rattle.std.proofs.Common.{IfOk, ◌≡◌, List, [], ◌∷◌, ◌++◌, ap, subst, ◌∙◌}
use Rattle.merkle_base.specs.Forest.{size}
use Rattle.merkle_batch_theory.specs.Unmerkleized.{pending_list, with_leaves}
use Rattle.merkle_batch.proofs.batch.UnmerkleizedBatch.add.Goals as goal

pub returns-clause-added : goal.returns-clause-added
returns-clause-added g c =
    let at = c.location_to_position-position.ensures ∙ ap (size g.F.Family.rule) c.leaves.ensures.count in
    let digest = c.leaf_digest-digest.ensures ∙ ap (λ p. (g.H.Hasher.hashing c.args.hasher.now).leaf p c.args.element.now) at in
    subst (λ d. IfOk c.add_leaf_digest.result (λ b. b ≡ with_leaves c.args.self (d ∷ []))) digest c.add_leaf_digest.ensures.added

pub returns-clause-edited : goal.returns-clause-edited
returns-clause-edited g c =
    let rule = g.F.Family.rule in
    let at = c.location_to_position-position.ensures ∙ ap (size rule) c.leaves.ensures.count in
    let digest = c.leaf_digest-digest.ensures ∙ ap (λ p. (g.H.Hasher.hashing c.args.hasher.now).leaf p c.args.element.now) at in
    subst (λ d. IfOk c.add_leaf_digest.result (λ b. (X : List g.row.D.Denot) → pending_list rule b X ≡ pending_list rule c.args.self X ++ d ∷ [])) digest c.add_leaf_digest.ensures.edited
