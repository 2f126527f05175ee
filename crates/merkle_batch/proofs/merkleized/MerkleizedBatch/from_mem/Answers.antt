use Rattle.std.proofs.Common.{◌≡◌, ℕ, [], ◌∷◌, length, sym, ◌∙◌, subst}
use Rattle.merkle_base.proofs.Nodes.{size_inj}
use Rattle.merkle_batch_theory.specs.Records.{records}
use Rattle.merkle_batch_theory.specs.Roots.{root_batch}
use Rattle.merkle_batch_theory.specs.History.{IsHistory}
use Rattle.merkle_batch_theory.proofs.RootBatch.{root_stands}
use Rattle.merkle_batch.proofs.merkleized.MerkleizedBatch.from_mem.Goals as goal

pub returns-clause-of_list : goal.returns-clause-of_list
returns-clause-of_list g c = λ h X agrees.
    let rule = g.F.Family.rule in
    let base = g.B.Base.contents c.args.base.now in
    let leaves : length X ≡ g.B.Base.leaves c.args.base.now = size_inj rule (length X) (g.B.Base.leaves c.args.base.now) (sym agrees.sized ∙ sym c.in_ok-without_changes.ensures.sized) in
    subst (λ b. IsHistory h rule (records b) (X ∷ X ∷ [])) (sym c.in_ok-without_changes.ensures.root)
    (subst (λ (n : ℕ). IsHistory h rule (records (root_batch rule n base)) (X ∷ X ∷ [])) leaves (root_stands h rule base X agrees))
