use Rattle.std.proofs.Common.{◌≡◌, ℕ, ◌+◌, length, arith, sym, ap, ◌∙◌}
use Rattle.std.proofs.lemmas.List.{length-map}
use Rattle.std.specs.Prelude.{min}
use Rattle.merkle_batch_theory.specs.Unmerkleized.{without_ancestors}
use Rattle.merkle_batch.proofs.MerkleizeFacts.{of_fields}
use Rattle.merkle_batch.proofs.batch.UnmerkleizedBatch.forget_ancestors.Goals as goal

pub invariant_of-self : goal.invariant_of-self
invariant_of-self g c =
    let all : length c.behind-self.inside.ancestors.items ≡ length c.self.inside.parent.value.ancestors =
    sym (length-map c.behind-self.inside.ancestors.items _) ∙ ap (λ v. length v.ancestors) (c.behind-self.view_is ∙ c.deref.ensures) in
    record { bounded = c.self.invariant.bounded; sized = c.self.invariant.sized; leaves = c.self.invariant.leaves; forgotten = omega (arith, all, c.min.ensures, c.len-kept.ensures) }

pub returns : goal.returns
returns g c =
    let i = c.self.inside in
    let all : length c.behind-self.inside.ancestors.items ≡ length i.parent.value.ancestors = sym (length-map c.behind-self.inside.ancestors.items _)
    ∙ ap (λ v. length v.ancestors) (c.behind-self.view_is ∙ c.deref.ensures) in
    let same : c.min.result ≡ min (i.forgotten + c.args.count) (length i.parent.value.ancestors) =
    omega (arith, all, c.min.ensures, c.saturating_add.ensures, c.len-kept.ensures, c.behind-self.inside.ancestors.ok) in
    ap (λ (n : ℕ). of_fields i.parent.value i.leaves_before i.added.items i.updates.entries n) same ∙ ap (λ s. without_ancestors s c.args.count) c.self.view_is
