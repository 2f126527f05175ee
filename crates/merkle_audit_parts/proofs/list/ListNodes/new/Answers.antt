use Rattle.std.proofs.Common.{arith, [], ◌∷◌, ap, subst, ◌∙◌}
use Rattle.merkle_batch_theory.specs.History.{IsHistory}
use Rattle.merkle_batch_theory.specs.MemModel.{MemModel, contents}
use Rattle.merkle_batch_theory.specs.Records.{records}
use Rattle.merkle_batch_theory.specs.Roots.{root_batch}
use Rattle.merkle_batch_theory.specs.Unmerkleized.{UnmerkleizedModel, forked, with_leaves, leaf_total}
use Rattle.merkle_audit_parts.proofs.Lists.{added_history}
use Rattle.merkle_audit_parts.proofs.list.ListNodes.new.Goals as goal

pub returns-in-Ok-merkleize-clause-of_list : goal.returns-in-Ok-merkleize-clause-of_list
returns-in-Ok-merkleize-clause-of_list g c =
    let rule = g.F.Family.rule in
    let h = g.H.Hasher.hashing c.args.hasher.now in
    let m = c.new-empty.result in
    let X = c.args.list.now in
    let agrees = c.new-empty.ensures.agrees h in
    let none = ap (λ (z : MemModel _). z.leaves) c.new-empty.ensures.empty in
    let first = c.in-Ok.ensures.forked ∙ ap (λ n. forked (root_batch rule n (contents m))) none in
    let q_is = c.in-Ok-add_leaf_digests.ensures.added ∙ ap (λ p. with_leaves p X) first in
    rw (g.met.H.Hasher.scheme_is c.args.hasher.now) (record {
      leaves = omega (arith, c.in-Ok-merkleize.ensures.counted.0, ap leaf_total q_is);
      history = added_history h rule (contents m) X c.in-Ok-merkleize.nodes.value c.in-Ok-add_leaf_digests.batch q_is agrees
          (subst (λ (p : UnmerkleizedModel _). IsHistory h rule (records p.parent) ([] ∷ [] ∷ [])) first (c.in-Ok.ensures.of_list h [] agrees)) c.in-Ok-merkleize.ensures.history;
    })
