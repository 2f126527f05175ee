use Rattle.std.proofs.Common.{◌≡◌, ◌+◌, ◌++◌, length, length-append, arith, ap, ◌∙◌}
use Rattle.std.proofs.lemmas.List.{length-map}
use Rattle.merkle_batch_theory.specs.Unmerkleized.{leaf_total, pending_list, with_leaves}
use Rattle.merkle_batch_theory.proofs.PendingUpdates.{leaves_list}
use Rattle.merkle_hasher.specs.LeafDigests.{bytes_of, leaf_digests}
use Rattle.merkle_hasher.proofs.LeafDigests.{length-leaf_digests}
use Rattle.merkle_batch.proofs.MerkleizeFacts.{of_fields}
use Rattle.merkle_batch.proofs.batch.UnmerkleizedBatch.add_all.Goals as goal

pub returns-clause-added : goal.returns-clause-added
returns-clause-added g c =
    let h = g.H.Hasher.hashing c.args.hasher.now in
    let rule = g.F.Family.rule in
    let es = bytes_of c.args.elements.now in
    let held = c.self.inside.added.items in
    let items : c.push_leaf_digests.new.digests.items ≡ held ++ leaf_digests h rule (leaf_total c.args.self) es =
    c.in_ok-push_leaf_digests.ensures ∙ ap (λ xs. xs ++ leaf_digests h rule c.leaves-first.result es) c.reserve.ensures.items
    ∙ ap (λ l. held ++ leaf_digests h rule l es) c.leaves-first.ensures.count in
    ap (λ xs. of_fields c.self.inside.parent.value c.self.inside.leaves_before xs c.self.inside.updates.entries c.self.inside.forgotten) items
    ∙ ap (λ b. with_leaves b (leaf_digests h rule (leaf_total c.args.self) es)) c.self.view_is

pub returns-clause-edited : goal.returns-clause-edited
returns-clause-edited g c = λ X.
    let rule = g.F.Family.rule in
    let digests = leaf_digests (g.H.Hasher.hashing c.args.hasher.now) rule (leaf_total c.args.self) (bytes_of c.args.elements.now) in
    ap (λ b. pending_list rule b X) (returns-clause-added g c) ∙ leaves_list rule c.args.self digests X

pub invariant_of-self : goal.invariant_of-self
invariant_of-self g c =
    let h = g.H.Hasher.hashing c.args.hasher.now in
    let rule = g.F.Family.rule in
    let es = bytes_of c.args.elements.now in
    let first = c.leaves-first.result in
    let valid = c.self.invariant in
    let count : length c.push_leaf_digests.new.digests.items ≡ length c.reserve.new.self.items + length (leaf_digests h rule first es) =
    ap length c.in_ok-push_leaf_digests.ensures ∙ length-append c.reserve.new.self.items (leaf_digests h rule first es) in
    let fresh = length-leaf_digests h rule first es in
    let many = length-map c.args.elements.now (λ e. e.now) in
    let before = ap length c.reserve.ensures.items in
    let total = ap leaf_total c.self.view_is in
    record {
      bounded = omega (arith, count, fresh, many, before, total, c.if-elements-MAX_LEAVES.false, c.MAX_LEAVES.ensures, c.as_u64.ensures, c.leaves-first.ensures.count, c.leaves-first.ensures.bounded);
      sized = valid.sized;
      leaves = valid.leaves;
      forgotten = valid.forgotten;
    }
