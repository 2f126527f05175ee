-- How many digests the proof of one leaf has, and how many positions its plan.
use Rattle.std.proofs.Common.{◌≡◌, ℕ, ◌+◌, ◌<◌, ◌≤◌, List, length, map, nat_eq, ap, sym, ◌∙◌, subst, arith, length-append, Option, Some}
use Rattle.std.specs.List.{list_any, range_with_len}
use Rattle.std.proofs.lemmas.Bool.{eqb-true}
use Rattle.std.proofs.lemmas.List.{length-map}
use Rattle.merkle_base.specs.Tree.{Tree, position}
use Rattle.merkle_base.specs.Forest.{size}
use Rattle.merkle_base.specs.Heights.{IsLawful}
use Rattle.merkle_base.specs.Places.{peaks_of}
use Rattle.merkle_base.specs.Scheme.{Scheme}
use Rattle.merkle_forest_theory.specs.FewPeaks.{FewPeaks}
use Rattle.merkle_root_theory.specs.Range.{range_parts, range_siblings}
use Rattle.merkle_root_theory.specs.Collision.{Member}
use Rattle.merkle_root_theory.specs.Reads.{nodes_read, part_read}
use Rattle.merkle_root_theory.proofs.ReadLayouts.{reads_laid_out}
use Rattle.merkle_claim_theory.proofs.FewPositions.{no_longer}
use Rattle.merkle_claim_theory.proofs.ListedDigests.{filtered_member, member_any, distinct_filter, distinct_range}
use Rattle.merkle_claim_theory.proofs.OneLeaf.{nodes_read-few, range_digests-few}
use Rattle.merkle_claim_theory.proofs.PlacesOnce.{member_map}
use Rattle.merkle_scattered.specs.Positions.{positions_among, range_positions}
use Rattle.merkle_proof.specs.RangePlans.{IsBuiltProof}
use Rattle.merkle_proof.specs.declared.proof.Proof.{Proof}

pub built_few : {F D Peaks Heights : Type 0} (s : Scheme D) (rule : List ℕ → List ℕ) (max_leaves max_nodes : ℕ) → s.rule ≡ rule → IsLawful rule max_leaves max_nodes → FewPeaks rule max_leaves
    → (node : ℕ → Option D) (k n i : ℕ) (p : Proof F D Peaks Heights) → n ≤ max_leaves → i < n → IsBuiltProof s node k (record { leaves = n; start = i; end = i + 1 }) p → length p.digests.items ≤ 122
built_few s rule max_leaves max_nodes same law few node k n i p most less built =
    let ts = peaks_of s.rule n in
    let parts = range_parts s.bagging k i (i + 1) ts in
    let siblings = range_siblings i (i + 1) ts in
    let lawful = subst (λ r. IsLawful r max_leaves max_nodes) (sym same) law in
    let bounded = range_digests-few s.bagging s.rule max_leaves max_nodes n i k lawful (subst (λ r. FewPeaks r max_leaves) (sym same) few) most less in
    omega (
      arith,
      bounded,
      ap length (built.digests ∙ reads_laid_out s node n k i (i + 1)),
      length-map p.digests.items (λ d. Some d),
      length-append (map (part_read s.hashing node) parts) (map (λ t. node (position t)) siblings),
      length-map parts (part_read s.hashing node),
      length-map siblings (λ t. node (position t)),
    )

-- nodes have no more positions than there are nodes
among_few : (m : ℕ) (ts : List Tree) → length (positions_among m ts) ≤ length ts
among_few m ts = omega (arith, no_longer (positions_among m ts) (map position ts) (distinct_filter _ (range_with_len 0 m) (distinct_range 0 m)) inside, length-map ts position)
  where
    inside : (p : ℕ) → Member (positions_among m ts) p → Member (map position ts) p
    inside p among =
        let u = filtered_member (λ p. list_any (λ t. nat_eq (position t) p) ts) (range_with_len 0 m) p among in
        let v = member_any (λ t. nat_eq (position t) p) ts u.1 in
        subst (Member (map position ts)) (eqb-true (position v.0) p v.2) (member_map position ts v.0 v.1)

pub leaf_positions_few : (rule : List ℕ → List ℕ) (max_leaves max_nodes n i : ℕ) → IsLawful rule max_leaves max_nodes → FewPeaks rule max_leaves → n ≤ max_leaves → i < n
    → length (range_positions rule n i (i + 1)) ≤ 122
leaf_positions_few rule max_leaves max_nodes n i law few most less =
    omega (arith, among_few (size rule n) (nodes_read rule n i (i + 1)), nodes_read-few rule max_leaves max_nodes n i law few most less)
