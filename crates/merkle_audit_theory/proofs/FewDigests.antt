-- How many digests prove so many leaves, in both families.
use Rattle.std.proofs.Common.{ℕ, ◌+◌, ◌-◌, ◌^◌, ◌<◌, ◌≤◌, List, length, slice_index, sym, subst}
use Rattle.merkle_base.specs.Heights.{peak_heights, IsLawful}
use Rattle.merkle_forest_theory.specs.Mmr.{mmr_merges}
use Rattle.merkle_forest_theory.specs.Mmb.{mmb_merges}
use Rattle.merkle_forest_theory.specs.FewPeaks.{FewPeaks}
use Rattle.merkle_forest_theory.proofs.RangeLawful.{mmr_lawful}
use Rattle.merkle_forest_theory.proofs.BeltLawful.{mmb_lawful}
use Rattle.merkle_forest_theory.proofs.PeakCounts.{mmr_few, mmb_few}
use Rattle.merkle_audit_theory.specs.FewDigests.{FewPositions}
use Rattle.merkle_claim_theory.proofs.FewPositions.{at_most_122}

-- of any lawful rule with so few peaks
few_positions : {D : Type 0} (rule : List ℕ → List ℕ) (max_leaves max_nodes : ℕ) → IsLawful rule max_leaves max_nodes → FewPeaks rule max_leaves → FewPositions D rule max_leaves
few_positions rule max_leaves max_nodes law few s same most n within locations below =
    let lawful : IsLawful s.rule s.max_leaves max_nodes = subst (λ r. IsLawful r s.max_leaves max_nodes) (sym same) (subst (λ (m : ℕ). IsLawful rule m max_nodes) (sym most) law) in
    let bounded : n ≤ s.max_leaves = subst (λ (m : ℕ). n ≤ m) (sym most) within in
    at_most_122 s max_nodes lawful n bounded
    (λ i. subst (λ r. (i < length (peak_heights r n)) → slice_index (peak_heights r n) i + length (peak_heights r n) ≤ 123) (sym same) (few n i within)) locations below

pub range_positions : {D : Type 0} → FewPositions D mmr_merges (2 ^ 62)
range_positions {D = D} = few_positions {D = D} mmr_merges (2 ^ 62) (2 ^ 63 - 1) mmr_lawful mmr_few

pub belt_positions : {D : Type 0} → FewPositions D mmb_merges (2 ^ 62 + 30)
belt_positions {D = D} = few_positions {D = D} mmb_merges (2 ^ 62 + 30) (2 ^ 63 - 2) mmb_lawful mmb_few
