use Rattle.std.proofs.Common.{◌≡◌, ◌*◌, ◌^◌, suc, map, arith, ap, sym, ◌∙◌, pow-suc}
use Rattle.merkle_base.proofs.Nodes.{size_le}
use Rattle.merkle_base.specs.Forest.{size}
use Rattle.merkle_base.specs.Places.{placed, peaks_of}
use Rattle.merkle_forest_theory.specs.Mmb.{mmb_merges}
use Rattle.merkle_forest_theory.proofs.BeltLawful.{mmb_lawful}
use Rattle.merkle_topology.proofs.LeafCounts.{size_only}
use Rattle.merkle_topology.proofs.BeltPeaks.{newest_all}
use Rattle.merkle_topology.proofs.mmb.PeakIterator.new.Goals as goal

pub leaf_count_within-leaves-requires : goal.leaf_count_within-leaves-requires
leaf_count_within-leaves-requires c = let k = c.requires in omega (arith, c.as_u64.ensures, size_le mmb_merges k.0 4611686018427387934 k.1, k.2, mmb_lawful.size_at_limit)

pub returns-clause-leaves : goal.returns-clause-leaves
returns-clause-leaves c =
    let k = c.requires in
    let f = c.leaf_count_within-leaves.ensures in
    let same = size_only mmb_merges c.leaf_count_within-leaves.result k.0 c.as_u64.result f.within f.greatest (k.2 ∙ sym c.as_u64.ensures) in
    ap (size mmb_merges) (sym same) ∙ k.2

pub returns-clause-peaks : goal.returns-clause-peaks
returns-clause-peaks c = λ n l e.
    let f = c.leaf_count_within-leaves.ensures in
    let same = size_only mmb_merges c.leaf_count_within-leaves.result n c.as_u64.result f.within f.greatest (e ∙ sym c.as_u64.ensures) in
    let w : 2 ^ suc c.ilog2.result ≡ 2 ^ c.ilog2.result * 2 = pow-suc 2 c.ilog2.result in
    newest_all c.ilog2.result c.leaf_count_within-leaves.result c.ilog2.ensures.power_le (omega (arith, w, c.ilog2.ensures.next_power_gt)) ∙ ap (λ m. map placed (peaks_of mmb_merges m)) (sym same)
