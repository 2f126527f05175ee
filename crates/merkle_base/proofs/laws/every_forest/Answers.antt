use Rattle.merkle_base.specs.Forest.{forest}
use Rattle.merkle_base.specs.Laws.{IsGrown}
use Rattle.merkle_base.proofs.Growth.{forest_grown}
use Rattle.merkle_base.proofs.Nodes.{node_built, forest_prefix, size_lt, covered_locations, leaf_here, peak_of, peak_unique}
use Rattle.merkle_base.proofs.Births.{size_peaks}
use Rattle.merkle_base.proofs.Balance.{heights_forest}
use Rattle.merkle_base.proofs.laws.every_forest.Goals as goal

pub returns : goal.returns
returns c = record {
  grown = forest_grown;
  built = node_built;
  prefix = forest_prefix;
  sizes = size_lt;
  size = size_peaks;
  covered = λ rule n. covered_locations (forest rule n).nodes n (forest rule n).peaks (forest_grown rule n).covers (forest_grown rule n).built;
  leaves = leaf_here;
  heights = heights_forest;
  one_peak = λ rule n p t e.
      (let g : IsGrown n (forest rule n) = forest_grown rule n in
      let k = peak_of t (forest rule n).peaks (g.under p t e) in
      (k.0, k.1, k.2, k.3, λ j b d u. peak_unique (forest rule n).nodes n t (forest rule n).peaks g.covers g.built k.0 j k.1 b k.2 d k.3 u));
}
