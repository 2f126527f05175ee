-- What is read at the nodes of a proof, laid out, is what is read for its plan's parts and at the path siblings.
use Rattle.std.proofs.Common.{◌≡◌, ℕ, ◌++◌, map, refl, ap₂, Option}
use Rattle.merkle_base.specs.Places.{peaks_of}
use Rattle.merkle_base.specs.Scheme.{Scheme}
use Rattle.merkle_root_theory.specs.Range.{range_parts, range_siblings, range_laid_out}
use Rattle.merkle_root_theory.specs.Reads.{both_read, part_read}
use Rattle.merkle_root_theory.proofs.BuiltLayouts.{StandFor, at_node}
use Rattle.merkle_root_theory.proofs.RangeDigests.{parts_laid_out}

module _ {D : Type 0} (s : Scheme D) (node : ℕ → Option D) (n k a b : ℕ) where
  reads_stand : StandFor (both_read s.hashing.fold) (λ r. r) (at_node node) (part_read s.hashing node)
  reads_stand = record { alone = λ t. refl; prefix = λ i l t x y. ap₂ (both_read s.hashing.fold); suffix = λ i t r x y. ap₂ (both_read s.hashing.fold) }

  pub reads_laid_out : range_laid_out s (both_read s.hashing.fold) (at_node node) n k a b
      ≡ map (part_read s.hashing node) (range_parts s.bagging k a b (peaks_of s.rule n)) ++ map (at_node node) (range_siblings a b (peaks_of s.rule n))
  reads_laid_out = parts_laid_out s (both_read s.hashing.fold) (at_node node) (part_read s.hashing node) reads_stand n k a b
