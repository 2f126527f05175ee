use Rattle.merkle_base.specs.Forest.{forest}
use Rattle.merkle_batch_theory.specs.Needed.{is_computed}
use Rattle.merkle_batch_theory.proofs.Counts.{listed, by_height}
use Rattle.merkle_batch_theory.proofs.laws.counting.Goals as goal

pub returns : goal.returns
returns g c = record { listed = λ rule m n. listed (is_computed rule m n) rule; levels = λ rule m n e k. by_height (is_computed rule m n) k (forest rule e).nodes }
