use Rattle.std.proofs.Common.{ap, sym, ◌∙◌, arith}
use Rattle.merkle_base.proofs.Nodes.{size_le}
use Rattle.merkle_forest_theory.specs.Mmr.{mmr_merges}
use Rattle.merkle_topology.specs.Perfect.{trees_from}
use Rattle.merkle_forest_theory.proofs.RangeLawful.{mmr_lawful}
use Rattle.merkle_topology.proofs.Perfect.{trees_forest}
use Rattle.merkle_topology.proofs.mmr.PeakIterator.new.Goals as goal

pub invariant_of-result : goal.invariant_of-result
invariant_of-result c = let k = c.requires in (omega (arith, c.as_u64.ensures, size_le mmr_merges k.0 4611686018427387904 k.1, k.2, mmr_lawful.size_at_limit), tt)

pub returns : goal.returns
returns c = λ n l e. ap (trees_from 0) (c.as_u64.ensures ∙ sym e) ∙ trees_forest n
