use Rattle.std.proofs.Common.{arith, ◌∙◌}
use Rattle.merkle_hasher.proofs.Spans.{is_small, end_fits, end_is}
use Rattle.merkle_hasher.proofs.subtree.Subtree.leaf_end.Goals as goal

pub overflow_shl-self : goal.overflow_shl-self
overflow_shl-self g c = omega (arith, is_small _ _ _ g.met.F.Family.lawful _ _ _ c.requires.0 c.requires.1)

pub add-requires : goal.add-requires
add-requires g c = end_fits _ _ _ g.met.F.Family.lawful _ _ _ c.requires.0 c.requires.1

pub returns : goal.returns
returns g c = λ t w. c.add.ensures ∙ end_is _ _ _ g.met.F.Family.lawful _ _ _ t w
