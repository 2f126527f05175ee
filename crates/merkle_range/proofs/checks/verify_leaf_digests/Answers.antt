use Rattle.merkle_range.specs.Input.{digest_input_of_parts}
use Rattle.merkle_range.proofs.Answered.{compared}
use Rattle.merkle_range.proofs.checks.verify_leaf_digests.Goals as goal

pub returns : goal.returns
returns g c =
    let s = g.H.Hasher.scheme c.args.hasher.now in
    compared s (digest_input_of_parts c.args.parts.now c.args.start c.args.leaves.now) c.args.root.now c.root_of_leaf_digests.result c.is_root.result
    c.root_of_leaf_digests.ensures.ok c.root_of_leaf_digests.ensures.err c.is_root.ensures.exact c.is_root.ensures.memory
