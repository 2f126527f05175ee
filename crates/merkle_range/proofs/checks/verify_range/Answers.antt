use Rattle.merkle_hasher.specs.LeafDigests.{bytes_of}
use Rattle.merkle_range.specs.Input.{input_of_parts}
use Rattle.merkle_range.proofs.Answered.{compared}
use Rattle.merkle_range.proofs.checks.verify_range.Goals as goal

pub returns : goal.returns
returns g c =
    let s = g.H.Hasher.scheme c.args.hasher.now in
    compared s (input_of_parts s c.args.parts.now c.args.start (bytes_of c.args.elements.now)) c.args.root.now c.reconstruct_root.result
    c.is_root.result c.reconstruct_root.ensures.ok c.reconstruct_root.ensures.err c.is_root.ensures.exact c.is_root.ensures.memory
