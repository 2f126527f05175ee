use Rattle.std.proofs.Common.{refl, sym, ◌∙◌}
use Rattle.std.proofs.lemmas.Bool.{false≢true}
use Rattle.merkle_root_theory.proofs.Reconstruction.{leads_is_accepted}
use Rattle.merkle_range.specs.Input.{digest_input_of_parts}
use Rattle.merkle_range.proofs.PinChecks.{range_accepted}
use Rattle.merkle_range.proofs.pins.verify_pinned_leaf_digests.Goals as goal

pub returns-then-not-branch : goal.returns-then-not-branch
returns-then-not-branch g c =
    let s = g.H.Hasher.scheme c.args.hasher.now in
    let r = digest_input_of_parts c.args.parts.now c.args.start c.args.leaves.now in
    let root = c.args.root.now in
    ((λ x. absurd (false≢true x)), (λ v. sym c.if-not-branch.true ∙ c.in_ok-verify_leaf_digests.ensures.1 ((leads_is_accepted s r root).1 (range_accepted s r c.args.pinned_nodes.now root v))))

pub is_rebuilt_from_pins-requires : goal.is_rebuilt_from_pins-requires
is_rebuilt_from_pins-requires g c = record { accepted = (c.args.leaves.now, c.args.root.now, refl, c.in_ok-verify_leaf_digests.ensures.0 c.if-not-branch.false) }

pub returns : goal.returns
returns g c = c.is_rebuilt_from_pins.ensures c.args.leaves.now c.args.root.now refl (c.in_ok-verify_leaf_digests.ensures.0 c.if-not-branch.false)
