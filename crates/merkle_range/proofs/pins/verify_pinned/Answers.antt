use Rattle.std.proofs.Common.{sym, ◌∙◌}
use Rattle.std.proofs.lemmas.Bool.{false≢true}
use Rattle.std.proofs.lemmas.List.{length-map}
use Rattle.merkle_hasher.specs.LeafDigests.{bytes_of, leaf_digests}
use Rattle.merkle_hasher.proofs.LeafDigests.{length-leaf_digests}
use Rattle.merkle_root_theory.proofs.Reconstruction.{leads_is_accepted}
use Rattle.merkle_range.specs.Input.{input_of_parts}
use Rattle.merkle_range.proofs.PinChecks.{range_accepted}
use Rattle.merkle_range.proofs.pins.verify_pinned.Goals as goal

pub returns-then-not-branch : goal.returns-then-not-branch
returns-then-not-branch g c =
    let s = g.H.Hasher.scheme c.args.hasher.now in
    let r = input_of_parts s c.args.parts.now c.args.start (bytes_of c.args.elements.now) in
    let root = c.args.root.now in
    ((λ x. absurd (false≢true x)), (λ v. sym c.if-not-branch.true ∙ c.in_ok-verify_range.ensures.1 ((leads_is_accepted s r root).1 (range_accepted s r c.args.pinned_nodes.now root v))))

pub is_rebuilt_from_pins-requires : goal.is_rebuilt_from_pins-requires
is_rebuilt_from_pins-requires g c =
    let s = g.H.Hasher.scheme c.args.hasher.now in
    let es = bytes_of c.args.elements.now in
    record {
      accepted = (
        leaf_digests s.hashing s.rule c.args.start es,
        c.args.root.now,
        length-leaf_digests s.hashing s.rule c.args.start es ∙ length-map c.args.elements.now (λ e. e.now),
        c.in_ok-verify_range.ensures.0 c.if-not-branch.false,
      );
    }

pub returns : goal.returns
returns g c =
    let s = g.H.Hasher.scheme c.args.hasher.now in
    let es = bytes_of c.args.elements.now in
    c.is_rebuilt_from_pins.ensures (leaf_digests s.hashing s.rule c.args.start es) c.args.root.now
    (length-leaf_digests s.hashing s.rule c.args.start es ∙ length-map c.args.elements.now (λ e. e.now)) (c.in_ok-verify_range.ensures.0 c.if-not-branch.false)
