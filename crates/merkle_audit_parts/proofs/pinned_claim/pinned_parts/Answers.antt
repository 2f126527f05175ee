use Rattle.std.proofs.Common.{◌+◌, ◌++◌, ap, ap₂, ◌∙◌, take, drop, map}
use Rattle.std.proofs.lemmas.List.{take-map}
use Rattle.merkle_hasher.specs.Subtrees.{subtree_of}
use Rattle.merkle_root_theory.proofs.Extraction.{all_take}
use Rattle.merkle_pins_theory.specs.PinnedNodes.{pinned_value}
use Rattle.merkle_audit_parts.specs.PinnedClaimed.{digest_given, pin_in}
use Rattle.merkle_audit_parts.proofs.pinned_claim.pinned_parts.Goals as goal

pub push_pinned-requires : goal.push_pinned-requires
push_pinned-requires g c =
    let n = c.requires.nodes in
    let m = (c.args.groups.now.folded + c.args.groups.now.before) + c.args.groups.now.overlapping in
    record { nodes = (take m n.0, c.split_at-3.ensures.front ∙ ap (take m) n.1 ∙ take-map (subtree_of {F = g.row.F.Denot}) m n.0, all_take _ m n.0 n.2) }

pub returns : goal.returns
returns g c = λ ts same nodes.
    let groups = c.args.groups.now in
    let m = (groups.folded + groups.before) + groups.overlapping in
    let f = pinned_value (g.H.Hasher.hashing c.args.hasher.now) (pin_in c.args.nodes.now) c.args.nodes.now.start (digest_given g.H.Digest.Digest.EMPTY c.args.nodes.now) in
    let first = c.split_at-3.ensures.front ∙ ap (take m) same ∙ take-map (subtree_of {F = g.row.F.Denot}) m ts in
    let pushed = c.in_ok-push_pinned.ensures (take m ts) first (all_take _ m ts nodes) ∙ ap (λ ds. ds ++ map f (take m ts)) c.new-digests.ensures.items in
    let last = c.split_at-2.ensures.front ∙ ap₂ (λ k ds. take (groups.after + k) ds) c.min-2.ensures (c.split_at.ensures.back ∙ ap (λ k. drop (k + groups.before) c.args.given.now) c.min.ensures) in
    c.in_ok-extend_from_slice.ensures.items ∙ ap₂ (λ ds es. ds ++ es) pushed last
