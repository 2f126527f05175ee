use Rattle.std.proofs.Common.{◌≡◌, length, Ok, [], rules, ap, sym, ◌∙◌}
use Rattle.std.proofs.lemmas.List.{nil_from_length}
use Rattle.merkle_root_theory.specs.Reconstruction.{reconstructed}
use Rattle.merkle_root_theory.proofs.Extraction.{extracted-no_leaves}
use Rattle.merkle_root_theory.proofs.Reconstruction.{leaves_of_empty}
use Rattle.merkle_range.specs.Input.{digest_input_of_parts}
use Rattle.merkle_range.proofs.extraction.extract_leaf_digests.Goals as goal

pub returns-then-is_empty-clause-ok : goal.returns-then-is_empty-clause-ok
returns-then-is_empty-clause-ok g c =
    let s = g.H.Hasher.scheme c.args.hasher.now in
    let leaves = c.args.leaves.now in
    let r = digest_input_of_parts c.args.parts.now c.args.start leaves in
    let none : length leaves ≡ 0 = search rules in
    let answered : c.reconstruct_empty_root.result ≡ Ok c.in_ok-root.root = search rules in
    let led : reconstructed s r ≡ Ok c.in_ok-root.root =
    ap (λ z. reconstructed s (digest_input_of_parts c.args.parts.now c.args.start z)) (nil_from_length leaves none)
    ∙ sym c.reconstruct_empty_root.ensures ∙ answered in
    let pairs : c.new-pairs.result.items ≡ [] = c.new-pairs.ensures.items in
    (led, pairs ∙ sym (extracted-no_leaves s r (leaves_of_empty s r c.in_ok-root.root none led)))
