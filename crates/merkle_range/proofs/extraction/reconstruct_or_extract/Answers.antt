use Rattle.std.proofs.Common.{◌≡◌, ◌<◌, length, Ok, [], rules, arith, ap, sym, ◌∙◌}
use Rattle.std.proofs.lemmas.List.{length-map, nil_from_length}
use Rattle.std.proofs.lemmas.Result.{IfErr-weaker}
use Rattle.merkle_root_theory.specs.Reconstruction.{reconstructed}
use Rattle.merkle_hasher.specs.LeafDigests.{bytes_of}
use Rattle.merkle_root_theory.proofs.Extraction.{extracted-no_leaves}
use Rattle.merkle_root_theory.proofs.Reconstruction.{root_unless, reconstructed-some, leaves_of_empty}
use Rattle.merkle_range.specs.Input.{range_input}
use Rattle.merkle_hasher.proofs.LeafDigests.{length-leaf_digests}
use Rattle.merkle_range.proofs.extraction.reconstruct_or_extract.Goals as goal

pub returns-then-is_empty-clause-ok : goal.returns-then-is_empty-clause-ok
returns-then-is_empty-clause-ok g c =
    let s = g.H.Hasher.scheme c.args.hasher.now in
    let es = c.args.elements.now in
    let r = range_input s c.args.parts.now.leaves c.args.parts.now.inactive c.args.parts.now.digests.now c.args.start (bytes_of es) in
    let given : length es ≡ 0 = search rules in
    let none : length r.elements ≡ 0 = omega (arith, given, length-leaf_digests s.hashing s.rule c.args.start (bytes_of es), length-map es (λ e. e.now)) in
    let answered : c.reconstruct_empty_root.result ≡ Ok c.in_ok-root.root = search rules in
    let led : reconstructed s r ≡ Ok c.in_ok-root.root =
    ap (λ z. reconstructed s (range_input s c.args.parts.now.leaves c.args.parts.now.inactive c.args.parts.now.digests.now c.args.start (bytes_of z))) (nil_from_length es given)
    ∙ sym c.reconstruct_empty_root.ensures ∙ answered in
    let pairs : c.new.result.items ≡ [] = search rules in
    (led, pairs ∙ sym (extracted-no_leaves s r (leaves_of_empty s r c.in_ok-root.root none led)))

pub returns-clause-err : goal.returns-clause-err
returns-clause-err g c =
    let s = g.H.Hasher.scheme c.args.hasher.now in
    let es = c.args.elements.now in
    let r = range_input s c.args.parts.now.leaves c.args.parts.now.inactive c.args.parts.now.digests.now c.args.start (bytes_of es) in
    let given : 0 < length es = search rules in
    let some : 0 < length r.elements = omega (arith, given, length-leaf_digests s.hashing s.rule c.args.start (bytes_of es), length-map es (λ e. e.now)) in
    IfErr-weaker c.reconstruct_and_extract.result _ _ (λ e w other. reconstructed-some s r some ∙ ap (root_unless s r) (w other)) c.reconstruct_and_extract.ensures.err
