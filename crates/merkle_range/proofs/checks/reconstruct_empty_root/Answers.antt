use Rattle.std.proofs.Common.{◌≡◌, [], length, Ok, rules, refl, sym, ap, ◌∙◌}
use Rattle.merkle_base.specs.Root.{peaks_root}
use Rattle.merkle_root_theory.proofs.Reconstruction.{root_unless, reconstructed-none, empty_refusal-none, empty_root_of}
use Rattle.merkle_range.specs.Input.{range_input}
use Rattle.merkle_range.proofs.checks.reconstruct_empty_root.Goals as goal

pub returns : goal.returns
returns g c =
    let s = g.H.Hasher.scheme c.args.hasher.now in
    let parts = c.args.parts.now in
    let r = range_input s parts.leaves parts.inactive parts.digests.now c.args.start [] in
    let start : c.args.start ≡ 0 = search rules in
    let inactive : parts.inactive ≡ 0 = search rules in
    let leaves : parts.leaves ≡ 0 = search rules in
    let digests : length parts.digests.now ≡ 0 = search rules in
    ap Ok (c.in-Some.ensures.1 ∙ ap (λ n. peaks_root s n 0 0 []) leaves)
    ∙ sym (reconstructed-none s r refl ∙ ap (root_unless s r) (empty_refusal-none s r start inactive leaves digests) ∙ ap Ok (empty_root_of s r leaves inactive))
