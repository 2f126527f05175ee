use Rattle.std.proofs.Common.{ℕ, ◌+◌, ◌-◌, List, slice_index, take, drop, arith, ap, ◌∙◌}
use Rattle.std.proofs.lemmas.Simd.{get_or-chunk}
use Rattle.sha2.specs.Sha256.{add32, round_constants}
use Rattle.merkle_lanes.proofs.single.with_constants.Goals as goal

pub returns : goal.returns
returns c = λ j h.
    let p : ℕ = c.args.t in
    let part : List ℕ = take (p + 4 - p) (drop p round_constants) in
    c.add.ensures j h ∙ ap (λ (k : ℕ). add32 k (slice_index c.args.words j))
    (get_or-chunk 0 4 part j 0 h ∙ ap (λ (i : ℕ). slice_index part i) (omega arith) ∙ get_or-chunk p (p + 4 - p) round_constants j 0 (omega arith))
