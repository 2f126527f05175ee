use Rattle.std.proofs.Common.{◌≡◌, ◌+◌, ◌*◌, [], ◌∷◌, slice_index, ap, ◌∙◌, arith}
use Rattle.sha2.specs.Sha256.{word_at}
use Rattle.merkle_lanes.proofs.LaneLemmas.{below_four}
use Rattle.merkle_lanes.proofs.single.load_four.Goals as goal

pub returns : goal.returns
returns c =
    let s = c.args.start in
    let place : s ≡ s + 4 * 0 = omega arith in
    below_four (λ j. slice_index (c.load.result ∷ c.load-2.result ∷ c.load-3.result ∷ c.load-4.result ∷ []) j ≡ word_at c.args.bytes.now (s + 4 * j))
    (c.load.ensures ∙ ap (word_at c.args.bytes.now) place) c.load-2.ensures c.load-3.ensures c.load-4.ensures
