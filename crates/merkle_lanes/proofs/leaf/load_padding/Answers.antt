use Rattle.std.proofs.Common.{List, [], ◌∷◌, ℕ, ◌∙◌, arith}
use Rattle.merkle_lanes.proofs.LaneLemmas.{written_at, written_below}
use Rattle.merkle_lanes.proofs.OneBlock.{padding_words}
use Rattle.merkle_lanes.proofs.leaf.load_padding.Goals as goal

pub returns : goal.returns
returns g c =
    let z = c.splat-zero.result in
    let constants : List (List ℕ) = c.splat.result ∷ z ∷ z ∷ z ∷ z ∷ c.splat-2.result ∷ [] in
    record {
      kept = λ j h k low. written_below j c.args.block.now 10 constants k low;
      loaded = λ j h k low. written_at j c.args.block.now 10 constants k low (omega (arith, c.told-block))
          ∙ padding_words _ _ _ (c.splat.ensures j h) (c.splat-zero.ensures j h) (c.splat-2.ensures j h) k low;
    }
