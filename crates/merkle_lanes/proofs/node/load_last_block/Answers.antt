use Rattle.std.proofs.Common.{List, [], ◌∷◌, ℕ, sym, ap, ◌∙◌, slice_index}
use Rattle.merkle_lanes.specs.Lanes.{lane}
use Rattle.merkle_lanes.proofs.LaneLemmas.{written_all}
use Rattle.merkle_lanes.proofs.TwoBlocks.{last_block_words}
use Rattle.merkle_lanes.proofs.node.load_last_block.Goals as goal

pub returns : goal.returns
returns g c j h = λ m long at at' k l.
    let z = c.splat-zero.result in
    let zeros : List (List ℕ) = z ∷ z ∷ z ∷ z ∷ z ∷ z ∷ z ∷ z ∷ z ∷ z ∷ z ∷ z ∷ c.splat-2.result ∷ [] in
    ap (λ (b : List (List ℕ)). slice_index (lane j b) k) (written_all c.args.block.now (c.words.result ∷ c.words-2.result ∷ c.splat.result ∷ zeros) c.told-block)
    ∙ last_block_words m long _ _ _ _ _
    (c.words.ensures j h ∙ sym at) (c.words-2.ensures j h ∙ sym at') (c.splat.ensures j h) (c.splat-zero.ensures j h) (c.splat-2.ensures j h) k l
