use Rattle.std.proofs.Common.{◌≡◌, List, ℕ, ◌*◌, ◌<◌, ◌∙◌, take, drop, slice_index, refl, sym, arith}
use Rattle.sha2.specs.Sha256.{padded_message, word_at}
use Rattle.merkle_lanes.proofs.LaneLemmas.{below_four}
use Rattle.merkle_lanes.proofs.TwoBlocks.{last_block_word, last_block_words, last_words}
use Rattle.merkle_lanes.proofs.single.compress_last_block.Goals as goal

pub returns : goal.returns
returns c = λ m long at at'.
    let block : List ℕ = take 64 (drop 64 (padded_message m)) in
    let x : ℕ = c.load.result in
    let y : ℕ = c.load-2.result in
    let word : (k : ℕ) → k < 16 → slice_index (last_words x y 0x80000000 0 576) k ≡ word_at block (4 * k) = λ k h.
    last_block_words m long x y _ _ _ (c.load.ensures ∙ sym at) (c.load-2.ensures ∙ sym at') refl refl refl k h ∙ last_block_word m k h in
    let zero = c.splat.ensures in
    let zero' = c.splat-2.ensures in
    c.compress_words.ensures block
    (below_four _ (word 0 (omega arith)) (word 1 (omega arith)) (word 2 (omega arith)) (word 3 (omega arith)))
    (below_four _ (zero 0 (omega arith) ∙ word 4 (omega arith)) (zero 1 (omega arith) ∙ word 5 (omega arith))
    (zero 2 (omega arith) ∙ word 6 (omega arith)) (zero 3 (omega arith) ∙ word 7 (omega arith)))
    (below_four _ (zero' 0 (omega arith) ∙ word 8 (omega arith)) (zero' 1 (omega arith) ∙ word 9 (omega arith))
    (zero' 2 (omega arith) ∙ word 10 (omega arith)) (zero' 3 (omega arith) ∙ word 11 (omega arith)))
    (below_four _ (word 12 (omega arith)) (word 13 (omega arith)) (word 14 (omega arith)) (word 15 (omega arith)))
