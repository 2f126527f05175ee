use Rattle.std.proofs.Common.{◌≡◌, List, ◌∙◌, ℕ, ◌*◌, ◌+◌, ◌≤◌, arith, take, drop, ap, sym}
use Rattle.sha2.specs.Sha256.{compress, hash_after, initial_hash_256, word_at}
use Rattle.sha2.proofs.Absorbing256.{hash_after_next}
use Rattle.merkle_lanes.proofs.BlockLemmas.{block_word}
use Rattle.merkle_lanes.proofs.single.hash_blocks.Goals as goal

pub loop-i-init : goal.loop-i-init
unfolding hash_after
loop-i-init c = c.initialize.ensures 0 (omega arith)

pub loop-i-preserved : goal.loop-i-preserved
loop-i-preserved c =
    let m : List ℕ = c.args.bytes.now in
    let i : ℕ = c.loop-i.i in
    let block : List ℕ = take 64 (drop (i * 64) m) in
    let at : (n k : ℕ) → k + 4 ≤ 64 → n ≡ i * 64 + k → word_at m n ≡ word_at block k = λ n k h place. ap (word_at m) place ∙ sym (block_word m (i * 64) k h) in
    c.compress_words.ensures block (λ j h. c.load_four.ensures j h ∙ at _ (4 * j) (omega arith) (omega arith))
    (λ j h. c.load_four-in-loop-i.ensures j h ∙ at _ (4 * (4 + j)) (omega arith) (omega arith))
    (λ j h. c.load_four-in-loop-i-2.ensures j h ∙ at _ (4 * (8 + j)) (omega arith) (omega arith))
    (λ j h. c.load_four-in-loop-i-3.ensures j h ∙ at _ (4 * (12 + j)) (omega arith) (omega arith))
    ∙ ap (λ (s : List ℕ). compress s block) c.loop-i.invariant ∙ sym (hash_after_next initial_hash_256 m i)
