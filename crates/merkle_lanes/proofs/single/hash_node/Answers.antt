use Rattle.std.proofs.Common.{◌≡◌, List, ℕ, ◌+◌, ◌++◌, ◌*◌, ◌∙◌, length, length-append, take, drop, arith, ap}
use Rattle.sha2.specs.Sha256.{compress, padded_message, word_at}
use Rattle.merkle_lanes.proofs.LaneLemmas.{below_four}
use Rattle.merkle_lanes.proofs.TwoBlocks.{digest_by_blocks, left_word, position_word, right_word}
use Rattle.merkle_lanes.proofs.Words.{word_right}
use Rattle.merkle_lanes.proofs.single.hash_node.Goals as goal

pub returns : goal.returns
returns c =
    let a : List ℕ = c.args.position.now in
    let l : List ℕ = c.args.left.now in
    let r : List ℕ = c.args.right.now in
    let m : List ℕ = a ++ (l ++ r) in
    let eight : length a ≡ 8 = c.requires.position in
    let left : length l ≡ 32 = c.requires.left in
    let right : length r ≡ 32 = c.requires.right in
    let long : length m ≡ 72 = omega (arith, length-append a (l ++ r), length-append l r, eight, left, right) in
    let end : (k : ℕ) → word_at m (40 + k) ≡ word_at r k = λ k. word_right a (l ++ r) 8 (32 + k) (40 + k) eight (omega arith) ∙ word_right l r 32 k (32 + k) left (omega arith) in
    let block : List ℕ = take 64 (drop 0 (padded_message m)) in
    let word : ℕ → ℕ = word_at block in
    let at_a = position_word a l r eight left right in
    let at_l = left_word a l r eight left right in
    let at_r = right_word a l r eight left right in
    let first = c.compress_words.ensures block
    (below_four _ (c.load.ensures ∙ at_a 0 (omega arith)) (c.load-2.ensures ∙ at_a 4 (omega arith)) (c.load-3.ensures ∙ at_l 0 (omega arith)) (c.load-4.ensures ∙ at_l 4 (omega arith)))
    (λ j h. c.load_four.ensures j h ∙ at_l (8 + 4 * j) (omega arith) ∙ ap word (omega arith))
    (below_four _ (c.load-5.ensures ∙ at_l 24 (omega arith)) (c.load-6.ensures ∙ at_l 28 (omega arith)) (c.load-7.ensures ∙ at_r 0 (omega arith)) (c.load-8.ensures ∙ at_r 4 (omega arith)))
    (λ j h. c.load_four-2.ensures j h ∙ at_r (8 + 4 * j) (omega arith) ∙ ap word (omega arith)) in
    c.digest.ensures
    ∙ digest_by_blocks m _ _ long (first ∙ ap (λ (s : List ℕ). compress s block) (c.initialize.ensures 0 (omega arith))) (c.compress_last_block.ensures m long (end 24) (end 28))
