use Rattle.std.proofs.Common.{◌≡◌, List, length, ◌++◌, ◌+◌, ◌∙◌, ℕ, take, drop, ap, arith, length-append}
use Rattle.sha2.specs.Sha256.{compress, padded_message, word_at}
use Rattle.merkle_lanes.specs.Lanes.{message, node_message}
use Rattle.merkle_lanes.proofs.TwoBlocks.{digest_by_blocks, first_block_word, last_block_word}
use Rattle.merkle_lanes.proofs.Words.{word_right}
use Rattle.merkle_lanes.proofs.node.compress_nodes.Goals as goal

pub returns : goal.returns
returns g c j h =
    let a : List ℕ = message c.args.positions.now j in
    let l : List ℕ = message c.args.lefts.now j in
    let r : List ℕ = message c.args.rights.now j in
    let m : List ℕ = node_message c.args.positions.now c.args.lefts.now c.args.rights.now j in
    let eight : length a ≡ 8 = c.requires.long_positions j h in
    let left : length l ≡ 32 = c.requires.long_lefts j h in
    let long : length m ≡ 72 = omega (arith, length-append a (l ++ r), length-append l r, eight, left, c.requires.long_rights j h) in
    let word : (k : ℕ) → word_at m (40 + k) ≡ word_at r k = λ k. word_right a (l ++ r) 8 (32 + k) (40 + k) eight (omega arith) ∙ word_right l r 32 k (32 + k) left (omega arith) in
    let p : List ℕ = padded_message m in
    let first = c.compress.ensures j h (take 64 (drop 0 p)) (λ k i. c.load_first_block.ensures j h k i ∙ first_block_word m k long i) in
    let last = c.compress-2.ensures j h (take 64 (drop 64 p)) (λ k i. c.load_last_block.ensures j h m long (word 24) (word 28) k i ∙ last_block_word m k i) in
    digest_by_blocks m _ _ long (first ∙ ap (λ (s : List ℕ). compress s (take 64 (drop 0 p))) (c.initialize.ensures j h)) last
