use Rattle.std.proofs.Common.{◌≡◌, ℕ, ◌*◌, ◌∙◌, List, length, length-append, take, drop, ap, sym, arith}
use Rattle.sha2.specs.Sha256.{compress, padded_message, word_at}
use Rattle.merkle_lanes.specs.Lanes.{leaf_message, message}
use Rattle.merkle_lanes.proofs.BlockLemmas.{block_word}
use Rattle.merkle_lanes.proofs.OneBlock.{digest_by_block}
use Rattle.merkle_lanes.proofs.leaf.compress_leaves.Goals as goal

pub returns : goal.returns
returns g c j h =
    let p : List ℕ = message c.args.positions.now j in
    let e : List ℕ = message c.args.elements.now j in
    let m : List ℕ = leaf_message c.args.positions.now c.args.elements.now j in
    let long : length m ≡ 40 = omega (arith, length-append p e, c.requires.long_positions j h, c.requires.long_elements j h) in
    let block : List ℕ = take 64 (drop 0 (padded_message m)) in
    let done = c.compress.ensures j h block (λ k i. c.load_padded.ensures j h k i ∙ sym (block_word (padded_message m) 0 (4 * k) (omega arith) ∙ ap (word_at (padded_message m)) (omega arith))) in
    digest_by_block m _ long (done ∙ ap (λ (s : List ℕ). compress s block) (c.initialize.ensures j h))
