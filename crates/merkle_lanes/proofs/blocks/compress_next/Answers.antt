use Rattle.std.proofs.Common.{◌≡◌, List, ◌∙◌, ℕ, ◌*◌, ◌+◌, ◌<◌, slice_index, arith, take, drop, ap, sym}
use Rattle.sha2.specs.Sha256.{compress, initial_hash_256, word_at}
use Rattle.sha2.proofs.Absorbing256.{hash_after_next}
use Rattle.merkle_lanes.specs.Lanes.{lane, message}
use Rattle.merkle_lanes.proofs.BlockLemmas.{block_word}
use Rattle.merkle_lanes.proofs.blocks.compress_next.Goals as goal

pub returns : goal.returns
returns g c = λ j h before.
    let m : List ℕ = message c.args.messages.now j in
    let i : ℕ = c.args.i in
    let block : List ℕ = take 64 (drop (i * 64) m) in
    let start : 64 * i ≡ i * 64 = omega arith in
    let word : (k : ℕ) → k < 16 → slice_index (lane j c.load_block.new.block) k ≡ word_at block (4 * k) =
    λ k l. c.load_block.ensures j h k l ∙ ap (λ (n : ℕ). word_at m (n + 4 * k)) start ∙ sym (block_word m (i * 64) (4 * k) (omega arith)) in
    c.compress.ensures j h block word ∙ ap (λ (s : List ℕ). compress s block) before ∙ sym (hash_after_next initial_hash_256 m i)
