use Rattle.std.proofs.Common.{◌≡◌, ℕ, ◌+◌, ◌*◌, slice_index, arith, subst}
use Rattle.sha2.specs.Sha256.{word_at}
use Rattle.merkle_lanes.specs.Lanes.{lane, message}
use Rattle.merkle_lanes.proofs.blocks.load_block.Goals as goal

pub returns : goal.returns
returns g c j h = λ k l.
    let place : 0 + k ≡ k = omega arith in
    subst (λ (i : ℕ). slice_index (lane j c.load_words.new.block) i ≡ word_at (message c.args.messages.now j) (c.args.start + 4 * k)) place (c.load_words.ensures.loaded j h k l)
