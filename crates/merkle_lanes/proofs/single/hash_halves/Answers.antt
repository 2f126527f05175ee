use Rattle.std.proofs.Common.{◌≡◌, List, ℕ, ◌++◌, ◌*◌, ◌+◌, ◌∙◌, length, length-append, take, drop, arith, ap}
use Rattle.sha2.specs.Sha256.{compress, padded_message, word_at}
use Rattle.merkle_lanes.proofs.Halves.{digest_by_halves, first_half_word, second_half_word}
use Rattle.merkle_lanes.proofs.single.hash_halves.Goals as goal

pub returns : goal.returns
returns c =
    let a : List ℕ = c.args.first.now in
    let b : List ℕ = c.args.second.now in
    let m : List ℕ = a ++ b in
    let long : length m ≡ 64 = omega (arith, length-append a b, c.requires.first, c.requires.second) in
    let block : List ℕ = take 64 (drop 0 (padded_message m)) in
    let word : ℕ → ℕ = word_at block in
    let first = first_half_word a b c.requires.first c.requires.second in
    let second = second_half_word a b c.requires.first c.requires.second in
    let done = c.compress_words.ensures block (λ j h. c.load_four.ensures j h ∙ first (0 + 4 * j) (omega arith) ∙ ap word (omega arith))
    (λ j h. c.load_four-2.ensures j h ∙ first (16 + 4 * j) (omega arith) ∙ ap word (omega arith))
    (λ j h. c.load_four-3.ensures j h ∙ second (0 + 4 * j) (omega arith) ∙ ap word (omega arith))
    (λ j h. c.load_four-4.ensures j h ∙ second (16 + 4 * j) (omega arith) ∙ ap word (omega arith)) in
    c.digest.ensures ∙ digest_by_halves m _ _ long (done ∙ ap (λ (s : List ℕ). compress s block) (c.initialize.ensures 0 (omega arith))) c.compress_padding.ensures
