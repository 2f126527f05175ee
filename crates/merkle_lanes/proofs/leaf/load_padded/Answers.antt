use Rattle.std.proofs.Common.{◌≡◌, ℕ, ◌+◌, ◌-◌, ◌*◌, ◌≤◌, List, length, length-append, arith, sym, ◌∙◌, inl, inr, slice_index, subst, ap}
use Rattle.std.proofs.lemmas.Bool.{cases_lt}
use Rattle.sha2.specs.Sha256.{padded_message, padding, word_at}
use Rattle.merkle_lanes.specs.Lanes.{lane, leaf_message, message}
use Rattle.merkle_lanes.proofs.Words.{padded_word, padding_word, word_left, word_right}
use Rattle.merkle_lanes.proofs.leaf.load_padded.Goals as goal

pub returns : goal.returns
returns g c j h = λ k low.
    let p : List ℕ = message c.args.positions.now j in
    let e : List ℕ = message c.args.elements.now j in
    let m : List ℕ = leaf_message c.args.positions.now c.args.elements.now j in
    let eight : length p ≡ 8 = c.requires.long_positions j h in
    let long : length m ≡ 40 = omega (arith, length-append p e, eight, c.requires.long_elements j h) in
    let word : (i : ℕ) → i + 4 ≤ 40 → word_at (padded_message m) i ≡ word_at m i = λ i l. padded_word m i (omega (arith, long)) in
    elim (cases_lt k 10) [
      | inl a ↦ c.load_padding.ensures.kept j h k a ∙ elim (cases_lt k 2) [
        | inl b ↦ (let place : 0 + k ≡ k = omega arith in
            let byte : 0 + 4 * k ≡ 4 * k = omega arith in
            c.load_words-2.ensures.kept j h k b ∙ subst (λ (i : ℕ). slice_index (lane j c.load_words.new.block) i ≡ word_at p (0 + 4 * k)) place (c.load_words.ensures.loaded j h k b)
            ∙ ap (word_at p) byte ∙ sym (word (4 * k) (omega arith) ∙ word_left p e (4 * k) (omega (arith, eight))))
        | inr b ↦ (let place : 2 + (k - 2) ≡ k = omega arith in
            subst (λ (i : ℕ). slice_index (lane j c.load_words-2.new.block) i ≡ word_at e (0 + 4 * (k - 2))) place (c.load_words-2.ensures.loaded j h (k - 2) (omega arith))
            ∙ sym (word (4 * k) (omega arith) ∙ word_right p e 8 (0 + 4 * (k - 2)) (4 * k) eight (omega arith)))
      ]
      | inr a ↦ (let place : 10 + (k - 10) ≡ k = omega arith in
          let byte : 40 + 4 * (k - 10) ≡ 4 * k = omega arith in
          subst (λ (i : ℕ). slice_index (lane j c.load_padding.new.block) i ≡ word_at (padding 40) (4 * (k - 10))) place (c.load_padding.ensures.loaded j h (k - 10) (omega arith))
          ∙ sym (padding_word m 40 (4 * (k - 10)) long) ∙ ap (word_at (padded_message m)) byte)
    ]
