use Rattle.std.proofs.Common.{◌≡◌, ℕ, ◌+◌, ◌-◌, ◌*◌, List, ◌++◌, arith, sym, ◌∙◌, inl, inr, slice_index, subst}
use Rattle.std.proofs.lemmas.Bool.{cases_lt}
use Rattle.sha2.specs.Sha256.{word_at}
use Rattle.merkle_lanes.specs.Lanes.{lane, message}
use Rattle.merkle_lanes.proofs.Words.{word_left, word_right}
use Rattle.merkle_lanes.proofs.node.load_first_block.Goals as goal

pub returns : goal.returns
returns g c j h = λ k low.
    let p : List ℕ = message c.args.positions.now j in
    let l : List ℕ = message c.args.lefts.now j in
    let r : List ℕ = message c.args.rights.now j in
    let new = lane j c.load_words-3.new.block in
    elim (cases_lt k 2) [
      | inl a ↦ (let place : 0 + k ≡ k = omega arith in
          c.load_words-3.ensures.kept j h k (omega arith) ∙ c.load_words-2.ensures.kept j h k a
          ∙ subst (λ (i : ℕ). slice_index (lane j c.load_words.new.block) i ≡ word_at p (0 + 4 * k)) place (c.load_words.ensures.loaded j h k a)
          ∙ sym (word_left p (l ++ r) (0 + 4 * k) (omega (arith, c.requires.long_positions j h))))
      | inr a ↦ elim (cases_lt k 10) [
        | inl b ↦ (let place : 2 + (k - 2) ≡ k = omega arith in
            c.load_words-3.ensures.kept j h k b
            ∙ subst (λ (i : ℕ). slice_index (lane j c.load_words-2.new.block) i ≡ word_at l (0 + 4 * (k - 2))) place
            (c.load_words-2.ensures.loaded j h (k - 2) (omega arith))
            ∙ sym (word_right p (l ++ r) 8 (0 + 4 * (k - 2)) (0 + 4 * k) (c.requires.long_positions j h) (omega arith) ∙ word_left l r (0 + 4 * (k - 2)) (omega (arith, c.requires.long_lefts j h))))
        | inr b ↦ (let place : 10 + (k - 10) ≡ k = omega arith in
            subst (λ (i : ℕ). slice_index new i ≡ word_at r (0 + 4 * (k - 10))) place (c.load_words-3.ensures.loaded j h (k - 10) (omega arith))
            ∙ sym (word_right p (l ++ r) 8 (32 + 4 * (k - 10)) (0 + 4 * k) (c.requires.long_positions j h) (omega arith)
            ∙ word_right l r 32 (0 + 4 * (k - 10)) (32 + 4 * (k - 10)) (c.requires.long_lefts j h) (omega arith)))
      ]
    ]
