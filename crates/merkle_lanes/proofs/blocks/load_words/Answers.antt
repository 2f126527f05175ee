use Rattle.std.proofs.Common.{rules, ◌≡◌, ◌+◌, ◌∙◌, slice_index, length, arith, inl, inr}
use Rattle.std.proofs.lemmas.List.{get_or-set_same, get_or-set_other}
use Rattle.std.proofs.lemmas.Bool.{cases_lt}
use Rattle.merkle_lanes.specs.Lanes.{lane}
use Rattle.merkle_lanes.proofs.LaneLemmas.{lane-set, length-lane}
use Rattle.merkle_lanes.proofs.blocks.load_words.Goals as goal

pub loop-i-preserved : goal.loop-i-preserved
loop-i-preserved g c = (
  search rules,
  (λ j h k low.
      let x = slice_index c.words.result j in
      let b = lane j c.loop-i.block in
      rw (lane-set j c.loop-i.block (c.args.place + c.loop-i.i) c.words.result) (get_or-set_other b (c.args.place + c.loop-i.i) k x 0 (omega arith) ∙ c.loop-i.invariant.1 j h k low)),
  λ j h k lt.
      let x = slice_index c.words.result j in
      let b = lane j c.loop-i.block in
      let at = c.args.place + c.loop-i.i in
      rw (lane-set j c.loop-i.block at c.words.result) (elim (cases_lt k c.loop-i.i) [
        | inl a ↦ get_or-set_other b at (c.args.place + k) x 0 (omega arith) ∙ c.loop-i.invariant.2 j h k a
        | inr e ↦
            let same : c.loop-i.i ≡ k = omega arith in
            let long : length b ≡ length c.loop-i.block = length-lane j c.loop-i.block in
            rw (← same) (get_or-set_same b at x 0 (omega arith) ∙ c.words.ensures j h)
      ]),
)
