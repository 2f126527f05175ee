use Rattle.std.proofs.Common.{◌≡◌, ◌<◌, ◌+◌, ◌∙◌, ap, sym, arith, List, ℕ}
use Rattle.sha2.specs.Sha256.{digest_bytes, hash_after, initial_hash_256}
use Rattle.merkle_lanes.specs.Lanes.{message, state_lane}
use Rattle.merkle_lanes.proofs.BlockLemmas.{taken_by}
use Rattle.merkle_lanes.proofs.four.hash_blocks.Goals as goal

pub loop-i-init : goal.loop-i-init
unfolding hash_after
loop-i-init c = (
  λ j h. c.initialize.ensures j h,
  (λ low. absurd (omega (arith, low, c.requires.first.0))),
  (λ low. absurd (omega (arith, low, c.requires.second.0))),
  (λ low. absurd (omega (arith, low, c.requires.third.0))),
  λ low. absurd (omega (arith, low, c.requires.fourth.0)),
)

pub loop-i-preserved : goal.loop-i-preserved
loop-i-preserved c =
    let i : ℕ = c.loop-i.i in
    let held = c.loop-i.invariant in
    let value : ℕ → ℕ → List ℕ = λ j n. digest_bytes (hash_after initial_hash_256 (message c.args.messages.now j) n) 8 in
    let lane : (j : ℕ) → j < 4 → state_lane j c.compress_next.new.state ≡ hash_after initial_hash_256 (message c.args.messages.now j) (i + 1) =
    λ j h. c.compress_next.ensures j h (held.0 j h) in
    let now : (j n : ℕ) → j < 4 → n ≡ i + 1 → digest_bytes (state_lane j c.compress_next.new.state) 8 ≡ value j n =
    λ j n h e. ap (λ s. digest_bytes s 8) (lane j h) ∙ ap (value j) (sym e) in (
      lane,
      taken_by c.args.a i c.loop-i.first c.take_digest.new.out (value 0 c.args.a) held.1
          (λ e. c.take_digest.ensures.last e ∙ now 0 c.args.a (omega arith) e) c.take_digest.ensures.other,
      taken_by c.args.b i c.loop-i.second c.take_digest-in-loop-i.new.out (value 1 c.args.b) held.2
          (λ e. c.take_digest-in-loop-i.ensures.last e ∙ now 1 c.args.b (omega arith) e) c.take_digest-in-loop-i.ensures.other,
      taken_by c.args.c i c.loop-i.third c.take_digest-in-loop-i-2.new.out (value 2 c.args.c) held.3
          (λ e. c.take_digest-in-loop-i-2.ensures.last e ∙ now 2 c.args.c (omega arith) e) c.take_digest-in-loop-i-2.ensures.other,
      taken_by c.args.d i c.loop-i.fourth c.take_digest-in-loop-i-3.new.out (value 3 c.args.d) held.4
          (λ e. c.take_digest-in-loop-i-3.ensures.last e ∙ now 3 c.args.d (omega arith) e) c.take_digest-in-loop-i-3.ensures.other,
    )
