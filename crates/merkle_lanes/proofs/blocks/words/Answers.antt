use Rattle.std.proofs.Common.{rules, ◌≡◌, ◌+◌, ◌<◌, ◌≤◌, ◌∙◌, length, arith, inl, inr, sym, subst, ap, List, ℕ}
use Rattle.std.proofs.lemmas.List.{get_or-set_same, get_or-set_other}
use Rattle.std.proofs.lemmas.Bool.{cases_lt}
use Rattle.sha2.specs.Sha256.{word_at}
use Rattle.merkle_lanes.proofs.LaneLemmas.{message_at}
use Rattle.merkle_lanes.proofs.blocks.words.Goals as goal

pub load-requires : goal.load-requires
load-requires g c =
    let ms = c.args.messages.now in
    let j : ℕ = c.loop-j.j in
    let below : j < length ms = omega (arith, c.requires.number, c.loop-j-test.true) in
    subst (λ (m : List ℕ). c.args.i + 4 ≤ length m) (sym (message_at ms j _ below)) (c.requires.long j c.loop-j-test.true)

pub loop-j-preserved : goal.loop-j-preserved
loop-j-preserved g c = (
  search rules,
  λ k lt.
      let ms = c.args.messages.now in
      let x = c.load.result in
      elim (cases_lt k c.loop-j.j) [
        | inl a ↦ get_or-set_other c.loop-j.words c.loop-j.j k x 0 (omega arith) ∙ c.loop-j.invariant.1 k a
        | inr e ↦
            let same : c.loop-j.j ≡ k = omega arith in
            let below : c.loop-j.j < length ms = omega (arith, c.requires.number, c.loop-j-test.true) in
            rw (← same) (get_or-set_same c.loop-j.words c.loop-j.j x 0 (omega (arith, c.loop-j.invariant.0, c.loop-j-test.true))
            ∙ c.load.ensures ∙ ap (λ (m : List ℕ). word_at m c.args.i) (message_at ms c.loop-j.j _ below))
      ],
)
