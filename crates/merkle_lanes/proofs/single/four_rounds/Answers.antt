use Rattle.std.proofs.Common.{◌≡◌, ℕ, List, ◌+◌, ◌<◌, refl, ap, ◌∙◌, arith}
use Rattle.sha2.specs.Sha256.{rounds}
use Rattle.merkle_lanes.proofs.Schedule.{round_at}
use Rattle.merkle_lanes.proofs.single.four_rounds.Goals as goal

pub returns : goal.returns
returns c = λ ws h t p q r s held.
    let lane : 0 < 1 = omega arith in
    let second : t + 1 + 1 ≡ t + 2 = omega arith in
    let third : t + 2 + 1 ≡ t + 3 = omega arith in
    let fourth : t + 3 + 1 ≡ t + 4 = omega arith in
    let after : ℕ → List ℕ = rounds h ws in
    let v1 = round_at h ws _ t _ _ _ held refl refl (c.round_of_sum.ensures 0 lane _ _ (c.splat.ensures 0 lane ∙ p)) in
    let v2 = round_at h ws _ (t + 1) _ _ _ v1 refl refl (c.round_of_sum-2.ensures 0 lane _ _ (c.splat-2.ensures 0 lane ∙ q)) ∙ ap after second in
    let v3 = round_at h ws _ (t + 2) _ _ _ v2 refl refl (c.round_of_sum-3.ensures 0 lane _ _ (c.splat-3.ensures 0 lane ∙ r)) ∙ ap after third in
    round_at h ws _ (t + 3) _ _ _ v3 refl refl (c.round_of_sum-4.ensures 0 lane _ _ (c.splat-4.ensures 0 lane ∙ s)) ∙ ap after fourth
