-- How a search halves what is left of a stretch of leaf counts.
use Rattle.std.proofs.Common.{◌≡◌, ℕ, suc, ◌+◌, ◌-◌, ◌*◌, ◌/◌, ◌^◌, ◌<◌, ◌≤◌, ◌⊎◌, inl, inr, arith, sym, subst, pow-suc, pow_pos, mul-le-mul_right}
use Rattle.merkle_base.proofs.Limits.{log_below}

-- while a stretch is left, there are at most seven probes behind
pub probes_left : (low high probes : ℕ) → low < high → (high - low) * 2 ^ (probes - 2) ≤ 32 → probes ≤ 7
probes_left low high probes left halved =
    let power : ℕ = 2 ^ (probes - 2) in
    let once : 1 * power ≤ (high - low) * power = mul-le-mul_right power (omega (arith, left)) in
    let few : probes - 2 < 6 = log_below (probes - 2) 6 power (omega arith) (omega (arith, once, halved)) in
    omega (arith, few)

-- the first two probes shorten the stretch
pub narrowed_kept : (low high first last probes : ℕ) → probes < 2 → (low ≤ first) × (first ≤ last) × (last ≤ high) → (high - low) * 2 ^ (probes - 2) ≤ 32 → (last - first) * 2 ^ (probes + 1 - 2) ≤ 32
narrowed_kept low high first last probes early kept halved =
    let before : probes - 2 ≡ 0 = omega arith in
    let after : probes + 1 - 2 ≡ 0 = omega arith in
    let wide : (high - low) * 2 ^ 0 ≤ 32 = subst (λ (n : ℕ). (high - low) * 2 ^ n ≤ 32) before halved in
    subst (λ (n : ℕ). (last - first) * 2 ^ n ≤ 32) (sym after) (omega (arith, wide, kept.0, kept.1, kept.2))

-- each later one halves it
pub narrowed_halved : (low high leaves first last probes : ℕ) → 2 ≤ probes → leaves ≡ high - (high - low) / 2 → low < high → (low ≤ first) × (first ≤ last) × (last ≤ high)
    → (last + leaves ≤ first + high) ⊎ (last + 1 + low ≤ first + leaves) → (high - low) * 2 ^ (probes - 2) ≤ 32 → (last - first) * 2 ^ (probes + 1 - 2) ≤ 32
narrowed_halved low high leaves first last probes late middle left kept narrowed halved =
    let wide : (last - first) * 2 ≤ high - low = elim narrowed [ inl a ↦ omega (arith, a, middle) | inr b ↦ omega (arith, b, middle) ] in
    let power : ℕ = 2 ^ (probes - 2) in
    let twice : (last - first) * 2 * power ≤ (high - low) * power = mul-le-mul_right power wide in
    let next : probes + 1 - 2 ≡ suc (probes - 2) = omega arith in
    let double : 2 ^ suc (probes - 2) ≡ power * 2 = pow-suc 2 (probes - 2) in
    subst (λ (n : ℕ). (last - first) * 2 ^ n ≤ 32) (sym next) (subst (λ (n : ℕ). (last - first) * n ≤ 32) (sym double) (omega (arith, twice, halved)))
