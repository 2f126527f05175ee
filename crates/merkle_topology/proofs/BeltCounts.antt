-- The greatest leaf count whose size in nodes does not exceed a number, by the logarithm.
use Rattle.std.proofs.Common.{◌≡◌, ℕ, zero, suc, ◌+◌, ◌*◌, ◌^◌, ◌-◌, ◌/◌, ◌<◌, ◌≤◌, length, arith, pow-suc, sym, subst}
use Rattle.merkle_base.specs.Forest.{size}
use Rattle.merkle_base.specs.Heights.{peak_heights}
use Rattle.merkle_base.proofs.Births.{size_peaks}
use Rattle.merkle_base.proofs.Limits.{log_below}
use Rattle.merkle_base.proofs.Nodes.{size_step}
use Rattle.merkle_forest_theory.specs.Mmb.{mmb_merges}
use Rattle.merkle_forest_theory.proofs.BeltLawful.{mmb_lawful, mmb_peak_count}
use Rattle.merkle_topology.proofs.Perfect.{pow_large}

-- half the nodes and one peak less than the logarithm says are a leaf count with no more nodes
pub size_of_log : (nodes log : ℕ) → 2 ^ log ≤ nodes + 2 → size mmb_merges ((nodes + log - 1) / 2) ≤ nodes
size_of_log nodes zero low = omega (arith, size_peaks mmb_merges ((nodes + 0 - 1) / 2))
size_of_log nodes (suc log) low =
    let n : ℕ = (nodes + suc log - 1) / 2 in
    let double : 2 ^ suc log ≡ 2 ^ log * 2 = pow-suc 2 log in
    let many : log < suc (length (peak_heights mmb_merges n)) = log_below log (suc (length (peak_heights mmb_merges n))) (n + 1) (omega (arith, double)) (mmb_peak_count n).1 in
    omega (arith, size_peaks mmb_merges n, many)

-- and the one after the next has more
pub size_past_log : (nodes log : ℕ) → nodes + 2 < 2 ^ suc log → nodes < size mmb_merges ((nodes + log - 1) / 2 + 1 + 1)
size_past_log nodes log high =
    let n : ℕ = (nodes + log - 1) / 2 + 1 + 1 in
    let double : 2 ^ suc log ≡ 2 ^ log * 2 = pow-suc 2 log in
    let again : 2 ^ suc (suc log) ≡ 2 ^ suc log * 2 = pow-suc 2 (suc log) in
    let few : length (peak_heights mmb_merges n) < suc (suc log) =
    log_below (length (peak_heights mmb_merges n)) (suc (suc log)) (n + 1) (mmb_peak_count n).0 (omega (arith, double, again, high, pow_large log)) in
    omega (arith, size_peaks mmb_merges n, few)

-- after the greatest leaf count come more nodes than the limit
pub size_past_limit : (nodes low : ℕ) → nodes ≤ 9223372036854775806 → low ≡ 4611686018427387934 → nodes < size mmb_merges (low + 1)
size_past_limit nodes low h e = subst (λ (n : ℕ). nodes < size mmb_merges (n + 1)) (sym e) (omega (arith, mmb_lawful.size_at_limit, size_step mmb_merges 4611686018427387934))
