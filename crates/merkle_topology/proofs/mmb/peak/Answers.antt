use Rattle.std.proofs.Common.{◌≡◌, ℕ, ◌+◌, ◌^◌, ◌≤◌, ◌∷◌, suc, arith, ap, sym, ◌∙◌, subst}
use Rattle.merkle_forest_theory.specs.Mmb.{newest_peaks}
use Rattle.merkle_topology.proofs.BeltPeaks.{mmb_peak, peak_fits, peak_height}
use Rattle.merkle_topology.proofs.mmb.peak.Goals as goal

there : (n i : ℕ) → 2 ^ (i + 1) ≤ n + 1 → 2 ^ suc i ≤ n + 1
there n i l = let e : i + 1 ≡ suc i = omega arith in subst (λ (x : ℕ). 2 ^ x ≤ n + 1) e l

pub overflow_shr-digits : goal.overflow_shr-digits
overflow_shr-digits c = omega (arith, (peak_fits c.args.leaves c.args.index c.requires.valid (there c.args.leaves c.args.index c.requires.exists)).index)

pub overflow_add-height : goal.overflow_add-height
overflow_add-height c = omega (arith, (peak_fits c.args.leaves c.args.index c.requires.valid (there c.args.leaves c.args.index c.requires.exists)).height)

pub overflow_sub-end : goal.overflow_sub-end
overflow_sub-end c = (mmb_peak c.args.leaves c.args.index (there c.args.leaves c.args.index c.requires.exists)).positive

pub overflow_shl-end : goal.overflow_shl-end
overflow_shl-end c = omega (arith, (peak_fits c.args.leaves c.args.index c.requires.valid (there c.args.leaves c.args.index c.requires.exists)).index)

pub overflow_shl-height : goal.overflow_shl-height
overflow_shl-height c = omega (arith, (peak_fits c.args.leaves c.args.index c.requires.valid (there c.args.leaves c.args.index c.requires.exists)).height)

pub overflow_sub-end-2 : goal.overflow_sub-end-2
overflow_sub-end-2 c =
    let low = there c.args.leaves c.args.index c.requires.exists in
    let k = peak_fits c.args.leaves c.args.index c.requires.valid low in
    rw (k.end, k.width) (mmb_peak c.args.leaves c.args.index low).fits

pub root_position-position-requires : goal.root_position-position-requires
root_position-position-requires c =
    let low = there c.args.leaves c.args.index c.requires.exists in
    let k = peak_fits c.args.leaves c.args.index c.requires.valid low in
    rw (k.end, k.width) (omega (arith, (mmb_peak c.args.leaves c.args.index low).birth, c.requires.valid))

pub returns : goal.returns
returns c =
    let low = there c.args.leaves c.args.index c.requires.exists in
    let k = peak_fits c.args.leaves c.args.index c.requires.valid low in
    let same = rw (k.end, k.width) at c.root_position-position.ensures in
    let e : c.args.index + 1 ≡ suc c.args.index = omega arith in
    ap (λ (x : ℕ). newest_peaks x c.args.leaves) e ∙ (mmb_peak c.args.leaves c.args.index low).first
    ∙ ap (λ (p : ℕ). (p, peak_height c.args.leaves c.args.index) ∷ newest_peaks c.args.index c.args.leaves) (sym (c.new.ensures ∙ same))
