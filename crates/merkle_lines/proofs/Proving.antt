-- The honest proof of a range, by its parts.
use Rattle.std.proofs.Common.{◌≡◌, ℕ, ◌+◌, ◌-◌, ◌<◌, ◌≤◌, List, length, take, drop, arith, ap, ◌∙◌}
use Rattle.std.proofs.lemmas.List.{length-take, length-drop}
use Rattle.merkle_base.specs.Scheme.{Scheme}
use Rattle.merkle_root_theory.specs.Check.{RangeInput}
use Rattle.merkle_root_theory.specs.Range.{IsHonestRange, range_digests}

module _ {D : Type 0} (s : Scheme D) (X : List D) (k a b leaves inactive : ℕ) (digests : List D) (some : a < b) (within : b ≤ length X) where
  ends : a + length (take (b - a) (drop a X)) ≡ b
  ends = omega (arith, some, within, length-take (b - a) (drop a X), length-drop a X)

  pub honest_parts : IsHonestRange s X k (record { leaves = leaves; inactive = inactive; digests = digests; start = a; elements = take (b - a) (drop a X) })
      → (leaves ≡ length X) × (inactive ≡ k) × (digests ≡ range_digests s X k a b)
  honest_parts h = (
    ap (λ (r : RangeInput D). r.leaves) h.2,
    ap (λ (r : RangeInput D). r.inactive) h.2,
    ap (λ (r : RangeInput D). r.digests) h.2 ∙ ap (λ e. range_digests s X k a e) ends,
  )
