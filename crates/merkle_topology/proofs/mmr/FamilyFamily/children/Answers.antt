use Rattle.std.proofs.Common.{◌≡◌, ℕ, ◌^◌, ◌<◌, ◌≤◌, suc, Some, slice_get, arith, ap, ◌∙◌}
use Rattle.std.proofs.lemmas.Nat.{one_shl}
use Rattle.merkle_base.specs.Tree.{Tree, leaf, join, height}
use Rattle.merkle_base.specs.Forest.{forest}
use Rattle.merkle_forest_theory.specs.Mmr.{mmr_merges}
use Rattle.merkle_forest_theory.proofs.MountainRange.{mmr_children}
use Rattle.merkle_forest_theory.proofs.RangeLawful.{mmr_lawful}
use Rattle.merkle_base.proofs.Limits.{lawful_height}
use Rattle.merkle_base.proofs.Growth.{forest_grown}
use Rattle.merkle_base.proofs.Nodes.{same_position}
use Rattle.merkle_base.specs.Places.{HasInner}
use Rattle.merkle_topology.proofs.mmr.FamilyFamily.children.Goals as goal

low : (p h : ℕ) → HasInner mmr_merges 4611686018427387904 p h → h < 64
low p h k = omega (arith, lawful_height mmr_merges 4611686018427387904 9223372036854775807 mmr_lawful k.0 p k.1 k.2 k.3, k.4)

inner : (n p h : ℕ) (t : Tree) → slice_get (forest mmr_merges n).nodes p ≡ Some t → height t ≡ h → 0 < h → (2 ^ h ≤ p) × (1 ≤ p)
inner n p h (leaf q k) e d l = absurd (omega arith)
inner n p h (join q a b) e d l =
    let o = mmr_children n p (join q a b) e in
    let s : q ≡ p = (forest_grown mmr_merges n).placed p (join q a b) e in
    (omega (arith, o.0, ap (λ (x : ℕ). 2 ^ x) d), omega (arith, o.1))

pub overflow_shl-height : goal.overflow_shl-height
overflow_shl-height c = low c.args.position c.args.height c.requires

pub sub-requires : goal.sub-requires
sub-requires c =
    let k = c.requires in
    omega (arith, one_shl c.args.height 64 (low c.args.position c.args.height c.requires), (inner k.0 c.args.position c.args.height k.1 k.3 k.4 k.5).0)

pub sub-requires-2 : goal.sub-requires-2
sub-requires-2 c = let k = c.requires in (inner k.0 c.args.position c.args.height k.1 k.3 k.4 k.5).1

pub returns : goal.returns
returns c = λ n a b e.
    let k = c.requires in
    let o = mmr_children n c.args.position (join c.args.position a b) e in
    let d : suc (height a) ≡ c.args.height = ap height (same_position mmr_merges n k.0 c.args.position (join c.args.position a b) k.1 e k.3) ∙ k.4 in
    (omega (arith, o.0, ap (λ (x : ℕ). 2 ^ x) d, one_shl c.args.height 64 (low c.args.position c.args.height k)), omega (arith, o.1))
