use Rattle.std.proofs.Common.{◌≡◌, ◌<◌, ◌≤◌, ◌+◌, ℕ, arith, ◌∙◌, ◌-◌}
use Rattle.std.proofs.lemmas.Nat.{one_shl}
use Rattle.merkle_base.specs.Forest.{size}
use Rattle.merkle_base.specs.Places.{HasInner}
use Rattle.merkle_base.proofs.Limits.{lawful_position}
use Rattle.merkle_forest_theory.specs.Mmb.{mmb_merges}
use Rattle.merkle_forest_theory.proofs.BeltLawful.{mmb_lawful}
use Rattle.merkle_topology.proofs.BeltNodes.{mmb_inner, IsInner}
use Rattle.merkle_topology.proofs.mmb.FamilyFamily.children.Goals as goal

inner : (p h nodes birth : ℕ) → HasInner mmb_merges 4611686018427387934 p h → nodes ≡ p → birth ≤ 4611686018427387934 → size mmb_merges birth ≤ nodes
    → nodes < size mmb_merges (birth + 1) → IsInner p h birth
inner p h nodes birth k e small a b = mmb_inner p h birth k small (omega arith) (omega arith)

pub leaf_count_within-birth-requires : goal.leaf_count_within-birth-requires
leaf_count_within-birth-requires c =
    let k = c.requires in
    omega (arith, c.as_u64.ensures, lawful_position mmb_merges 4611686018427387934 9223372036854775806 mmb_lawful k.0 c.args.position k.1 k.2 k.3)

pub overflow_shl-first : goal.overflow_shl-first
overflow_shl-first c =
    let f = c.leaf_count_within-birth.ensures in
    omega (arith, (inner c.args.position c.args.height c.as_u64.result c.leaf_count_within-birth.result c.requires c.as_u64.ensures f.limit f.within f.greatest).low)

pub overflow_sub-first : goal.overflow_sub-first
overflow_sub-first c =
    let f = c.leaf_count_within-birth.ensures in
    let k = inner c.args.position c.args.height c.as_u64.result c.leaf_count_within-birth.result c.requires c.as_u64.ensures f.limit f.within f.greatest in
    rw k.three k.start

pub root_position-left-requires : goal.root_position-left-requires
root_position-left-requires c =
    let f = c.leaf_count_within-birth.ensures in
    let k = inner c.args.position c.args.height c.as_u64.result c.leaf_count_within-birth.result c.requires c.as_u64.ensures f.limit f.within f.greatest in
    rw k.three k.left_birth

pub overflow_shl-below : goal.overflow_shl-below
overflow_shl-below c =
    let f = c.leaf_count_within-birth.ensures in
    omega (arith, (inner c.args.position c.args.height c.as_u64.result c.leaf_count_within-birth.result c.requires c.as_u64.ensures f.limit f.within f.greatest).low)

pub root_position-right-requires : goal.root_position-right-requires
root_position-right-requires c =
    let f = c.leaf_count_within-birth.ensures in
    let k = inner c.args.position c.args.height c.as_u64.result c.leaf_count_within-birth.result c.requires c.as_u64.ensures f.limit f.within f.greatest in
    rw (k.three, one_shl (c.args.height - 1) 64 (omega (arith, k.low))) k.right_birth

pub returns : goal.returns
returns c = λ n a b e.
    let f = c.leaf_count_within-birth.ensures in
    let k = inner c.args.position c.args.height c.as_u64.result c.leaf_count_within-birth.result c.requires c.as_u64.ensures f.limit f.within f.greatest in
    let r = k.children n a b e in
    let left = rw k.three at c.root_position-left.ensures in
    let right = rw (k.three, one_shl (c.args.height - 1) 64 (omega (arith, k.low))) at c.root_position-right.ensures in
    (c.new.ensures ∙ left ∙ r.0, c.new-2.ensures ∙ right ∙ r.1)
