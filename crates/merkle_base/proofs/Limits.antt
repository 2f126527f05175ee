-- How high nodes are and where they stand, up to the limits of a lawful rule.
use Rattle.std.proofs.Common.{◌≡◌, ℕ, ◌^◌, ◌<◌, ◌≤◌, List, Some, slice_get, arith, inl, inr, pow_mono}
use Rattle.std.proofs.lemmas.Bool.{cases_lt}
use Rattle.merkle_base.specs.Tree.{Tree, height}
use Rattle.merkle_base.specs.Forest.{forest}
use Rattle.merkle_base.specs.Heights.{IsLawful, MergesEqual}
use Rattle.merkle_base.proofs.Lists.{get_below}
use Rattle.merkle_base.proofs.Nodes.{size_le}
use Rattle.merkle_base.proofs.Lookup.{height_bound, size_large}

pub log_below : (a b n : ℕ) → 2 ^ a ≤ n → n < 2 ^ b → a < b
log_below a b n low high = elim (cases_lt a b) [
  | inl l ↦ l
  | inr g ↦ (let m : 2 ^ b ≤ 2 ^ a = pow_mono g in absurd (omega arith))
]

-- a node's height is below 63
pub lawful_height : (rule : List ℕ → List ℕ) (max_leaves max_nodes : ℕ) → IsLawful rule max_leaves max_nodes → (n p : ℕ) (t : Tree) → n ≤ max_leaves
    → slice_get (forest rule n).nodes p ≡ Some t → height t < 63
lawful_height rule max_leaves max_nodes law n p t l e =
    let equal : MergesEqual rule n = λ m b. law.equal m (omega arith) in
    let high : 2 ^ height t ≤ n = omega (arith, height_bound rule n equal p t e) in
    let small : n < 2 ^ 63 = omega (arith, size_large rule n, size_le rule n max_leaves l, law.size_at_limit, law.limit_fits) in
    log_below (height t) 63 n high small

-- and its position is below the limit
pub lawful_position : (rule : List ℕ → List ℕ) (max_leaves max_nodes : ℕ) → IsLawful rule max_leaves max_nodes → (n p : ℕ) (t : Tree) → n ≤ max_leaves
    → slice_get (forest rule n).nodes p ≡ Some t → p < max_nodes
lawful_position rule max_leaves max_nodes law n p t l e =
    omega (arith, get_below (forest rule n).nodes p t e, size_le rule n max_leaves l, law.size_at_limit)

-- the greatest leaf count is below 2 ^ 63
pub lawful_leaves : (rule : List ℕ → List ℕ) (max_leaves max_nodes : ℕ) → IsLawful rule max_leaves max_nodes → max_leaves < 2 ^ 63
lawful_leaves rule max_leaves max_nodes law = omega (arith, size_large rule max_leaves, law.size_at_limit, law.limit_fits)
