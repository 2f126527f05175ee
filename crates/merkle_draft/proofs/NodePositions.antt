-- Positions of listed nodes.
use Rattle.std.proofs.Common.{◌≡◌, ℕ, List, [], ◌∷◌, ◌++◌, map, Some, slice_get, subst}
use Rattle.merkle_base.specs.Tree.{Tree, position}
use Rattle.merkle_base.specs.Forest.{forest}
use Rattle.merkle_hasher.specs.Subtrees.{AreNodes}

-- of positions of nodes each is that of one
pub position_of_node : (rule : List ℕ → List ℕ) (n : ℕ) (ts : List Tree) → AreNodes rule n ts → (done rest : List ℕ) (p : ℕ) → map position ts ≡ done
    ++ p ∷ rest → (t : Tree) × (slice_get (forest rule n).nodes p ≡ Some t)
position_of_node rule n [] at [] rest p e = absurd (cc)
position_of_node rule n [] at (d ∷ done) rest p e = absurd (cc)
position_of_node rule n (t ∷ ts) at [] rest p e = let same : position t ≡ p = cc in (t, subst (λ q. slice_get (forest rule n).nodes q ≡ Some t) same at.0)
position_of_node rule n (t ∷ ts) at (d ∷ done) rest p e = let more : map position ts ≡ done ++ p ∷ rest = cc in position_of_node rule n ts at.1 done rest p more
