-- One parent further, and one leaf further.
use Rattle.std.proofs.Common.{◌≡◌, ℕ, suc, ◌+◌, ◌<◌, List, ◌∷◌, ◌++◌, Option, Some, None, slice_get, ap, ◌∙◌}
use Rattle.std.specs.Option.{option_to_list}
use Rattle.merkle_base.specs.Tree.{Tree}
use Rattle.merkle_base.specs.Forest.{forest, size}
use Rattle.merkle_base.specs.Places.{HasInner}
use Rattle.merkle_base.proofs.Nodes.{node_anywhere}
use Rattle.merkle_restore.specs.HeldParents.{parent_of, parents_from}
use Rattle.merkle_restore.proofs.ParentLists.{parents_there}

-- the parents from a parent's position on, with what is read of it
module _ {D : Type 0} (rule : List ℕ → List ℕ) (max_leaves : ℕ) (node : ℕ → Option D) (q k : ℕ) (inner : HasInner rule max_leaves q k) (read : Option (ℕ × D × D))
    (is : (n : ℕ) (t : Tree) → slice_get (forest rule n).nodes q ≡ Some t → parent_of node t ≡ option_to_list read) (n : ℕ) (within : q < size rule n) where
  pub parents_read : parents_from rule n node q ≡ option_to_list read ++ parents_from rule n node (suc q)
  parents_read =
      let here = node_anywhere rule inner.0 n q inner.1 inner.3 within in
      parents_there rule n node q inner.1 here ∙ ap (λ xs. xs ++ parents_from rule n node (suc q)) (is n inner.1 here)

  pub none_read : read ≡ None → parents_from rule n node q ≡ parents_from rule n node (suc q)
  none_read e = parents_read ∙ ap (λ o. option_to_list o ++ parents_from rule n node (suc q)) e

  pub some_read : (e : ℕ × D × D) → read ≡ Some e → parents_from rule n node q ≡ e ∷ parents_from rule n node (suc q)
  some_read e r = parents_read ∙ ap (λ o. option_to_list o ++ parents_from rule n node (suc q)) r
