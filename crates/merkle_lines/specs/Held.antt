-- When structures hold what the lines told.
use Rattle.std.specs.Prelude.{◌≡◌, ℕ, ◌≤◌, ◌==◌, List, [], ◌∷◌, ◌++◌, Option, Some, None, IfSome, cond, nat_lt, is_some, length, slice_set, ⊤}
use Rattle.std.specs.FinMap.{get}
use Rattle.std.specs.List.{list_any}
use Rattle.merkle_base.specs.Forest.{size}
use Rattle.merkle_base.specs.Hashing.{Hashing}
use Rattle.merkle_batch_theory.specs.Contents.{Agrees, Contents}
use Rattle.merkle_batch_theory.specs.Unmerkleized.{UnmerkleizedModel, pending_list}
use Rattle.merkle_batch_theory.specs.Roots.{root_batch}
use Rattle.merkle_batch_theory.specs.MemModel.{MemModel, contents}
use Rattle.merkle_hasher.specs.LeafDigests.{leaf_digests}
use Rattle.merkle_lines.specs.StructureState.{Changes, StructureState}

-- the pending batch makes the changes of a list: it was forked from a structure that agreed with it, at its boundary then
pub record Makes {D : Type 0} (h : Hashing D) (rule : List ℕ → List ℕ) (X : List D) (batch : UnmerkleizedModel D) (c : Changes) : Type 0 where
  pub origin : Contents D
  pub agreed : Agrees h rule origin X
  pub forked : batch.parent ≡ root_batch rule (length X) origin
  pub boundary : origin.boundary ≡ c.boundary
  pub none_forgotten : batch.forgotten ≡ 0
  pub before : batch.leaves_before ≡ length X
  pub elements : pending_list rule batch X ≡ leaf_digests h rule 0 c.elements
  pub updates : (p : ℕ) → is_some (get batch.overwritten p) ≡ list_any (λ k. p == size rule k) c.updated

-- there is a pending batch where changes are pending, and it makes them
abbrev pub MakesPending : {D : Type 0} → Hashing D → (List ℕ → List ℕ) → List D → Option (UnmerkleizedModel D) → Option Changes → Type 0
MakesPending h rule X None None = ⊤
MakesPending h rule X None (Some c) = ⊥
MakesPending h rule X (Some batch) None = ⊥
MakesPending h rule X (Some batch) (Some c) = Makes h rule X batch c

-- leaf digests of which some are changed, each at its location, or added at the end
abbrev pub edited : {D : Type 0} → List D → List (ℕ × D) → List D
edited xs [] = xs
edited xs (e ∷ es) = edited (cond (nat_lt e.0 (length xs)) (slice_set xs e.0 e.1) (xs ++ e.1 ∷ [])) es

-- the structure agrees with the committed elements, and its pending batch makes the changes; the list has the leaf digests of these elements, and with
-- the edits those of the elements with the changes
pub record IsStructureHeld {D : Type 0} (h : Hashing D) (rule : List ℕ → List ℕ) (max_leaves : ℕ)
    (store : MemModel D) (pending : Option (UnmerkleizedModel D)) (list : List D) (edits : List (ℕ × D)) (g : StructureState) : Type 0 where
  pub agrees : Agrees h rule (contents store) (leaf_digests h rule 0 g.committed)
  pub counted : store.leaves ≡ length g.committed
  pub bounded : length g.committed ≤ max_leaves
  pub boundary : store.boundary ≡ g.boundary
  pub makes : MakesPending h rule (leaf_digests h rule 0 g.committed) pending g.pending
  pub listed : list ≡ leaf_digests h rule 0 g.committed
  pub edits_are : IfSome g.pending (λ c. edited list edits ≡ leaf_digests h rule 0 c.elements)
