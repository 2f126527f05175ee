-- The batch that every chain begins with stands on the list that the structure agrees with.
use Rattle.std.proofs.Common.{ℕ, ◌^◌, ◌<◌, ◌≤◌, List, [], ◌∷◌, length, arith, refl}
use Rattle.std.specs.Ordering.{nat_cmp}
use Rattle.std.specs.FinMap.{get-empty}
use Rattle.merkle_base.specs.Forest.{size}
use Rattle.merkle_base.specs.Hashing.{Hashing}
use Rattle.merkle_base.specs.Heights.{IsLawful}
use Rattle.merkle_base.proofs.Nodes.{size_le}
use Rattle.merkle_batch_theory.specs.Contents.{Contents, Agrees}
use Rattle.merkle_batch_theory.specs.Records.{records}
use Rattle.merkle_batch_theory.specs.Roots.{root_batch}
use Rattle.merkle_batch_theory.specs.History.{IsHistory}
use Rattle.merkle_batch_theory.proofs.Accepted.{peaks_agree}
use Rattle.merkle_batch_theory.proofs.Chains.{still}

pub root_stands : {D : Type 0} (h : Hashing D) (rule : List ℕ → List ℕ) (c : Contents D) (X : List D) → Agrees h rule c X → IsHistory h rule (records (root_batch rule (length X) c)) (X ∷ X ∷ [])
root_stands h rule c X a =
    let held = peaks_agree h rule c X a in
    (still h rule (root_batch rule (length X) c).own X a.sized refl (get-empty nat_cmp) held held, tt)

-- a structure within the limit has fewer than 2 ^ 63 nodes
pub lawful_size : (rule : List ℕ → List ℕ) (max_leaves max_nodes n : ℕ) → IsLawful rule max_leaves max_nodes → n ≤ max_leaves → size rule n < 2 ^ 63
lawful_size rule max_leaves max_nodes n law l = omega (arith, size_le rule n max_leaves l, law.size_at_limit, law.limit_fits)
