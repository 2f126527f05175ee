-- What audits search, in the words of the theory.
use Rattle.std.specs.Prelude.{◌≡◌, ℕ, List, ◌∷◌, map, Option, option_map}
use Rattle.merkle_base.specs.Hashing.{Hashing}
use Rattle.merkle_base.specs.Root.{folded, root_string}
use Rattle.merkle_base.specs.Scheme.{Scheme}
use Rattle.merkle_root_theory.specs.Collision as theory
use Rattle.merkle_root_theory.specs.Expression.{Root, Pair, Bytes, Input}
use Rattle.merkle_audit_theory.specs.Differences.{first_difference}
use Rattle.merkle_audit_theory.specs.Folds.{numbered_inputs}
use Rattle.merkle_walks.specs.declared.top.Fold.{Fold}
use Rattle.merkle_walks.specs.declared.top.Top.{Top}
use Rattle.merkle_walks.specs.declared.collision.Collision.{Collision}
use Rattle.merkle_walks.specs.Places.{place_of, collision_of}

-- two digests that are folded, at their place
abbrev pub fold_at : {F D : Type 0} → Fold F D → Input D
fold_at x = record { place = place_of x.place; argument = Pair x.left x.right }

-- the string of a root, and the folds
abbrev pub top_of : {F D : Type 0} → Top F D → List (Input D)
top_of t = record { place = Root; argument = Bytes t.root.items } ∷ map fold_at t.folds.items

-- what a search hands out
abbrev pub located : {F D : Type 0} → Collision F D → theory.Collision D
located c = collision_of c.place c.claimed c.listed

-- the strings of two roots
abbrev pub roots_apart : {F D : Type 0} → Top F D → Top F D → theory.Collision D
roots_apart x y = record { place = Root; claimed = Bytes x.root.items; listed = Bytes y.root.items }

-- the string of the root over the digests that are folded, of a list of n leaves with k inactive peaks, of which the first `apart` are folded
-- left to right
abbrev pub HasRootString : {F D : Type 0} → Scheme D → (n k apart : ℕ) → List D → Top F D → Type 0
HasRootString s n k apart digests t =
    t.root.items ≡ root_string s.hashing s.domain s.bagging n k (folded s.hashing.fold s.bagging apart digests)

-- the folds, of which the first digest stands for `number` peaks
abbrev pub HasFolds : {F D : Type 0} → Scheme D → (k apart number : ℕ) → List D → Top F D → Type 0
HasFolds s k apart number digests t = map fold_at t.folds.items ≡ numbered_inputs s.hashing s.bagging k apart number digests

-- what a search finds is the first difference of the folds
abbrev pub FindsFold : {F D : Type 0} → Hashing D → Top F D → Top F D → Option (Collision F D) → Type 0
FindsFold h claimed listed found = option_map located found ≡ first_difference h (map fold_at claimed.folds.items) (map fold_at listed.folds.items)
