-- What a check of scattered leaves computes of nodes.
use Rattle.std.specs.Prelude.{◌≡◌, ℕ, Bool, ◌||◌, cond, nat_eq, nat_lt, List, [], ◌∷◌, map, Option, Vec, unwrap_or}
use Rattle.std.specs.List.{AllByRecursion, flat_map, list_any, prefix_len}
use Rattle.merkle_base.specs.Hashing.{Hashing}
use Rattle.merkle_base.specs.Places.{peaks_of}
use Rattle.merkle_base.specs.Tree.{Tree, leaf, join, first_leaf, end_leaf}
use Rattle.merkle_hasher.specs.Subtrees.{AreNodes, subtree_of}
use Rattle.merkle_root_theory.specs.Expression.{Expression, value, Holds}
use Rattle.merkle_root_theory.specs.Plan.{tree_meets}
use Rattle.merkle_claim_theory.specs.MultiClaim.{multi_tree}
use Rattle.merkle_base.specs.Table.{digest_for}
use Rattle.merkle_scattered.specs.declared.checked_node.CheckedNode.{CheckedNode}

-- the locations of elements with their leaf digests
abbrev pub locations_of : {D : Type 0} → List (ℕ × D) → List ℕ
locations_of es = map (λ e. e.0) es

-- whether a location is that of an element
abbrev pub is_located : {D : Type 0} → List (ℕ × D) → ℕ → Bool
is_located es i = list_any (nat_eq i) (locations_of es)

-- the leaf digest that an element has at a location
abbrev pub leaf_located : {D : Type 0} → Hashing D → List (ℕ × D) → ℕ → D
leaf_located h es i = unwrap_or (digest_for (locations_of es) (map (λ e. e.1) es) i) h.empty

-- how many elements, from the first on, are before a location
abbrev pub located_before : {D : Type 0} → ℕ → List (ℕ × D) → ℕ
located_before i es = prefix_len (λ e. nat_lt e.0 i) es

-- what is computed of a node; a: the digest that the proof supplies at a position
abbrev pub node_checked : {D : Type 0} → Hashing D → (ℕ → Option D) → List (ℕ × D) → Tree → Expression D
node_checked h a es t = multi_tree h a (is_located es) (leaf_located h es) t

-- each digest that is supplied beside a computed one of these nodes, or of nodes below them, is the computed one
abbrev pub EachHolds : {D : Type 0} → Hashing D → (ℕ → Option D) → List (ℕ × D) → List Tree → Type 0
EachHolds h a es ts = AllByRecursion (λ t. Holds h (node_checked h a es t)) ts

-- the digests that are computed of nodes
abbrev pub nodes_checked : {D : Type 0} → Hashing D → (ℕ → Option D) → List (ℕ × D) → List Tree → List D
nodes_checked h a es ts = map (λ t. value h (node_checked h a es t)) ts

-- a node as code represents it, with the elements below it by their indices
abbrev pub checked_node : {F D : Type 0} → List (ℕ × D) → Tree → CheckedNode F
checked_node es t = record { subtree = subtree_of t; from = located_before (first_leaf t) es; to = located_before (end_leaf t) es }

-- what code holds represents this node of a forest, with the elements below it
abbrev pub IsChecked : {F D : Type 0} → (List ℕ → List ℕ) → ℕ → List (ℕ × D) → CheckedNode F → Tree → Type 0
IsChecked rule m es n t = (n ≡ checked_node es t) × AreNodes rule m (t ∷ [])

-- what code holds represents these nodes of a forest, in order, each with the elements below it
abbrev pub AreChecked : {F D : Type 0} → (List ℕ → List ℕ) → ℕ → List (ℕ × D) → List (CheckedNode F) → List Tree → Type 0
AreChecked rule m es ns ts = (ns ≡ map (checked_node es) ts) × AreNodes rule m ts

-- the children of a node under which elements are
abbrev pub children_met : {D : Type 0} → List (ℕ × D) → Tree → List Tree
children_met es (leaf p i) = []
children_met es (join p l r) = cond (tree_meets (is_located es) l || tree_meets (is_located es) r) (l ∷ r ∷ []) []

-- the children of all nodes, of some, under which elements are
abbrev pub all_children_met : {D : Type 0} → List (ℕ × D) → List Tree → List Tree
all_children_met es ts = flat_map (children_met es) ts

-- the position of a node under which elements are, with the digests of its children
abbrev pub parent_met : {D : Type 0} → Hashing D → (ℕ → Option D) → List (ℕ × D) → Tree → List (ℕ × D × D)
parent_met h a es (leaf p i) = []
parent_met h a es (join p l r) = cond (tree_meets (is_located es) l || tree_meets (is_located es) r)
    ((p, value h (node_checked h a es l), value h (node_checked h a es r)) ∷ []) []

-- the positions of all nodes, of some, under which elements are, with the digests of their children
abbrev pub all_parents_met : {D : Type 0} → Hashing D → (ℕ → Option D) → List (ℕ × D) → List Tree → List (ℕ × D × D)
all_parents_met h a es ts = flat_map (parent_met h a es) ts

-- the greatest height of some nodes
abbrev pub tallest : {F : Type 0} → List (CheckedNode F) → ℕ
tallest [] = 0
tallest (n ∷ ns) = cond (nat_lt n.subtree.height (tallest ns)) (tallest ns) n.subtree.height

-- each digest that a proof supplies at ps for n leaves agrees with the computed one, and these are the digests of the peaks
abbrev pub ConfirmsPeaks : {D A : Type 0} → Hashing D → (List ℕ → List ℕ) → (n : ℕ) → (ps : List ℕ) → (ds : List D) → List (ℕ × D) → Vec D A → Type 0
ConfirmsPeaks h rule n ps ds es digests =
    EachHolds h (digest_for ps ds) es (peaks_of rule n) × (digests.items ≡ nodes_checked h (digest_for ps ds) es (peaks_of rule n))

-- one of the digests that a proof supplies at ps for n leaves does not agree with the computed one
abbrev pub RefutesPeaks : {D : Type 0} → Hashing D → (List ℕ → List ℕ) → (n : ℕ) → (ps : List ℕ) → (ds : List D) → List (ℕ × D) → Type 0
RefutesPeaks h rule n ps ds es = ¬ EachHolds h (digest_for ps ds) es (peaks_of rule n)
