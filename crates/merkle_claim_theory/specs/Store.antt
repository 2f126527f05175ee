-- The proof of a part of a range, read off the claim of the whole range.
use Rattle.std.specs.Prelude.{◌≡◌, ℕ, Bool, cond, ◌||◌, ◌≤◌, ◌<◌, ◌-◌, List, [], ◌∷◌, ◌++◌, length, drop, take, Option, Some, None, true, map, unwrap_or}
use Rattle.merkle_base.specs.Tree.{Tree, leaf, join, position}
use Rattle.merkle_root_theory.specs.Expression.{value}
use Rattle.merkle_base.specs.Hashing.{Hashing}
use Rattle.merkle_root_theory.specs.Plan.{Plan, peak, folding, root_plan, tree_meets, meets, siblings, outside_parts, path_siblings}
use Rattle.merkle_root_theory.specs.Claim.{tree_claim, claim}
use Rattle.merkle_root_theory.specs.Check.{RangeInput, chosen, leaf_given}
use Rattle.merkle_base.specs.Scheme.{Scheme}
use Rattle.merkle_base.specs.Places.{peaks_of}
use Rattle.merkle_root_theory.specs.Range.{end_of, AcceptsNonempty}
use Rattle.merkle_root_theory.specs.Collision.{Member}
use Rattle.merkle_claim_theory.specs.Order.{Distinct}
use Rattle.merkle_base.specs.Table.{digest_for}
use Rattle.merkle_root_theory.specs.Extract.{inner_pairs}

-- the values, in the claim of a tree for c, of the maximal nodes under which no location of d lies; ds: the digests for the siblings for c
abbrev pub sub_siblings : {D : Type 0} → Hashing D → (ℕ → Bool) → (ℕ → Bool) → (ℕ → D) → Tree → List D → List D
sub_siblings h c d X (leaf p i) ds = cond (d i) [] (value h (tree_claim h c X (leaf p i) ds) ∷ [])
sub_siblings h c d X (join p l r) ds = cond (tree_meets d l || tree_meets d r)
    (sub_siblings h c d X l ds ++ sub_siblings h c d X r (drop (length (siblings c l)) ds))
    (value h (tree_claim h c X (join p l r) ds) ∷ [])

-- the values, in the claim of a plan for c, of its maximal parts that hold no location of d
abbrev pub sub_outside_parts : {D : Type 0} → Hashing D → (ℕ → Bool) → (ℕ → Bool) → (ℕ → D) → Plan → List D → List D → List D
sub_outside_parts h c d X (peak t) os is = cond (tree_meets d t) [] (value h (claim h c X (peak t) os is) ∷ [])
sub_outside_parts h c d X (folding place l r) os is = cond (meets d l || meets d r)
    (sub_outside_parts h c d X l os is ++ sub_outside_parts h c d X r (drop (length (outside_parts c l)) os) (drop (length (path_siblings c l)) is))
    (value h (claim h c X (folding place l r) os is) ∷ [])

-- the values, in the claim of a plan for c, of the maximal nodes without a location of d within the peaks that hold one
abbrev pub sub_inner : {D : Type 0} → Hashing D → (ℕ → Bool) → (ℕ → Bool) → (ℕ → D) → Plan → List D → List D → List D
sub_inner h c d X (peak t) os is = cond (tree_meets d t) (sub_siblings h c d X t is) []
sub_inner h c d X (folding place l r) os is = cond (meets d l || meets d r)
    (sub_inner h c d X l os is ++ sub_inner h c d X r (drop (length (outside_parts c l)) os) (drop (length (path_siblings c l)) is))
    []

-- the digests of the proof of q's range, read off the claim of r
abbrev pub sub_digests : {D : Type 0} → Scheme D → RangeInput D → RangeInput D → Option Plan → List D
sub_digests s r q None = []
sub_digests s r q (Some p) =
    sub_outside_parts s.hashing (chosen r) (chosen q) (leaf_given s.hashing r) p r.digests (drop (length (outside_parts (chosen r) p)) r.digests)
    ++ sub_inner s.hashing (chosen r) (chosen q) (leaf_given s.hashing r) p r.digests (drop (length (outside_parts (chosen r) p)) r.digests)

-- q proves a part of r's range with digests read off r's claim
pub record IsPartOf {D : Type 0} (s : Scheme D) (r q : RangeInput D) : Type 0 where
  pub nonempty : 0 < length q.elements
  pub from : r.start ≤ q.start
  pub to : end_of q ≤ end_of r
  pub leaves : q.leaves ≡ r.leaves
  pub inactive : q.inactive ≡ r.inactive
  pub digests : q.digests ≡ sub_digests s r q (root_plan s.bagging r.inactive (peaks_of s.rule r.leaves))
  pub elements : q.elements ≡ take (length q.elements) (drop (q.start - r.start) r.elements)

-- what proves a range proves its parts, whatever the hash
abbrev pub PartIsAccepted : Type 0 → Type 0
PartIsAccepted D = (s : Scheme D) (r q : RangeInput D) (root : D) → AcceptsNonempty s r root → IsPartOf s r q → AcceptsNonempty s q root

-- the digest of the first pair at a position
abbrev pub read_pair : {D : Type 0} → Hashing D → List (ℕ × D) → ℕ → D
read_pair h pairs p = unwrap_or (digest_for (map (λ x. x.0) pairs) (map (λ x. x.1) pairs) p) h.empty

-- within a peak that overlaps the range the sub-proof's siblings are read from the pairs, where these tell no position twice
abbrev pub SiblingsAreRead : Type 0 → Type 0
SiblingsAreRead D = (h : Hashing D) (c d : ℕ → Bool) → ((i : ℕ) → d i ≡ true → c i ≡ true)
    → (Y : ℕ → D) (t : Tree) (ds : List D) (pairs : List (ℕ × D)) → Distinct (map (λ x. x.0) pairs)
    → ((x : ℕ × D) → Member (inner_pairs h c Y t ds ++ (position t, value h (tree_claim h c Y t ds)) ∷ []) x → Member pairs x)
    → sub_siblings h c d Y t ds ≡ map (λ u. read_pair h pairs (position u)) (siblings d t)
