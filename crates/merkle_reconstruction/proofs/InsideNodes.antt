-- Nodes that have all their leaves among those whose digests are given, step by step.
use Rattle.std.proofs.Common.{◌≡◌, ◌≢◌, ℕ, suc, ◌+◌, ◌-◌, ◌<◌, ◌≤◌, List, [], ◌++◌, length, map, drop, Option, Some, slice_get, arith, refl, ap, ap₂, sym, ◌∙◌}
use Rattle.std.proofs.lemmas.Option.{get_or_from_slice_get}
use Rattle.merkle_base.specs.Hashing.{Hashing}
use Rattle.merkle_base.specs.Heights.{IsLawful}
use Rattle.merkle_base.specs.Tree.{Tree, leaf, join}
use Rattle.merkle_base.proofs.Growth.{forest_grown}
use Rattle.merkle_base.proofs.Nodes.{node_built, width_pos}
use Rattle.merkle_hasher.specs.declared.subtree.Subtree.{Subtree}
use Rattle.merkle_hasher.specs.Subtrees.{Denotes}
use Rattle.merkle_hasher.proofs.Spans.{heights_same}
use Rattle.merkle_root_theory.specs.Plan.{tree_digest, siblings}
use Rattle.merkle_root_theory.specs.Walk.{leaf_from, IsWalked}
use Rattle.merkle_root_theory.specs.Check.{in_range}
use Rattle.merkle_root_theory.proofs.Claims.{tree_honest}
use Rattle.merkle_reconstruction.specs.Inside.{IsInside, IsDigestInside, IsDigestAt}

one_node : (t u : Tree) → ◌≡◌ {A = Option Tree} (Some t) (Some u) → t ≡ u
one_node t u e = cc

module _ {F : Type 0} (rule : List ℕ → List ℕ) (m : ℕ) where
  -- a and b are the children of s, if s has any
  abbrev pub AreChildrenOf : Subtree F → Subtree F → Subtree F → Type 0
  AreChildrenOf s a b = (q : ℕ) (l r : Tree) → Denotes rule m s (join q l r) → Denotes rule m a l × Denotes rule m b r

  module _ (start count : ℕ) where
    abbrev pub HasInside : Subtree F → Type 0
    HasInside s = (t : Tree) × IsInside rule m start count s t

    pub inside_join : (s : Subtree F) → HasInside s → s.height ≢ 0 → (q : ℕ) × (l : Tree) × (r : Tree) × Denotes rule m s (join q l r)
    inside_join s (leaf q i, w) tall = absurd (tall (omega (arith, w.0.height_is)))
    inside_join s (join q l r, w) tall = (q, l, r, w.0)

    inside_both : (s a b : Subtree F) → AreChildrenOf s a b → (q : ℕ) (l r : Tree) → IsInside rule m start count s (join q l r) → IsInside rule m start count a l × IsInside rule m start count b r
    inside_both s a b f q l r w =
        let built = node_built rule m s.position (join q l r) w.0.at in
        let k = f q l r w.0 in (
          (k.0, w.1, omega (arith, built.3, w.2, width_pos r)),
          (k.1, omega (arith, built.3, w.1, width_pos l), omega (arith, built.3, w.2)),
        )

    pub inside_children : (limit : ℕ) → IsLawful rule m limit → (s a b : Subtree F) → AreChildrenOf s a b → HasInside s → s.height ≢ 0
        → HasInside a × HasInside b × (suc a.height ≡ s.height) × (suc b.height ≡ s.height)
    inside_children limit law s a b f (leaf q i, w) tall = absurd (tall (omega (arith, w.0.height_is)))
    inside_children limit law s a b f (join q l r, w) tall =
        let k = inside_both s a b f q l r w in
        let e = heights_same rule m limit law s.position s.height s.first_leaf q l r w.0 in
        ((l, k.0), (r, k.1), omega (arith, w.0.height_is, k.0.0.height_is), omega (arith, w.0.height_is, k.1.0.height_is, e))

    -- a leaf is one of those that are given
    pub inside_leaf : (s : Subtree F) → HasInside s → s.height ≡ 0 → (start ≤ s.first_leaf) × (s.first_leaf < start + count)
    inside_leaf s (leaf q i, w) flat = (omega (arith, w.0.first_is, w.1), omega (arith, w.0.first_is, w.2))
    inside_leaf s (join q l r, w) flat = absurd (omega (arith, w.0.height_is, flat))

  module _ {D : Type 0} (h : Hashing D) (start : ℕ) (leaves : List D) where
    pub digest_leaf : (s : Subtree F) → s.height ≡ 0 → (d : D) → slice_get leaves (s.first_leaf - start) ≡ Some d → IsDigestInside h rule m start leaves s d
    digest_leaf s flat d here (leaf q i) w = sym (get_or_from_slice_get leaves (s.first_leaf - start) d h.empty here) ∙ ap (leaf_from h start leaves) (sym w.0.first_is)
    digest_leaf s flat d here (join q l r) w = absurd (omega (arith, w.0.height_is, flat))

    pub digest_join : (s a b : Subtree F) → AreChildrenOf s a b → s.height ≢ 0 → (x y d : D) → IsDigestInside h rule m start leaves a x
        → IsDigestInside h rule m start leaves b y → d ≡ h.node s.position x y
        → IsDigestInside h rule m start leaves s d
    digest_join s a b f tall x y d u v is (leaf q i) w = absurd (tall (omega (arith, w.0.height_is)))
    digest_join s a b f tall x y d u v is (join q l r) w =
        let k = inside_both start (length leaves) s a b f q l r w in
        is ∙ ap₂ (h.node s.position) (u l k.0) (v r k.1)
        ∙ ap (λ n. h.node n (tree_digest h (leaf_from h start leaves) l) (tree_digest h (leaf_from h start leaves) r)) (sym ((forest_grown rule m).placed s.position (join q l r) w.0.at))

    -- a node of height 1 over the digests of two leaves
    pub digest_parent : (limit : ℕ) → IsLawful rule m limit → (s a b : Subtree F) → AreChildrenOf s a b → HasInside start (length leaves) s → s.height ≡ 1
        → (x y : D) → slice_get leaves (a.first_leaf - start) ≡ Some x → slice_get leaves (b.first_leaf - start) ≡ Some y
        → IsDigestAt h rule m (leaf_from h start leaves) s.position (h.node s.position x y)
    digest_parent limit law s a b f (t, w) one x y u v p at =
        let tall : s.height ≢ 0 = omega (arith, one) in
        let both = inside_children start (length leaves) limit law s a b f (t, w) tall in
        let first = digest_leaf a (omega (arith, both.2, one)) x u in
        let second = digest_leaf b (omega (arith, both.3, one)) y v in
        digest_join s a b f tall x y (h.node s.position x y) first second refl t w ∙ ap (tree_digest h (leaf_from h start leaves)) (one_node t p (sym w.0.at ∙ at))

    -- the digest of such a node is that of the node at its position
    pub digest_at_node : (s : Subtree F) → HasInside start (length leaves) s → (d : D) → IsDigestInside h rule m start leaves s d → IsDigestAt h rule m (leaf_from h start leaves) s.position d
    digest_at_node s (t, w) d is u at = is t w ∙ ap (tree_digest h (leaf_from h start leaves)) (one_node t u (sym w.0.at ∙ at))

  -- the digest at a node over those at its children
  pub digest_over : {D : Type 0} (h : Hashing D) (leaf : ℕ → D) (s a b : Subtree F) → AreChildrenOf s a b → (t : Tree) → Denotes rule m s t → s.height ≢ 0
      → (x y : D) → IsDigestAt h rule m leaf a.position x → IsDigestAt h rule m leaf b.position y → IsDigestAt h rule m leaf s.position (h.node s.position x y)
  digest_over h X s a b f (leaf q i) w tall x y u v p at = absurd (tall (omega (arith, w.height_is)))
  digest_over h X s a b f (join q l r) w tall x y u v p at =
      let k = f q l r w in
      ap₂ (h.node s.position) (u l k.0.at) (v r k.1.at)
      ∙ ap (λ n. h.node n (tree_digest h X l) (tree_digest h X r)) (sym ((forest_grown rule m).placed s.position (join q l r) w.at))
      ∙ ap (tree_digest h X) (one_node (join q l r) p (sym w.at ∙ at))

-- the walk over a node that has no node outside the range takes no sibling
pub walked_inside : {D : Type 0} (h : Hashing D) (start : ℕ) (leaves : List D) (end : ℕ) (t : Tree) → siblings (in_range start end) t ≡ []
    → (d : D) → d ≡ tree_digest h (leaf_from h start leaves) t → (ds : List D) → IsWalked h (in_range start end) (leaf_from h start leaves) t ds d ds
walked_inside h start leaves end t none d is ds = record {
  digest = is ∙ sym (tree_honest h (in_range start end) (leaf_from h start leaves) (leaf_from h start leaves) (λ i e. refl) t ds ds
      (ap (λ z. map (tree_digest h (leaf_from h start leaves)) z ++ ds) (sym none)));
  enough = omega (arith, ap length none);
  rest = ap (λ z. drop (length z) ds) (sym none);
}
