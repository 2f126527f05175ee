-- Two lists with the same peak digests are equal, or collide at a node.
use Rattle.std.proofs.Common.{◌≡◌, ℕ, zero, suc, ◌⊎◌, List, [], ◌∷◌, length, map, reverse, Some, slice_get, get_or, refl, sym, inl, inr, ◌∙◌, subst}
use Rattle.std.specs.List.{AllByRecursion}
use Rattle.std.proofs.lemmas.Bool.{false≢true}
use Rattle.merkle_base.specs.Tree.{Tree, leaf, join, position, IsBuilt, IsUnder}
use Rattle.merkle_base.specs.Forest.{forest, size}
use Rattle.merkle_base.proofs.Growth.{forest_grown}
use Rattle.merkle_base.proofs.Paths.{leaf_under, peak_holding}
use Rattle.merkle_base.proofs.Lookup.{peak_node}
use Rattle.merkle_base.specs.Hashing.{Hashing, EqDecides}
use Rattle.merkle_base.specs.Digests.{digest_at, peak_digests}
use Rattle.merkle_base.specs.Collision.{Collide}
use Rattle.merkle_base.proofs.Reversed.{get_reverse}
use Rattle.merkle_base.proofs.Cases.{by_test}
use Rattle.merkle_base.proofs.Lists.{same_list}

pub map_here : {A B : Type 0} (f g : A → B) (xs : List A) (i : ℕ) (x : A) → map f xs ≡ map g xs → slice_get xs i ≡ Some x → f x ≡ g x
map_here f g [] i x e d = absurd (cc)
map_here f g (y ∷ ys) zero x e d = (let s : y ≡ x = cc in let t : f y ≡ g y = cc in subst (λ z. f z ≡ g z) s t)
map_here f g (y ∷ ys) (suc i) x e d = (let t : map f ys ≡ map g ys = cc in map_here f g ys i x t d)

module _ {D : Type 0} (h : Hashing D) (rule : List ℕ → List ℕ) (law : EqDecides h) (X Y : List D) where
  abbrev Same : Tree → Type 0
  Same t = (q k : ℕ) → IsUnder (leaf q k) t → get_or X k h.empty ≡ get_or Y k h.empty

  same_join : (p : ℕ) (l r : Tree) → Same l → Same r → Same (join p l r)
  same_join p l r a b = λ q k u. elim u [ inl e ↦ absurd (cc) | inr v ↦ elim v [ inl w ↦ a q k w | inr w ↦ b q k w ] ]

  same_leaf : (p n : ℕ) → get_or X n h.empty ≡ get_or Y n h.empty → Same (leaf p n)
  same_leaf p n e = λ q k u. (let d : k ≡ n = cc in rw d e)

  -- one digest of both lists at a tree: the leaves under it are the same, or the lists collide under it
  pub tree_same : (t : Tree) → IsBuilt (forest rule (length X)).nodes t → digest_at h X t ≡ digest_at h Y t → Same t ⊎ Collide h rule X Y
  tree_same (leaf p n) b e = inl (same_leaf p n e)
  tree_same (join p l r) b e = by_test (λ _. Same (join p l r) ⊎ Collide h rule X Y) (h.same (digest_at h X l) (digest_at h Y l))
      (λ s. by_test (λ _. Same (join p l r) ⊎ Collide h rule X Y) (h.same (digest_at h X r) (digest_at h Y r))
      (λ t. elim (tree_same l b.4 ((law (digest_at h X l) (digest_at h Y l)).0 s)) [
        | inl x ↦ elim (tree_same r b.5 ((law (digest_at h X r) (digest_at h Y r)).0 t)) [ inl y ↦ inl (same_join p l r x y) | inr c ↦ inr c ]
        | inr c ↦ inr c
      ])
      (λ t. inr (p, l, r, b.0, e, λ d. false≢true (sym t ∙ (law (digest_at h X r) (digest_at h Y r)).1 d.1))))
      (λ s. inr (p, l, r, b.0, e, λ d. false≢true (sym s ∙ (law (digest_at h X l) (digest_at h Y l)).1 d.0)))

  trees_same : (ts : List Tree) → AllByRecursion (IsBuilt (forest rule (length X)).nodes) ts
      → ((i : ℕ) (t : Tree) → slice_get ts i ≡ Some t → digest_at h X t ≡ digest_at h Y t) → ((i : ℕ) (t : Tree) → slice_get ts i ≡ Some t → Same t) ⊎ Collide h rule X Y
  trees_same [] b e = inl (λ i t d. absurd (cc))
  trees_same (t ∷ ts) b e = elim (tree_same t b.0 (e 0 t refl)) [
    | inl x ↦ elim (trees_same ts b.1 (λ i s d. e (suc i) s d)) [ inl y ↦ inl (both t ts x y) | inr c ↦ inr c ]
    | inr c ↦ inr c
  ]
    where
      both : (t : Tree) (ts : List Tree) → Same t → ((i : ℕ) (s : Tree) → slice_get ts i ≡ Some s → Same s) → (i : ℕ) (s : Tree) → slice_get (t ∷ ts) i ≡ Some s → Same s
      both t ts x y zero s d = (let e : t ≡ s = cc in subst Same e x)
      both t ts x y (suc i) s d = y i s d

  pub same_or_collide : length X ≡ length Y → peak_digests h rule X ≡ peak_digests h rule Y → (X ≡ Y) ⊎ Collide h rule X Y
  same_or_collide l e =
      let f : map (digest_at h X) (reverse (forest rule (length X)).peaks) ≡ map (digest_at h Y) (reverse (forest rule (length X)).peaks) =
      subst (λ n. peak_digests h rule X ≡ map (digest_at h Y) (reverse (forest rule n).peaks)) (sym l) e in
      elim (trees_same (forest rule (length X)).peaks (forest_grown rule (length X)).built
      (λ i t d. (let k = get_reverse (forest rule (length X)).peaks i t d in
      map_here (digest_at h X) (digest_at h Y) (reverse (forest rule (length X)).peaks) k.0 t f k.1))) [
        | inl s ↦ inl (same_list h.empty X Y l (λ k b.
            (let w = peak_holding rule (length X) k b in
            s w.0 w.1 w.2 (size rule k) k (leaf_under rule (length X) (position w.1) k w.1 (peak_node rule (length X) w.0 w.1 w.2) w.3 w.4))))
        | inr c ↦ inr c
      ]
