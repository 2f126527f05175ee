-- Parents with the digests of their children, and the digests that these make.
use Rattle.std.proofs.Common.{◌≡◌, ℕ, zero, suc, ◌+◌, List, [], ◌∷◌, ◌++◌, length, map, Option, Some, true, cond, slice_get, refl, sym, ap, ◌∙◌, subst}
use Rattle.std.specs.List.{Contains}
use Rattle.std.proofs.lemmas.Option.{get_or_from_slice_get}
use Rattle.merkle_base.specs.Tree.{Tree, join, position}
use Rattle.merkle_base.specs.Forest.{forest, size}
use Rattle.merkle_base.specs.Hashing.{Hashing}
use Rattle.merkle_base.specs.Places.{AreChildren}
use Rattle.merkle_base.proofs.Growth.{built_at}
use Rattle.merkle_base.proofs.Lists.{get_below, one_there}
use Rattle.merkle_base.proofs.Nodes.{node_built}
use Rattle.merkle_batch_theory.specs.Contents.{Contents}
use Rattle.merkle_draft.specs.DraftReads.{DraftModel, below, stored_node}
use Rattle.merkle_draft.specs.NewDigests.{is_written, new_digest, of_both}
use Rattle.merkle_draft.specs.Settled.{AreParents, AreSettled, IsReady, draft_node}
use Rattle.merkle_draft.proofs.SettledFacts.{settled_read}

-- one more
pub parents_more : {D : Type 0} (rule : List ℕ → List ℕ) (read : ℕ → Option D) (ps : List ℕ) (gs : List (ℕ × D × D)) (p l r : ℕ) (a b : D) →
    AreParents rule read ps gs → AreChildren rule p l r → read l ≡ Some a → read r ≡ Some b → AreParents rule read (ps ++ p ∷ []) (gs ++ (p, a, b) ∷ [])
parents_more rule read [] [] p l r a b all children left right = (refl, (λ e s t at. (let k = children e s t at in (ap read (sym k.0) ∙ left, ap read (sym k.1) ∙ right))), tt)
parents_more rule read [] (g ∷ gs) p l r a b all children left right = absurd all
parents_more rule read (q ∷ ps) [] p l r a b all children left right = absurd all
parents_more rule read (q ∷ ps) (g ∷ gs) p l r a b all children left right = (all.0, all.1, parents_more rule read ps gs p l r a b all.2 children left right)

pub parents_length : {D : Type 0} (rule : List ℕ → List ℕ) (read : ℕ → Option D) (ps : List ℕ) (gs : List (ℕ × D × D)) → AreParents rule read ps gs → length gs ≡ length ps
parents_length rule read [] [] all = refl
parents_length rule read [] (g ∷ gs) all = absurd all
parents_length rule read (q ∷ ps) [] all = absurd all
parents_length rule read (q ∷ ps) (g ∷ gs) all = ap suc (parents_length rule read ps gs all.2)

listed_at : (ps : List ℕ) (i p : ℕ) → slice_get ps i ≡ Some p → Contains ps p
listed_at ps i p e = (i, get_below ps i p e, get_or_from_slice_get ps i p p e)

-- the i-th
parent_at : {D : Type 0} (rule : List ℕ → List ℕ) (read : ℕ → Option D) (ps : List ℕ) (gs : List (ℕ × D × D)) (f : ℕ × D × D → D) (i p : ℕ) (d : D)
    → AreParents rule read ps gs → slice_get ps i ≡ Some p → slice_get (map f gs) i ≡ Some d →
    (g : ℕ × D × D) × (g.0 ≡ p) × (d ≡ f g) × ((e : ℕ) (l r : Tree) → slice_get (forest rule e).nodes p ≡ Some (join p l r) → (read (position l) ≡ Some g.1) × (read (position r) ≡ Some g.2))
parent_at rule read [] gs f i p d all e k = absurd (cc)
parent_at rule read (q ∷ ps) [] f i p d all e k = absurd (cc)
parent_at rule read (q ∷ ps) (g ∷ gs) f zero p d all e k =
    let same : q ≡ p = cc in
    let is : f g ≡ d = cc in (
      g,
      all.0 ∙ same,
      sym is,
      subst
          (λ (x : ℕ). (e : ℕ) (l r : Tree) → slice_get (forest rule e).nodes x ≡ Some (join x l r) → (read (position l) ≡ Some g.1)
          × (read (position r) ≡ Some g.2)) same all.1,
    )
parent_at rule read (q ∷ ps) (g ∷ gs) f (suc i) p d all e k = parent_at rule read ps gs f i p d all.2 e k

module _ {D : Type 0} (h : Hashing D) (rule : List ℕ → List ℕ) (m under : ℕ → Option D) (n : ℕ) (ds : List D) where
  -- what is made of the children of a ready node is its digest after the changes
  pub made_right : (d : DraftModel D) (base : Contents D) (k : ℕ) (ps todo : List ℕ) (gs : List (ℕ × D × D)) (xs : List D) → under ≡ below d base
      → size rule n ≡ d.before → AreSettled h rule m under n ds todo (stored_node d) →
      ((p : ℕ) → Contains ps p → IsReady rule m n (n + length ds) k todo p) → AreParents rule (draft_node d base) ps gs → xs ≡ map (λ g. h.node g.0 g.1 g.2) gs →
      (i p : ℕ) (x : D) (t : Tree) → slice_get ps i ≡ Some p → slice_get xs i ≡ Some x → slice_get (forest rule (n + length ds)).nodes p ≡ Some t
      → (is_written rule m n t ≡ true) × (new_digest h rule m under n ds t ≡ Some x)
  made_right d base k ps todo gs xs same sized settled ready parents made i p x t at is node =
      let w = ready p (listed_at ps i p at) in
      let here : join p w.0 w.1 ≡ t = one_there w.2 node in
      let g = parent_at rule (draft_node d base) ps gs (λ g. h.node g.0 g.1 g.2) i p x parents at (ap (λ ys. slice_get ys i) (sym made) ∙ is) in
      let built = node_built rule (n + length ds) p (join p w.0 w.1) w.2 in
      let left : new_digest h rule m under n ds w.0 ≡ Some g.0.1 =
      sym (settled_read h rule m under n ds d base todo same sized settled (position w.0) w.0 (built_at (forest rule (n + length ds)).nodes w.0 built.4) w.5) ∙ (g.3 (n + length ds) w.0 w.1 w.2).0 in
      let right : new_digest h rule m under n ds w.1 ≡ Some g.0.2 =
      sym (settled_read h rule m under n ds d base todo same sized settled (position w.1) w.1 (built_at (forest rule (n + length ds)).nodes w.1 built.5) w.6) ∙ (g.3 (n + length ds) w.0 w.1 w.2).1 in
      let digest : new_digest h rule m under n ds (join p w.0 w.1) ≡ Some x =
      ap (λ b. cond b (of_both (h.node p) (new_digest h rule m under n ds w.0) (new_digest h rule m under n ds w.1)) (under p)) w.4
      ∙ ap (λ o. of_both (h.node p) o (new_digest h rule m under n ds w.1)) left ∙ ap (of_both (h.node p) (Some g.0.1)) right
      ∙ ap (λ (q : ℕ). Some (h.node q g.0.1 g.0.2)) (sym g.1) ∙ ap Some (sym g.2) in
      (subst (λ u. is_written rule m n u ≡ true) here w.4, ap (new_digest h rule m under n ds) (sym here) ∙ digest)
