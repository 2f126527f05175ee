-- Listing the dirty parents of a subtree.
use Rattle.std.proofs.Common.{◌≡◌, ◌≢◌, ℕ, suc, ◌+◌, List, [], ◌∷◌, ◌++◌, length, append-nil, append_assoc, take, drop, Option, Bool, true, false, cond, arith}
use Rattle.std.proofs.Common.{refl, sym, ap, inl, inr, ◌∙◌, Result, Ok, Err}
use Rattle.std.specs.Prelude.{OnOk, ◌==◌, ◌&&◌}
use Rattle.std.specs.List.{flat_map}
use Rattle.std.proofs.lemmas.Grind.{flat_map-append}
use Rattle.std.proofs.lemmas.List.{nil_from_length}
use Rattle.std.proofs.lemmas.Bool.{true≢false, or_parts, cases_Bool}
use Rattle.std.proofs.lemmas.Bool.Decides.{eqb_tells}
use Rattle.merkle_base.specs.Tree.{Tree, leaf, join, height, first_leaf}
use Rattle.merkle_base.specs.Forest.{size}
use Rattle.merkle_base.proofs.Growth.{forest_grown}
use Rattle.merkle_base.proofs.Nodes.{node_built}
use Rattle.merkle_hasher.specs.Subtrees.{Denotes}
use Rattle.merkle_hasher.specs.declared.subtree.Subtree.{Subtree}
use Rattle.merkle_batch_theory.specs.History.{is_dirty}
use Rattle.merkle_draft.specs.DirtyLeaves.{dirty_leaves, are_before}
use Rattle.merkle_draft.specs.Levels.{level_at, from_height, dirty_at, dirty_count, all_dirty_count, AreMarked}
use Rattle.merkle_draft.proofs.DirtyFacts.{both_empty, none_dirty, not_dirty, before_right, split_parts}

pub on_ok_both : {T E : Type 0} {P Q R : Type 0} (r : Result T E) → (P → Q → R) → OnOk r P → OnOk r Q → OnOk r R
on_ok_both (Ok x) f p q = f p q
on_ok_both (Err e) f p q = tt

pub empty_yes : {X : Type 0} (xs : List X) (b : Bool) → b ≡ (length xs == 0) → b ≡ true → xs ≡ []
empty_yes xs b e f = elim (eqb_tells (length xs) 0) [ inl s ↦ nil_from_length xs s.1 | inr s ↦ absurd (true≢false (sym f ∙ e ∙ s.0)) ]

pub empty_no : {X : Type 0} (xs : List X) (b : Bool) → b ≡ (length xs == 0) → b ≡ false → xs ≢ []
empty_no xs b e f = elim (eqb_tells (length xs) 0) [ inl s ↦ absurd (true≢false (sym s.0 ∙ sym e ∙ f)) | inr s ↦ λ z. s.1 (ap length z) ]

module _ {D : Type 0} (m : ℕ → Option D) where
  -- ---- a tree that is not dirty has no dirty parents
  pub none_at : (h : ℕ) (t : Tree) → is_dirty m t ≡ false → dirty_at m h t ≡ []
  none_at h (leaf p n) e = refl
  none_at h (join p l r) e =
      let k = or_parts (is_dirty m l) (is_dirty m r) e in
      ap (λ b. (dirty_at m h l ++ dirty_at m h r) ++ cond (b && (h == suc (height l))) (p ∷ []) []) e ∙ append-nil (dirty_at m h l ++ dirty_at m h r)
      ∙ ap (λ xs. xs ++ dirty_at m h r) (none_at h l k.0) ∙ none_at h r k.1

  pub none_counted : (t : Tree) → is_dirty m t ≡ false → dirty_count m t ≡ 0
  none_counted (leaf p n) e = refl
  none_counted (join p l r) e =
      let k = or_parts (is_dirty m l) (is_dirty m r) e in
      omega (arith, none_counted l k.0, none_counted r k.1, ap {B = ℕ} (λ b. cond b 1 0) e)

  pub counted_append : (ts us : List Tree) → all_dirty_count m (ts ++ us) ≡ all_dirty_count m ts + all_dirty_count m us
  counted_append [] us = omega arith
  counted_append (t ∷ ts) us = omega (arith, counted_append ts us)

  pub marked_nothing : (ls : List (List ℕ)) → AreMarked m [] ls ls
  marked_nothing ls = record { listed = λ h. sym (append-nil (level_at ls h)); counted = omega arith }

  pub marked_append : (ts us : List Tree) (a b c : List (List ℕ)) → AreMarked m ts a b → AreMarked m us b c → AreMarked m (ts ++ us) a c
  marked_append ts us a b c v w = record {
    listed = λ h.
        w.listed h ∙ ap (λ xs. xs ++ flat_map (dirty_at m h) us) (v.listed h) ∙ append_assoc (level_at a h) (flat_map (dirty_at m h) ts) (flat_map (dirty_at m h) us)
        ∙ ap (λ xs. level_at a h ++ xs) (sym (flat_map-append (dirty_at m h) ts us));
    counted = omega (arith, v.counted, w.counted, counted_append ts us);
  }

  pub marked_quiet : (t : Tree) (ls : List (List ℕ)) → is_dirty m t ≡ false → AreMarked m (t ∷ []) ls ls
  marked_quiet t ls e = record {
    listed = λ h. sym (append-nil (level_at ls h)) ∙ ap (λ xs. level_at ls h ++ (xs ++ [])) (sym (none_at h t e));
    counted = omega (arith, none_counted t e);
  }

  -- trees without dirty leaves
  pub marked_none : (ts : List Tree) (ls : List (List ℕ)) → flat_map (dirty_leaves m) ts ≡ [] → AreMarked m ts ls ls
  marked_none [] ls e = marked_nothing ls
  marked_none (t ∷ ts) ls e =
      let none = both_empty (dirty_leaves m t) (flat_map (dirty_leaves m) ts) e in
      marked_append (t ∷ []) ts ls ls ls (marked_quiet t ls (not_dirty m t none.0)) (marked_none ts ls none.1)

  pub marked_leaf : (p n : ℕ) (ls : List (List ℕ)) → AreMarked m (leaf p n ∷ []) ls ls
  marked_leaf p n ls = record { listed = λ h. sym (append-nil (level_at ls h)); counted = omega arith }

  pub marked_parent : (p : ℕ) (l r : Tree) → is_dirty m (join p l r) ≡ true → (a b c d : List (List ℕ)) → AreMarked m (l ∷ []) a b → AreMarked m (r ∷ []) b c
      → ((h : ℕ) → level_at d h ≡ level_at c h ++ cond (h == suc (height l)) (p ∷ []) []) → length (from_height d 0) ≡ suc (length (from_height c 0)) → AreMarked m (join p l r ∷ []) a d
  marked_parent p l r e a b c d v w f k = record {
    listed = λ h.
        (let below = marked_append (l ∷ []) (r ∷ []) a b c v w in
        let own : List ℕ = cond (h == suc (height l)) (p ∷ []) [] in
        f h ∙ ap (λ xs. xs ++ own) (below.listed h) ∙ append_assoc (level_at a h) (dirty_at m h l ++ (dirty_at m h r ++ [])) own
        ∙ ap (λ xs. level_at a h ++ ((dirty_at m h l ++ xs) ++ own)) (append-nil (dirty_at m h r))
        ∙ ap (λ t. level_at a h ++ ((dirty_at m h l ++ dirty_at m h r) ++ cond (t && (h == suc (height l))) (p ∷ []) [])) (sym e)
        ∙ ap (λ xs. level_at a h ++ xs) (sym (append-nil (dirty_at m h (join p l r)))));
    counted = omega (arith, v.counted, w.counted, k, ap {B = ℕ} (λ t. cond t 1 0) e);
  }

-- ---- as the code goes
module _ {F D : Type 0} (rule : List ℕ → List ℕ) (n : ℕ) (s : Subtree F) (us : List ℕ) where
  pub mark_none : (ls : List (List ℕ)) → us ≡ [] → (t : Tree) (m : ℕ → Option D) → Denotes rule n s t → us ≡ dirty_leaves m t → AreMarked m (t ∷ []) ls ls
  mark_none ls none t m w u = marked_quiet m t ls (not_dirty m t (sym u ∙ none))

  pub mark_leaf : (ls : List (List ℕ)) → s.height ≡ 0 → (t : Tree) (m : ℕ → Option D) → Denotes rule n s t → us ≡ dirty_leaves m t → AreMarked m (t ∷ []) ls ls
  mark_leaf ls low (leaf p k) m w u = marked_leaf m p k ls
  mark_leaf ls low (join p l r) m w u = absurd (omega (arith, w.height_is, low))

  module _ (some : us ≢ []) (high : s.height ≢ 0) (l r : Subtree F) (kids : (p : ℕ) (a b : Tree) → Denotes rule n s (join p a b) → Denotes rule n l a × Denotes rule n r b)
      (middle count : ℕ) (front back : List ℕ) (middle_is : middle ≡ size rule r.first_leaf) (count_is : count ≡ are_before us middle)
      (front_is : front ≡ take count us) (back_is : back ≡ drop count us) where
    halves : (m : ℕ → Option D) (q : ℕ) (a b : Tree) → Denotes rule n s (join q a b) → us ≡ dirty_leaves m (join q a b) → (front ≡ dirty_leaves m a) × (back ≡ dirty_leaves m b)
    halves m q a b w e =
        let c : count ≡ length (dirty_leaves m a) =
        count_is ∙ ap (are_before us) (middle_is ∙ ap (size rule) (sym (kids q a b w).1.first_is)) ∙ ap (λ z. are_before z (size rule (first_leaf b))) e
        ∙ before_right rule n m q a b (node_built rule n s.position (join q a b) w.at) in
        split_parts us (dirty_leaves m a) (dirty_leaves m b) front back count e c front_is back_is

    pub mark_parent : (old mid low new : List (List ℕ))
        → ((t : Tree) (m : ℕ → Option D) → Denotes rule n l t → front ≡ dirty_leaves m t → AreMarked m (t ∷ []) old mid)
        → ((t : Tree) (m : ℕ → Option D) → Denotes rule n r t → back ≡ dirty_leaves m t → AreMarked m (t ∷ []) mid low)
        → ((h : ℕ) → level_at new h ≡ level_at low h ++ cond (h == s.height) (s.position ∷ []) []) → length (from_height new 0) ≡ suc (length (from_height low 0))
        → (t : Tree) (m : ℕ → Option D) → Denotes rule n s t → us ≡ dirty_leaves m t → AreMarked m (t ∷ []) old new
    mark_parent old mid low new f g pushed more (leaf q i) m w u = absurd (high (omega (arith, w.height_is)))
    mark_parent old mid low new f g pushed more (join q a b) m w u =
        let c = kids q a b w in
        let p = halves m q a b w u in
        let place : q ≡ s.position = (forest_grown rule n).placed s.position (join q a b) w.at in
        let tall : suc (height a) ≡ s.height = w.height_is in
        marked_parent m q a b
        (elim (cases_Bool (is_dirty m (join q a b))) [ inl d ↦ d | inr d ↦ absurd (some (u ∙ none_dirty m (join q a b) d)) ])
        old mid low new (f a m c.0 p.0) (g b m c.1 p.1)
        (λ h. pushed h ∙ (λ i. level_at low h ++ cond (h == sym tall i) (sym place i ∷ []) []))
        more
