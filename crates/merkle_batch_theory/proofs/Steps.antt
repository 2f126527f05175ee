-- What a recorded change leaves, and what it makes.
use Rattle.std.proofs.Common.{◌≡◌, ℕ, zero, suc, ◌+◌, ◌-◌, ◌<◌, ◌≤◌, List, [], ◌∷◌, length, drop, Option, Some, None, Bool, true, false, cond, slice_get}
use Rattle.std.proofs.Common.{get_or, arith, refl, sym, ap, ◌∙◌, length-drop}
use Rattle.std.specs.Prelude.{is_some}
use Rattle.std.specs.Option.{unwrap_or}
use Rattle.std.specs.FinMap.{get}
use Rattle.std.proofs.lemmas.List.{get_or_append_left, length-map}
use Rattle.std.proofs.lemmas.Bool.{true≢false, or_parts}
use Rattle.merkle_base.specs.Tree.{Tree, leaf, join, IsBuilt}
use Rattle.merkle_base.specs.Forest.{forest, size}
use Rattle.merkle_base.proofs.Nodes.{node_built, node_stays, size_le}
use Rattle.merkle_base.proofs.Births.{leaf_at}
use Rattle.merkle_base.specs.Hashing.{Hashing}
use Rattle.merkle_base.specs.Digests.{digest_at, node_digests}
use Rattle.merkle_batch_theory.specs.Records.{RecordModel}
use Rattle.merkle_batch_theory.specs.Held.{overwritten_by}
use Rattle.merkle_batch_theory.specs.History.{replaced, leaves_among, edited, is_dirty, IsStep}
use Rattle.merkle_batch_theory.proofs.ListFacts.{get_drop}
use Rattle.merkle_batch_theory.proofs.Kept.{get_map}
use Rattle.merkle_base.proofs.Lists.{get_exists}

pub replaced_length : {D : Type 0} (rule : List ℕ → List ℕ) (m : ℕ → Option D) (n : ℕ) (X : List D) → length (replaced rule m n X) ≡ length X
replaced_length rule m n [] = refl
replaced_length rule m n (d ∷ ds) = ap suc (replaced_length rule m (suc n) ds)

module _ {D : Type 0} (h : Hashing D) (rule : List ℕ → List ℕ) where
  pub replaced_at : (m : ℕ → Option D) (n : ℕ) (X : List D) (k : ℕ) (e : D) → k < length X → get_or (replaced rule m n X) k e ≡ unwrap_or (m (size rule (n + k))) (get_or X k e)
  replaced_at m n [] k e l = absurd (omega arith)
  replaced_at m n (d ∷ ds) zero e l = let z : n + 0 ≡ n = omega arith in rw z refl
  replaced_at m n (d ∷ ds) (suc k) e l = let z : n + suc k ≡ suc n + k = omega arith in rw z (replaced_at m (suc n) ds k e (omega arith))

  -- an old entry of an edited list
  pub entry_at : (r : RecordModel D) (X : List D) (k : ℕ) → k < length X → get_or (edited rule r X) k h.empty ≡ unwrap_or (get r.overwritten (size rule k)) (get_or X k h.empty)
  entry_at r X k l =
      let n : ℕ = length (replaced rule (get r.overwritten) 0 X) in
      let z : 0 + k ≡ k = omega arith in
      get_or_append_left (replaced rule (get r.overwritten) 0 X) (leaves_among rule (length X) r.before r.appended) h.empty k (omega (arith, l, replaced_length rule (get r.overwritten) 0 X))
      ∙ (rw z at (replaced_at (get r.overwritten) 0 X k h.empty l))

  untouched_leaf : (o : Option D) (d e : D) → is_some o ≡ false → e ≡ unwrap_or o d → e ≡ d
  untouched_leaf None d e t u = u
  untouched_leaf (Some x) d e t u = absurd (true≢false t)

  -- a tree with no overwritten leaf keeps its digest
  pub digest_kept : (r : RecordModel D) (X : List D) (t : Tree) → IsBuilt (forest rule (length X)).nodes t → is_dirty (get r.overwritten) t ≡ false → digest_at h (edited rule r X) t ≡ digest_at h X t
  digest_kept r X (leaf q k) b t =
      let a = leaf_at rule (length X) q q k b in
      untouched_leaf (get r.overwritten q) (get_or X k h.empty) (get_or (edited rule r X) k h.empty) t (entry_at r X k a.1 ∙ ap (λ p. unwrap_or (get r.overwritten p) (get_or X k h.empty)) (sym a.0))
  digest_kept r X (join q x y) b t =
      let n = or_parts (is_dirty (get r.overwritten) x) (is_dirty (get r.overwritten) y) t in
      ap (λ d. h.node q d (digest_at h (edited rule r X) y)) (digest_kept r X x b.4 n.0) ∙ ap (λ d. h.node q (digest_at h X x) d) (digest_kept r X y b.5 n.1)

  pub node_digest_at : (X : List D) (p : ℕ) (t : Tree) → slice_get (forest rule (length X)).nodes p ≡ Some t → slice_get (node_digests h rule X) p ≡ Some (digest_at h X t)
  node_digest_at X p t e = get_map (digest_at h X) (forest rule (length X)).nodes p t e

  pub digests_length : (X : List D) → length (node_digests h rule X) ≡ size rule (length X)
  digests_length X = length-map (forest rule (length X)).nodes (digest_at h X)

  newer : (b : Bool) (o : Option D) (c d : D) → o ≡ cond b (Some c) None → (b ≡ false → c ≡ d) → Some c ≡ overwritten_by o (Some d)
  newer true o c d e k = rw e refl
  newer false o c d e k = rw (e, k refl) refl

  -- a node that was there before: its digest is the one that the record has for it, else the old one
  pub step_old : (r : RecordModel D) (X Y : List D) → IsStep h rule r X Y → (p : ℕ) → p < size rule (length X)
      → slice_get (node_digests h rule Y) p ≡ overwritten_by (get r.overwritten p) (slice_get (node_digests h rule X) p)
  step_old r X Y s p l =
      let k = get_exists (forest rule (length X)).nodes p l in
      let t : Tree = k.0 in
      let there : slice_get (forest rule (length Y)).nodes p ≡ Some t = node_stays rule (length X) (length Y) p t s.longer k.1 in
      rw (node_digest_at Y p t there, node_digest_at X p t k.1) (newer (is_dirty (get r.overwritten) t) (get r.overwritten p) (digest_at h Y t) (digest_at h X t) (s.overwritten p t k.1)
      (λ e. ap (λ Z. digest_at h Z t) s.edit ∙ digest_kept r X t (node_built rule (length X) p t k.1) e))

  -- a new node
  pub step_new : (r : RecordModel D) (X Y : List D) → IsStep h rule r X Y → (p : ℕ) → size rule (length X) ≤ p → slice_get (node_digests h rule Y) p ≡ slice_get r.appended (p - size rule (length X))
  step_new r X Y s p l =
      let z : size rule (length X) + (p - size rule (length X)) ≡ p = omega arith in
      sym (ap (λ ds. slice_get ds (p - size rule (length X))) (s.appended ∙ ap (λ n. drop n (node_digests h rule Y)) s.before)
      ∙ get_drop (size rule (length X)) (p - size rule (length X)) (node_digests h rule Y) ∙ ap (slice_get (node_digests h rule Y)) z)

  pub step_size : (r : RecordModel D) (X Y : List D) → IsStep h rule r X Y → size rule (length X) + length r.appended ≡ size rule (length Y)
  step_size r X Y s = omega (arith, ap length s.appended, length-drop r.before (node_digests h rule Y), digests_length Y, s.before, size_le rule (length X) (length Y) s.longer)
