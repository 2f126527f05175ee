-- What is read through records that stand on lists.
use Rattle.std.proofs.Common.{◌≡◌, ℕ, zero, suc, ◌-◌, ◌≤◌, List, [], ◌∷◌, length, Option, Some, None, Bool, true, false, cond, slice_get, arith, refl, sym, ap, inl, inr, ◌∙◌, length-append}
use Rattle.std.specs.Option.{option_or}
use Rattle.std.specs.FinMap.{get}
use Rattle.std.proofs.lemmas.Bool.{lt-ltb, le-ltb, cases_lt}
use Rattle.std.proofs.lemmas.Option.{slice_get_past}
use Rattle.merkle_base.specs.Tree.{Tree, join, position}
use Rattle.merkle_base.specs.Forest.{forest, size}
use Rattle.merkle_base.proofs.Growth.{built_at}
use Rattle.merkle_base.proofs.Nodes.{node_built, node_stays}
use Rattle.merkle_base.specs.Hashing.{Hashing}
use Rattle.merkle_base.specs.Digests.{digest_at, node_digests}
use Rattle.merkle_batch_theory.specs.Contents.{Contents, Agrees, is_kept}
use Rattle.merkle_batch_theory.specs.Records.{RecordModel}
use Rattle.merkle_batch_theory.specs.Held.{overwritten_by}
use Rattle.merkle_batch_theory.specs.History.{edited, replaced, leaves_among, is_dirty, IsStep, IsHistory, last_list}
use Rattle.merkle_batch_theory.specs.Read.{written, newest, read_over}
use Rattle.merkle_batch_theory.proofs.Steps.{node_digest_at, digests_length, digest_kept, replaced_length, step_old, step_new}
use Rattle.merkle_batch_theory.proofs.OptionFacts.{none_or_some, or_assoc, or_nothing, both_none}
use Rattle.merkle_base.proofs.Lists.{get_exists}

over_or : {D : Type 0} (n o : Option D) (d : D) → o ≡ Some d → overwritten_by n o ≡ option_or n o
over_or None o d e = rw e refl
over_or (Some x) o d e = rw e refl

module _ {D : Type 0} (h : Hashing D) (rule : List ℕ → List ℕ) where
  abbrev at_node : List D → ℕ → Option D
  at_node X p = slice_get (node_digests h rule X) p

  -- a node is what the record has for it, else what it was
  pub step_read : (r : RecordModel D) (X Y : List D) → IsStep h rule r X Y → (p : ℕ) → at_node Y p ≡ option_or (written r p) (at_node X p)
  step_read r X Y s p = elim (cases_lt p (size rule (length X))) [
    | inl l ↦ (let k = get_exists (node_digests h rule X) p (omega (arith, l, digests_length h rule X)) in
        step_old h rule r X Y s p l ∙ over_or (get r.overwritten p) (at_node X p) k.0 k.1
        ∙ sym (ap (λ b. option_or (cond b (get r.overwritten p) (slice_get r.appended (p - r.before))) (at_node X p)) (lt-ltb p r.before (omega (arith, l, s.before)))))
    | inr l ↦
        step_new h rule r X Y s p l ∙ ap (λ n. slice_get r.appended (p - n)) (sym s.before) ∙ sym (or_nothing (slice_get r.appended (p - r.before)))
        ∙ ap (λ o. option_or (slice_get r.appended (p - r.before)) o) (sym (slice_get_past (node_digests h rule X) p (omega (arith, l, digests_length h rule X))))
        ∙ sym (ap (λ b. option_or (cond b (get r.overwritten p) (slice_get r.appended (p - r.before))) (at_node X p)) (le-ltb p r.before (omega (arith, l, s.before))))
  ]

  -- a node of the last list is what its newest writer has for it, else what it was in the first
  pub newest_read : (rs : List (RecordModel D)) (X : List D) (ls : List (List D)) (p : ℕ) → IsHistory h rule rs (X ∷ ls) → at_node (last_list (X ∷ ls)) p ≡ option_or (newest rs p) (at_node X p)
  newest_read [] X [] p s = refl
  newest_read [] X (Y ∷ ls) p s = absurd s
  newest_read (r ∷ rs) X [] p s = absurd s
  newest_read (r ∷ rs) X (Y ∷ ls) p s = newest_read rs Y ls p s.1 ∙ ap (λ o. option_or (newest rs p) o) (step_read r X Y s.0 p) ∙ sym (or_assoc (newest rs p) (written r p) (at_node X p))

  -- what no record has a digest for is the same in each list
  pub unwritten : (rs : List (RecordModel D)) (X : List D) (ls : List (List D)) (p j : ℕ) (W : List D) → IsHistory h rule rs (X ∷ ls)
      → newest rs p ≡ None → slice_get (X ∷ ls) j ≡ Some W → at_node W p ≡ at_node X p
  unwritten rs X ls p zero W s e g = (let d : X ≡ W = cc in ap (λ Z. at_node Z p) (sym d))
  unwritten [] X [] p (suc j) W s e g = absurd (cc)
  unwritten [] X (Y ∷ ls) p (suc j) W s e g = absurd s
  unwritten (r ∷ rs) X [] p (suc j) W s e g = absurd s
  unwritten (r ∷ rs) X (Y ∷ ls) p (suc j) W s e g =
      (let n = both_none (newest rs p) (written r p) e in
      unwritten rs Y ls p j W s.1 n.0 g ∙ step_read r X Y s.0 p ∙ ap (λ o. option_or o (at_node X p)) n.1)

  from_kept : (b : Bool) (o : Option D) (d : D) → cond b o None ≡ Some d → o ≡ Some d
  from_kept true o d e = e
  from_kept false o d e = absurd (cc)

  module _ (rs : List (RecordModel D)) (X : List D) (ls : List (List D)) (base : Contents D) (j : ℕ) (W : List D)
      (stands : IsHistory h rule rs (X ∷ ls)) (there : slice_get (X ∷ ls) j ≡ Some W) (agrees : Agrees h rule base W) where
    -- over a base that agrees with one of the lists: what is read is the digest of the last list
    pub read_right : (p : ℕ) (d : D) → read_over rs base p ≡ Some d → at_node (last_list (X ∷ ls)) p ≡ Some d
    read_right p d e = elim (none_or_some (newest rs p)) [
      | inl n ↦ (let f : base.node p ≡ Some d = ap (λ o. option_or o (base.node p)) (sym n) ∙ e in
          newest_read rs X ls p stands ∙ ap (λ o. option_or o (at_node X p)) n ∙ sym (unwritten rs X ls p j W stands n there)
          ∙ from_kept (is_kept rule base.boundary p) (at_node W p) d (sym (agrees.holds p) ∙ f))
      | inr k ↦ newest_read rs X ls p stands ∙ ap (λ o. option_or o (at_node X p)) k.1 ∙ sym (ap (λ o. option_or o (base.node p)) k.1) ∙ e
    ]

    -- and what the base's boundary keeps is read
    pub read_kept : (p : ℕ) → is_kept rule base.boundary p ≡ true → read_over rs base p ≡ at_node (last_list (X ∷ ls)) p
    read_kept p e = elim (none_or_some (newest rs p)) [
      | inl n ↦ ap (λ o. option_or o (base.node p)) n ∙ agrees.holds p ∙ ap (λ b. cond b (at_node W p) None) e ∙ unwritten rs X ls p j W stands n there
          ∙ sym (newest_read rs X ls p stands ∙ ap (λ o. option_or o (at_node X p)) n)
      | inr k ↦ ap (λ o. option_or o (base.node p)) k.1 ∙ sym (newest_read rs X ls p stands ∙ ap (λ o. option_or o (at_node X p)) k.1)
    ]

  -- ---- what is computed
  -- the digest of a merged node is made of those of its children
  pub made : (Y : List D) (p : ℕ) (l r : Tree) (a b : D) → slice_get (forest rule (length Y)).nodes p ≡ Some (join p l r)
      → at_node Y (position l) ≡ Some a → at_node Y (position r) ≡ Some b → at_node Y p ≡ Some (h.node p a b)
  made Y p l r a b e x y =
      let t = node_built rule (length Y) p (join p l r) e in
      let f : digest_at h Y l ≡ a = (let m : Some (digest_at h Y l) ≡ Some a = sym (node_digest_at h rule Y (position l) l (built_at (forest rule (length Y)).nodes l t.4)) ∙ x in cc) in
      let g : digest_at h Y r ≡ b = (let m : Some (digest_at h Y r) ≡ Some b = sym (node_digest_at h rule Y (position r) r (built_at (forest rule (length Y)).nodes r t.5)) ∙ y in cc) in
      node_digest_at h rule Y p (join p l r) e ∙ ap (λ d. Some (h.node p d (digest_at h Y r))) f ∙ ap (λ d. Some (h.node p a d)) g

  pub edited_longer : (r : RecordModel D) (X : List D) → length X ≤ length (edited rule r X)
  edited_longer r X = omega (arith, length-append (replaced rule (get r.overwritten) 0 X) (leaves_among rule (length X) r.before r.appended), replaced_length rule (get r.overwritten) 0 X)

  -- an old node that is neither overwritten nor an ancestor of an overwritten leaf keeps its digest
  pub unchanged : (r : RecordModel D) (X : List D) (p : ℕ) (t : Tree) → slice_get (forest rule (length X)).nodes p ≡ Some t
      → is_dirty (get r.overwritten) t ≡ false → at_node (edited rule r X) p ≡ at_node X p
  unchanged r X p t e u =
      node_digest_at h rule (edited rule r X) p t (node_stays rule (length X) (length (edited rule r X)) p t (edited_longer r X) e)
      ∙ ap Some (digest_kept h rule r X t (node_built rule (length X) p t e) u) ∙ sym (node_digest_at h rule X p t e)
