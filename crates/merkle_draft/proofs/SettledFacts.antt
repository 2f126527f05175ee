-- Nodes that have their digest after the changes, and how one more gets it.
use Rattle.std.proofs.Common.{◌≡◌, ℕ, ◌+◌, ◌-◌, ◌<◌, ◌⊎◌, List, length, Option, Some, None, true, false, cond, slice_get, arith, refl, sym, ap, inl, inr, ◌∙◌}
use Rattle.std.specs.Prelude.{is_some, nat_le, nat_lt}
use Rattle.std.specs.List.{Contains}
use Rattle.std.specs.Option.{option_or}
use Rattle.std.proofs.lemmas.Bool.{lt-ltb, or_parts}
use Rattle.std.proofs.lemmas.Bool.Decides.{nat_tests}
use Rattle.merkle_base.specs.Tree.{Tree, leaf, join, position, IsBuilt}
use Rattle.merkle_base.specs.Forest.{forest, size}
use Rattle.merkle_base.specs.Hashing.{Hashing}
use Rattle.merkle_base.specs.Places.{AreChildren}
use Rattle.merkle_base.proofs.Cases.{by_test}
use Rattle.merkle_base.proofs.Growth.{forest_grown, built_at}
use Rattle.merkle_base.proofs.Nodes.{node_built}
use Rattle.merkle_batch_theory.proofs.OptionFacts.{none_of, or_some, or_second}
use Rattle.merkle_batch_theory.specs.Contents.{Contents}
use Rattle.merkle_batch_theory.specs.History.{is_dirty}
use Rattle.merkle_draft.specs.DraftReads.{DraftModel, below, stored_node}
use Rattle.merkle_draft.specs.NewDigests.{LacksChild, is_written, new_digest, of_both}
use Rattle.merkle_draft.specs.Settled.{AreSettled, IsReady, draft_node}
use Rattle.merkle_draft.specs.declared.node_error.NodeError.{NodeError}
use Rattle.merkle_draft.specs.declared.node_error.NodeError.TheVariants.{Missing}

lt_from : (a b : ℕ) → nat_le a b ≡ false → b < a
lt_from a b e = grind (arith, nat_tests)

module _ {D : Type 0} (h : Hashing D) (rule : List ℕ → List ℕ) (m under : ℕ → Option D) (n : ℕ) (ds : List D) where
  -- a node that isn't written keeps what is read below
  pub unwritten_digest : (t : Tree) → is_written rule m n t ≡ false → new_digest h rule m under n ds t ≡ under (position t)
  unwritten_digest (leaf p k) e =
      let w = or_parts (nat_le (size rule n) p) (is_some (m p)) e in
      ap (λ b. cond b (slice_get ds (k - n)) (option_or (m p) (under p))) w.0 ∙ or_second (m p) (under p) (none_of (m p) w.1)
  unwritten_digest (join p l r) e = ap (λ b. cond b (of_both (h.node p) (new_digest h rule m under n ds l) (new_digest h rule m under n ds r)) (under p)) e

  -- and stands before the new ones
  pub unwritten_old : (t : Tree) → is_written rule m n t ≡ false → (position t < size rule n) × (is_dirty m t ≡ false)
  unwritten_old t e = (let w = or_parts (nat_le (size rule n) (position t)) (is_dirty m t) e in (lt_from (size rule n) (position t) w.0, w.1))

  -- a node that isn't still to be computed reads as its digest after the changes
  pub settled_read : (d : DraftModel D) (base : Contents D) (todo : List ℕ) → under ≡ below d base → size rule n ≡ d.before → AreSettled h rule m under n ds todo (stored_node d) →
      (p : ℕ) (t : Tree) → slice_get (forest rule (n + length ds)).nodes p ≡ Some t → (Contains todo p → ⊥) → draft_node d base p ≡ new_digest h rule m under n ds t
  settled_read d base todo same sized settled p t at free = elim (settled p t at) [
    | inl c ↦ absurd (free c)
    | inr w ↦ by_test (λ b. is_written rule m n t ≡ b → draft_node d base p ≡ new_digest h rule m under n ds t) (is_written rule m n t)
        (λ b c. (let is : stored_node d p ≡ new_digest h rule m under n ds t = w.0 ∙ ap (λ x. cond x (new_digest h rule m under n ds t) None) b in
        ap (λ o. option_or o (cond (nat_lt p d.before) (below d base p) None)) is ∙ or_some (new_digest h rule m under n ds t) (cond (nat_lt p d.before) (below d base p) None) (w.1 b)))
        (λ b c. (let none : stored_node d p ≡ None = w.0 ∙ ap (λ x. cond x (new_digest h rule m under n ds t) None) b in
        let place : position t ≡ p = (forest_grown rule (n + length ds)).placed p t at in
        let old : position t < size rule n = (unwritten_old t b).0 in
        let less : nat_lt p d.before ≡ true = lt-ltb p d.before (omega (arith, place, old, sized)) in
        ap (λ o. option_or o (cond (nat_lt p d.before) (below d base p) None)) none ∙ ap (λ x. cond x (below d base p) None) less
        ∙ ap (λ f. f p) (sym same) ∙ ap under (sym place) ∙ sym (unwritten_digest t b))) refl
  ]

  -- a child of a ready node that is not read is a child that is not there
  pub ready_missing : {F : Type 0} (d : DraftModel D) (base : Contents D) (k : ℕ) (todo : List ℕ) → under ≡ below d base → size rule n ≡ d.before
      → AreSettled h rule m under n ds todo (stored_node d) →
      (p q l r : ℕ) → IsReady rule m n (n + length ds) k todo p → AreChildren rule p l r → (q ≡ l) ⊎ (q ≡ r) → draft_node d base q ≡ None
      → (e : NodeError F) → e ≡ Missing q → LacksChild rule m under n (n + length ds) e
  ready_missing {F} d base k todo same sized settled p q l r ready children which none e error =
      let a : Tree = ready.0 in
      let b : Tree = ready.1 in
      let at : slice_get (forest rule (n + length ds)).nodes p ≡ Some (join p a b) = ready.2 in
      let built = node_built rule (n + length ds) p (join p a b) at in
      let kids = children (n + length ds) a b at in
      let of_child : (u : Tree) → IsBuilt (forest rule (n + length ds)).nodes u → (Contains todo (position u) → ⊥) → (u ≡ a) ⊎ (u ≡ b) → q ≡ position u → LacksChild rule m under n (n + length ds) e =
      λ u there free child place.
      (let read : None ≡ new_digest h rule m under n ds u = sym none ∙ ap (draft_node d base) place
      ∙ settled_read d base todo same sized settled (position u) u (built_at (forest rule (n + length ds)).nodes u there) free in
      let unwritten : is_written rule m n u ≡ false = by_test (λ c. is_written rule m n u ≡ c → c ≡ false) (is_written rule m n u)
      (λ c i. elim (settled (position u) u (built_at (forest rule (n + length ds)).nodes u there)) [
        | inl x ↦ absurd (free x)
        | inr w ↦ absurd (let f : false ≡ true = ap is_some read ∙ w.1 c in cc)
      ])
      (λ c i. refl) refl in
      let old = unwritten_old u unwritten in
      (u, (p, a, b, at, ready.4, child), old.0, old.1, (error ∙ ap Missing place, sym (read ∙ unwritten_digest u unwritten)))) in
      elim which [
        | inl i ↦ of_child a built.4 ready.5 (inl refl) (i ∙ kids.0)
        | inr i ↦ of_child b built.5 ready.6 (inr refl) (i ∙ kids.1)
      ]
