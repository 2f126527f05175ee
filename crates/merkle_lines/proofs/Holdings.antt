-- What a structure holds before and after a request.
use Rattle.std.proofs.Common.{◌≡◌, ℕ, ◌≤◌, List, [], ◌∷◌, length, suc, Option, None, Some, Bool, true, false, cond, arith, refl, sym, ap, ◌∙◌, subst, inl, inr, append-nil}
use Rattle.std.specs.Prelude.{is_some, max, nat_lt, IfSome}
use Rattle.std.specs.Option.{unwrap_or}
use Rattle.std.specs.Ordering.{nat_cmp}
use Rattle.std.specs.FinMap.{get, empty, get-empty}
use Rattle.std.proofs.lemmas.Bool.{cases_lt, lt-ltb, le-ltb}
use Rattle.merkle_base.specs.Forest.{size}
use Rattle.merkle_base.specs.Hashing.{Hashing}
use Rattle.merkle_batch_theory.specs.Contents.{Agrees, is_kept, pruned}
use Rattle.merkle_batch_theory.specs.Unmerkleized.{UnmerkleizedModel, forked}
use Rattle.merkle_batch_theory.specs.Roots.{root_batch}
use Rattle.merkle_batch_theory.specs.History.{replaced}
use Rattle.merkle_batch_theory.specs.MemModel.{MemModel, contents}
use Rattle.merkle_hasher.specs.LeafDigests.{leaf_digests}
use Rattle.merkle_hasher.proofs.LeafDigests.{length-leaf_digests}
use Rattle.merkle_lines.specs.StructureState.{Changes, StructureState, all_committed, changes, pruned_to, with_changes, without_changes}
use Rattle.merkle_lines.specs.Held.{IsStructureHeld, Makes, MakesPending, edited}

-- nothing is replaced
replaced_nothing : {D : Type 0} (rule : List ℕ → List ℕ) (n : ℕ) (X : List D) → replaced rule (get (empty {R = nat_cmp})) n X ≡ X
replaced_nothing rule n [] = refl
replaced_nothing rule n (d ∷ ds) = rw (get-empty nat_cmp (size rule n), replaced_nothing rule (suc n) ds) refl

greater : (a b : ℕ) → cond (nat_lt a b) b a ≡ max a b
greater a b = elim (cases_lt a b) [
  | inl less ↦ ap (λ t. cond t b a) (lt-ltb a b less) ∙ omega (arith, less)
  | inr not_less ↦ ap (λ t. cond t b a) (le-ltb a b not_less) ∙ omega (arith, not_less)
]

module _ {D : Type 0} (h : Hashing D) (rule : List ℕ → List ℕ) (max_leaves : ℕ) (s : MemModel D) (p : Option (UnmerkleizedModel D)) (xs : List D) (es : List (ℕ × D)) (g : StructureState)
    (held : IsStructureHeld h rule max_leaves s p xs es g) where
  abbrev list : List D
  list = leaf_digests h rule 0 g.committed

  pub list_count : s.leaves ≡ length list
  list_count = held.counted ∙ sym (length-leaf_digests h rule 0 g.committed)

  -- the pending batch, or a new one
  pub pending_makes : (b : UnmerkleizedModel D) → p ≡ Some b → Makes h rule list b (changes g)
  pending_makes b e = some_of g.pending (subst (λ q. MakesPending h rule list q g.pending) e held.makes)
    where
      some_of : (o : Option Changes) → MakesPending h rule list (Some b) o → Makes h rule list b (unwrap_or o (record { elements = g.committed; updated = []; boundary = g.boundary }))
      some_of None m = absurd m
      some_of (Some c) m = m

  pub new_makes : (b : UnmerkleizedModel D) → p ≡ None → b ≡ forked (root_batch rule s.leaves (contents s)) → Makes h rule list b (changes g)
  new_makes b e new = none_of g.pending (subst (λ q. MakesPending h rule list q g.pending) e held.makes)
    where
      begun : Changes
      begun = record { elements = g.committed; updated = []; boundary = g.boundary }

      first : Makes h rule list (forked (root_batch rule s.leaves (contents s))) begun
      first = record {
        origin = contents s;
        agreed = held.agrees;
        forked = ap (λ n. root_batch rule n (contents s)) list_count;
        boundary = held.boundary;
        none_forgotten = refl;
        before = list_count;
        elements = append-nil (replaced rule (get (empty {R = nat_cmp})) 0 list) ∙ replaced_nothing rule 0 list;
        updates = λ q. ap is_some (get-empty nat_cmp q);
      }

      none_of : (o : Option Changes) → MakesPending h rule list None o → Makes h rule list b (unwrap_or o begun)
      none_of None m = subst (λ x. Makes h rule list x begun) (sym new) first
      none_of (Some c) m = absurd m

  -- the edits of the pending batch, or none
  pub pending_edits : (b : UnmerkleizedModel D) → p ≡ Some b → edited xs es ≡ leaf_digests h rule 0 (changes g).elements
  pending_edits b e = some_of g.pending (subst (λ q. MakesPending h rule list q g.pending) e held.makes) held.edits_are
    where
      some_of : (o : Option Changes) → MakesPending h rule list (Some b) o → IfSome o (λ c. edited xs es ≡ leaf_digests h rule 0 c.elements)
          → edited xs es ≡ leaf_digests h rule 0 (unwrap_or o (record { elements = g.committed; updated = []; boundary = g.boundary })).elements
      some_of None m is = absurd m
      some_of (Some c) m is = is

  pub no_edits : p ≡ None → xs ≡ leaf_digests h rule 0 (changes g).elements
  no_edits e = none_of g.pending (subst (λ q. MakesPending h rule list q g.pending) e held.makes)
    where
      none_of : (o : Option Changes) → MakesPending h rule list None o → xs ≡ leaf_digests h rule 0 (unwrap_or o (record { elements = g.committed; updated = []; boundary = g.boundary })).elements
      none_of None m = held.listed
      none_of (Some c) m = absurd m

  -- without pending changes
  pub held_without : (t : MemModel D) (q : Option (UnmerkleizedModel D)) (ys : List D) (fs : List (ℕ × D)) → t ≡ s → q ≡ None → ys ≡ xs
      → IsStructureHeld h rule max_leaves t q ys fs (without_changes g)
  held_without t q ys fs e f same =
      subst (λ x. IsStructureHeld h rule max_leaves x q ys fs (without_changes g)) (sym e)
      (subst (λ x. IsStructureHeld h rule max_leaves s x ys fs (without_changes g)) (sym f) (record {
        agrees = held.agrees;
        counted = held.counted;
        bounded = held.bounded;
        boundary = held.boundary;
        makes = tt;
        listed = same ∙ held.listed;
        edits_are = tt;
      }))

  -- with others
  pub held_with : (t : MemModel D) (b : UnmerkleizedModel D) (ys : List D) (fs : List (ℕ × D)) (c : Changes) → t ≡ s → Makes h rule list b c → ys ≡ xs → edited ys fs ≡ leaf_digests h rule 0 c.elements
      → IsStructureHeld h rule max_leaves t (Some b) ys fs (with_changes g c)
  held_with t b ys fs c e m same is = subst (λ x. IsStructureHeld h rule max_leaves x (Some b) ys fs (with_changes g c)) (sym e) (record {
    agrees = held.agrees;
    counted = held.counted;
    bounded = held.bounded;
    boundary = held.boundary;
    makes = m;
    listed = same ∙ held.listed;
    edits_are = is;
  })

  -- with all changes committed
  pub held_all : (t : MemModel D) (q : Option (UnmerkleizedModel D)) (ys : List D) (fs : List (ℕ × D)) → q ≡ None
      → t.leaves ≡ length (changes g).elements → t.leaves ≤ max_leaves → Agrees h rule (contents t) (leaf_digests h rule 0 (changes g).elements) → t.boundary ≡ s.boundary
      → ys ≡ leaf_digests h rule 0 (changes g).elements → IsStructureHeld h rule max_leaves t q ys fs (all_committed g)
  held_all t q ys fs e n few a same is = subst (λ x. IsStructureHeld h rule max_leaves t x ys fs (all_committed g)) (sym e) (record {
    agrees = a;
    counted = n;
    bounded = omega (arith, n, few);
    boundary = same ∙ held.boundary;
    makes = tt;
    listed = is;
    edits_are = tt;
  })

  -- pruned
  pub held_pruned : (t : MemModel D) (k : ℕ) → contents t ≡ pruned rule k (contents s) → t.leaves ≡ s.leaves → Agrees h rule (contents t) list
      → IsStructureHeld h rule max_leaves t p xs es (pruned_to g k)
  held_pruned t k e n a = record {
    agrees = a;
    counted = n ∙ held.counted;
    bounded = held.bounded;
    boundary = ap (λ c. c.boundary) e ∙ moved (nat_lt s.boundary k) ∙ greater s.boundary k ∙ ap (λ b. max b k) held.boundary;
    makes = held.makes;
    listed = held.listed;
    edits_are = held.edits_are;
  }
    where
      moved : (t : Bool) → (cond t (record { boundary = k; size = (contents s).size; node = λ q. cond (is_kept rule k q) ((contents s).node q) None }) (contents s)).boundary ≡ cond t k s.boundary
      moved true = refl
      moved false = refl
