-- The batch of all leaves of a list, over the structure without leaves.
use Rattle.std.proofs.Common.{◌≡◌, ℕ, ◌-◌, suc, Bool, false, not, cond, ◌&&◌, ◌==◌, nat_lt, le-ltb, List, [], ◌∷◌, ◌++◌, map, take, drop, length}
use Rattle.std.proofs.Common.{refl, ap, ap₂, sym, ◌∙◌, subst, arith, Option, Some, option_map, slice_get}
use Rattle.std.proofs.lemmas.Option.{slice_get-map}
use Rattle.std.specs.FinMap.{get, len-empty}
use Rattle.std.specs.Ordering.{nat_cmp}
use Rattle.std.specs.List.{AllByRecursion}
use Rattle.std.specs.Option.{unwrap_or}
use Rattle.merkle_base.specs.Digests.{digest_at, node_digests, peak_digests}
use Rattle.merkle_base.specs.Forest.{forest}
use Rattle.merkle_base.specs.Hashing.{Hashing}
use Rattle.merkle_base.specs.Places.{peaks_of}
use Rattle.merkle_base.specs.Scheme.{Scheme}
use Rattle.merkle_base.specs.Tree.{Tree, leaf, join, position, IsBuilt}
use Rattle.merkle_base.proofs.Lookup.{size_zero}
use Rattle.merkle_base.proofs.PeakLists.{peaks_built}
use Rattle.merkle_batch_theory.specs.Contents.{Contents, Agrees, AgreesWithOne}
use Rattle.merkle_batch_theory.specs.History.{IsHistory, last_list}
use Rattle.merkle_batch_theory.specs.Read.{newest}
use Rattle.merkle_batch_theory.specs.Records.{RecordModel, MerkleizedModel, records}
use Rattle.merkle_batch_theory.specs.Roots.{root_batch}
use Rattle.merkle_batch_theory.specs.Unmerkleized.{UnmerkleizedModel, is_changed, forked, with_leaves, kept_lists, pending_list}
use Rattle.merkle_hasher.specs.Subtrees.{subtree_of}
use Rattle.merkle_hasher.specs.declared.subtree.Subtree.{Subtree}
use Rattle.merkle_root_theory.specs.Expression.{Place, Input}
use Rattle.merkle_root_theory.specs.Range.{list_inputs}
use Rattle.merkle_audit_theory.specs.Searches.{input_at}
use Rattle.merkle_audit_theory.specs.Seen.{children_of, Sees}
use Rattle.merkle_audit_theory.proofs.SeenNodes.{list_sees}
use Rattle.merkle_walk_theory.specs.Compared.{Lists}
use Rattle.merkle_audit_parts.specs.Listed.{digest_in, IsOfList}

-- ---- the history of a batch that adds a list to no leaves
module _ {D : Type 0} (h : Hashing D) (rule : List ℕ → List ℕ) (c : Contents D) (X : List D) (b : MerkleizedModel D) where
  abbrev Stands : UnmerkleizedModel D → Type 0
  Stands q = (ls : List (List D)) → IsHistory h rule (records q.parent) ls → AgreesWithOne h rule c (kept_lists q ls)
      → IsHistory h rule (records b) (kept_lists q ls ++ pending_list rule q (last_list ls) ∷ [])

  pub added_history : (q : UnmerkleizedModel D) → q ≡ with_leaves (forked (root_batch rule 0 c)) X → Agrees h rule c [] → IsHistory h rule (records (root_batch rule 0 c)) ([] ∷ [] ∷ [])
      → Stands q → IsHistory h rule (records b) ([] ∷ X ∷ [])
  added_history q e agrees before = subst (λ p. Stands p → IsHistory h rule (records b) ([] ∷ X ∷ [])) (sym e) (λ w. rebased (w ([] ∷ [] ∷ []) before agreed))
    where
      nothing : is_changed (root_batch rule 0 c).own ≡ false
      nothing = ap (λ n. not ((0 == 0) && (n == 0))) (len-empty nat_cmp D)

      one_list : (v : Bool) → v ≡ false → take {A = List D} (suc (length (cond v ((root_batch rule 0 c).own ∷ []) []))) ([] ∷ [] ∷ []) ≡ [] ∷ []
      one_list v e = ap (λ w. take {A = List D} (suc (length (cond w ((root_batch rule 0 c).own ∷ []) []))) ([] ∷ [] ∷ [])) e

      lists : kept_lists (with_leaves (forked (root_batch rule 0 c)) X) ([] ∷ [] ∷ []) ≡ [] ∷ []
      lists = one_list (is_changed (root_batch rule 0 c).own) nothing

      agreed : AgreesWithOne h rule c (kept_lists (with_leaves (forked (root_batch rule 0 c)) X) ([] ∷ [] ∷ []))
      agreed = subst (AgreesWithOne h rule c) (sym lists) (0, [], refl, agrees)

      rebased : IsHistory h rule (records b)
          (kept_lists (with_leaves (forked (root_batch rule 0 c)) X) ([] ∷ [] ∷ [])
          ++ pending_list rule (with_leaves (forked (root_batch rule 0 c)) X) (last_list {D = D} ([] ∷ [] ∷ [])) ∷ [])
          → IsHistory h rule (records b) ([] ∷ X ∷ [])
      rebased = subst (λ ls. IsHistory h rule (records b) (ls ++ X ∷ [])) lists

-- ---- its nodes
module _ {D : Type 0} (h : Hashing D) (rule : List ℕ → List ℕ) (X : List D) where
  node_in : (rs : List (RecordModel D)) → IsHistory h rule rs ([] ∷ X ∷ []) → (p : ℕ) → newest rs p ≡ slice_get (node_digests h rule X) p
  node_in [] w p = elim w [ ]
  node_in (r ∷ []) w p = at_first r.before (w.0.before ∙ size_zero rule) w.0.appended
    where
      at_first : (n : ℕ) → n ≡ 0 → r.appended ≡ drop n (node_digests h rule X) → cond (nat_lt p n) (get r.overwritten p) (slice_get r.appended (p - n)) ≡ slice_get (node_digests h rule X) p
      at_first n z e =
          ap₂ (λ m xs. cond (nat_lt p m) (get r.overwritten p) (slice_get xs (p - m))) z (e ∙ ap (λ m. drop m (node_digests h rule X)) z)
          ∙ ap₂ (λ v m. cond v (get r.overwritten p) (slice_get (node_digests h rule X) m)) (le-ltb p 0 (omega arith)) (omega arith)
  node_in (r ∷ q ∷ rs) w p = elim w.1 [ ]

  module _ (none : D) (b : MerkleizedModel D) (of : IsOfList h rule b X) where
    pub digest_is : (t : Tree) → IsBuilt (forest rule (length X)).nodes t → digest_in none b (position t) ≡ digest_at h X t
    digest_is t w =
        ap (λ o. unwrap_or o none) (node_in (records b) of.history (position t) ∙ slice_get-map (digest_at h X) (forest rule (length X)).nodes (position t) ∙ ap (option_map (digest_at h X)) (at t w))
      where
        at : (t : Tree) → IsBuilt (forest rule (length X)).nodes t → slice_get (forest rule (length X)).nodes (position t) ≡ Some t
        at (leaf p i) w = w
        at (join p l r) w = w.0

    digests_are : (F : Type 0) (ts : List Tree) → AllByRecursion (IsBuilt (forest rule (length X)).nodes) ts
        → map (λ (q : Subtree F). digest_in none b q.position) (map subtree_of ts) ≡ map (digest_at h X) ts
    digests_are F [] w = refl
    digests_are F (t ∷ ts) w = ap₂ (λ x xs. x ∷ xs) (digest_is t w.0) (digests_are F ts w.1)

    pub peaks_are : {F : Type 0} (subs : List (Subtree F)) → subs ≡ map subtree_of (peaks_of rule (length X)) → map (λ (q : Subtree F). digest_in none b q.position) subs ≡ peak_digests h rule X
    peaks_are {F = F} subs e = ap (map (λ (q : Subtree F). digest_in none b q.position)) e ∙ digests_are F (peaks_of rule (length X)) (peaks_built rule (length X))

pub batch_sees : {D : Type 0} (s : Scheme D) (X : List D) (k : ℕ) (none : D) (b : MerkleizedModel D) → IsOfList s.hashing s.rule b X
    → AllByRecursion (λ t. Sees (children_of (digest_in none b)) (input_at (list_inputs s X k)) t) (peaks_of s.rule (length X))
batch_sees s X k none b of = list_sees s X k (digest_in none b) (digest_is s.hashing s.rule X none b of)

module _ {D : Type 0} (e : Tree → Option (D × D)) (f : Place → Option (Input D)) where
  seen_listed : (t : Tree) → Sees e f t → Lists e f t
  seen_listed (leaf p i) w = tt
  seen_listed (join p l r) w = (w.0, seen_listed l w.2, seen_listed r w.3)

  all_listed : (ts : List Tree) → AllByRecursion (λ t. Sees e f t) ts → AllByRecursion (Lists e f) ts
  all_listed [] w = tt
  all_listed (t ∷ ts) w = (seen_listed t w.0, all_listed ts w.1)

pub batch_lists : {D : Type 0} (s : Scheme D) (X : List D) (k : ℕ) (none : D) (b : MerkleizedModel D) → IsOfList s.hashing s.rule b X
    → AllByRecursion (Lists (children_of (digest_in none b)) (input_at (list_inputs s X k))) (peaks_of s.rule (length X))
batch_lists s X k none b of =
    all_listed (children_of (digest_in none b)) (input_at (list_inputs s X k)) (peaks_of s.rule (length X)) (batch_sees s X k none b of)
