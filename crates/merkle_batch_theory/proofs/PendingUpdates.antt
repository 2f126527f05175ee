-- Updates of a batch that is not merkleized yet, and why one is refused.
use Rattle.std.proofs.Common.{◌≡◌, ℕ, suc, ◌+◌, ◌-◌, ◌<◌, ◌≤◌, List, [], ◌∷◌, ◌++◌, length, set, drop, get_or, Some, None, true, cond, slice_get, arith, refl}
use Rattle.std.proofs.Common.{sym, ap, inl, inr, ◌∙◌, ltb, add-one, append_assoc}
use Rattle.std.proofs.Math.Seq.{drop-cons}
use Rattle.std.specs.Prelude.{is_some, ◌==◌}
use Rattle.std.specs.Option.{option_or}
use Rattle.std.specs.Map.{lookup}
use Rattle.std.specs.BTreeMap.{is_at}
use Rattle.std.specs.Ordering.{nat_cmp, is_eq}
use Rattle.std.specs.Cmp.{nat_cmp_total, unsigned_tied}
use Rattle.std.specs.FinMap.{FinMap, get, insert, from_entries, get-insert, get-from_entries, same_map, nat_cmp-IsAntisymmetric}
use Rattle.std.proofs.lemmas.Bool.{eq-eqb, ne_eqb, eqb-true, le-leb, lt-leb, lt-ltb, le-ltb, cases_lt, cases_eq}
use Rattle.std.proofs.lemmas.Bool.Decides.{nat_tests}
use Rattle.std.proofs.lemmas.List.{length-set, set-append_left, set-append_right}
use Rattle.merkle_base.specs.Forest.{size}
use Rattle.merkle_base.proofs.Nodes.{size_inj}
use Rattle.merkle_base.specs.declared.error.Error.TheVariants as error
use Rattle.merkle_batch_theory.specs.Unmerkleized.{UnmerkleizedModel, IsUnmerkleizedValid, leaf_total, with_update, with_updates, update_error, first_error, pending_list, with_entries, with_leaves}
use Rattle.merkle_batch_theory.specs.Held.{overwritten_by}
use Rattle.merkle_batch_theory.specs.History.{replaced}
use Rattle.merkle_batch_theory.proofs.Steps.{replaced_length}
use Rattle.merkle_batch_theory.proofs.Edits.{same_gets, get_set_same, get_set_other, replaced_get}
use Rattle.merkle_batch_theory.proofs.Stored.{find_lookup, lookup_at}
use Rattle.merkle_base.proofs.Cases.{by_test}
use Rattle.merkle_batch_theory.proofs.MapFacts.{inserted_at}
use Rattle.merkle_base.proofs.Lists.{get_exists}

turned : (p q : ℕ) → is_eq (nat_cmp p q) ≡ is_eq (nat_cmp q p)
turned p q = unsigned_tied p q ∙ same ∙ sym (unsigned_tied q p)
  where
    same : p == q ≡ q == p
    same = grind (arith, nat_tests)

-- a map that was put into, by position
pub entries_inserted : {D : Type 0} (es fs : List (ℕ × D)) (k : ℕ) (d : D)
    → ((q : ℕ) → lookup (is_at (nat_cmp q)) fs ≡ cond (is_at (nat_cmp k) q) (Some d) (lookup (is_at (nat_cmp q)) es))
    → from_entries {R = nat_cmp} fs ≡ insert (from_entries es) k d
entries_inserted es fs k d e = same_map nat_cmp_total nat_cmp-IsAntisymmetric (from_entries fs) (insert (from_entries es) k d) (λ q.
    get-from_entries nat_cmp_total fs q ∙ find_lookup q fs ∙ sym (lookup_at q fs) ∙ e q
    ∙ ap (λ o. cond (is_eq (nat_cmp k q)) (Some d) o) (lookup_at q es ∙ sym (find_lookup q es) ∙ sym (get-from_entries nat_cmp_total es q))
    ∙ ap (λ b. cond b (Some d) (get (from_entries {R = nat_cmp} es) q)) (turned k q) ∙ sym (get-insert nat_cmp_total (from_entries es) k d q))

module _ {D : Type 0} (rule : List ℕ → List ℕ) where
  -- ---- one update
  abbrev pub over_old : UnmerkleizedModel D → FinMap nat_cmp D → UnmerkleizedModel D
  over_old p m = record { parent = p.parent; leaves_before = p.leaves_before; added = p.added; overwritten = m; forgotten = p.forgotten }

  abbrev pub over_new : UnmerkleizedModel D → List D → UnmerkleizedModel D
  over_new p ds = record { parent = p.parent; leaves_before = p.leaves_before; added = ds; overwritten = p.overwritten; forgotten = p.forgotten }

  pub updated_old : (p : UnmerkleizedModel D) (k : ℕ) (d : D) → k < p.leaves_before → with_update rule p k d ≡ over_old p (insert p.overwritten (size rule k) d)
  updated_old p k d l = ap (λ b. cond b (over_old p (insert p.overwritten (size rule k) d)) (over_new p (set p.added (k - p.leaves_before) d))) (lt-ltb k p.leaves_before l)

  pub updated_new : (p : UnmerkleizedModel D) (k : ℕ) (d : D) → p.leaves_before ≤ k → with_update rule p k d ≡ over_new p (set p.added (k - p.leaves_before) d)
  updated_new p k d l = ap (λ b. cond b (over_old p (insert p.overwritten (size rule k) d)) (over_new p (set p.added (k - p.leaves_before) d))) (le-ltb k p.leaves_before l)

  -- an old leaf's update keeps the invariant
  pub old_kept : (max_leaves : ℕ) (p : UnmerkleizedModel D) (k : ℕ) (d : D) (m : FinMap nat_cmp D) → IsUnmerkleizedValid rule max_leaves p
      → k < p.leaves_before → m ≡ insert p.overwritten (size rule k) d → IsUnmerkleizedValid rule max_leaves (over_old p m)
  old_kept max_leaves p k d m is l e = record {
    bounded = is.bounded;
    sized = is.sized;
    leaves = λ q some. there q (sym (ap (λ n. is_some (get n q)) e ∙ ap is_some (inserted_at p.overwritten (size rule k) d q)) ∙ some);
    forgotten = is.forgotten;
  }
    where
      there : (q : ℕ) → is_some (cond (q == size rule k) (Some d) (get p.overwritten q)) ≡ true → (j : ℕ) × (j < p.leaves_before) × (q ≡ size rule j)
      there q some = by_test (λ b. is_some (cond b (Some d) (get p.overwritten q)) ≡ true → (j : ℕ) × (j < p.leaves_before) × (q ≡ size rule j)) (q == size rule k)
          (λ t _. (k, l, eqb-true q (size rule k) t)) (λ t s. is.leaves q s) some

  -- ---- what it does to the list
  old_list : (m : FinMap nat_cmp D) (X : List D) (k : ℕ) (d : D) → k < length X → replaced rule (get (insert m (size rule k) d)) 0 X ≡ set (replaced rule (get m) 0 X) k d
  old_list m X k d l = same_gets (replaced rule (get (insert m (size rule k) d)) 0 X) (set (replaced rule (get m) 0 X) k d) (λ i.
      replaced_get rule (get (insert m (size rule k) d)) 0 X i ∙ ap (λ (j : ℕ). overwritten_by (get (insert m (size rule k) d) (size rule j)) (slice_get X i)) (zero_more i)
      ∙ ap (λ o. overwritten_by o (slice_get X i)) (inserted_at m (size rule k) d (size rule i)) ∙ here i)
    where
      zero_more : (i : ℕ) → 0 + i ≡ i
      zero_more i = omega arith

      here : (i : ℕ) → overwritten_by (cond (size rule i == size rule k) (Some d) (get m (size rule i))) (slice_get X i) ≡ slice_get (set (replaced rule (get m) 0 X) k d) i
      here i = elim (cases_eq i k) [
        | inl q ↦ (let v = get_exists X i (omega (arith, q, l)) in
            ap (λ t. overwritten_by (cond t (Some d) (get m (size rule i))) (slice_get X i)) (eq-eqb (size rule i) (size rule k) (ap (size rule) q)) ∙ ap (overwritten_by (Some d)) v.1
            ∙ sym (ap (slice_get (set (replaced rule (get m) 0 X) k d)) q ∙ get_set_same (replaced rule (get m) 0 X) k d (omega (arith, l, replaced_length rule (get m) 0 X))))
        | inr q ↦
            ap (λ t. overwritten_by (cond t (Some d) (get m (size rule i))) (slice_get X i)) (ne_eqb (size rule i) (size rule k) (λ e. q (size_inj rule i k e)))
            ∙ ap (λ (j : ℕ). overwritten_by (get m (size rule j)) (slice_get X i)) (sym (zero_more i)) ∙ sym (replaced_get rule (get m) 0 X i) ∙ sym (get_set_other (replaced rule (get m) 0 X) k i d q)
      ]

  pub update_list : (p : UnmerkleizedModel D) (k : ℕ) (d : D) (X : List D) → length X ≡ p.leaves_before → pending_list rule (with_update rule p k d) X ≡ set (pending_list rule p X) k d
  update_list p k d X e = elim (cases_lt k p.leaves_before) [
    | inl l ↦
        ap (λ q. pending_list rule q X) (updated_old p k d l) ∙ ap (λ xs. xs ++ p.added) (old_list p.overwritten X k d (omega (arith, e, l)))
        ∙ sym (set-append_left (replaced rule (get p.overwritten) 0 X) p.added k d (omega (arith, e, l, replaced_length rule (get p.overwritten) 0 X)))
    | inr l ↦
        ap (λ q. pending_list rule q X) (updated_new p k d l)
        ∙ sym (set-append_right (replaced rule (get p.overwritten) 0 X) p.added p.leaves_before k d (omega (arith, e, replaced_length rule (get p.overwritten) 0 X)) l)
  ]

  -- added leaves stand at its end
  pub leaves_list : (p : UnmerkleizedModel D) (ds : List D) (X : List D) → pending_list rule (with_leaves p ds) X ≡ pending_list rule p X ++ ds
  leaves_list p ds X = sym (append_assoc (replaced rule (get p.overwritten) 0 X) p.added ds)

  -- ---- errors
  pub out_of_bounds : {F : Type 0} (p : UnmerkleizedModel D) (k : ℕ) → leaf_total p ≤ k → update_error {F = F} rule p k ≡ Some (error.LeafOutOfBounds k)
  out_of_bounds p k l = ap (λ b. cond b (Some (error.LeafOutOfBounds k)) (cond (ltb k p.parent.boundary) (Some (error.ElementPruned (size rule k))) None)) (le-leb (leaf_total p) k l)

  pub pruned_error : {F : Type 0} (p : UnmerkleizedModel D) (k : ℕ) → k < leaf_total p → k < p.parent.boundary → update_error {F = F} rule p k ≡ Some (error.ElementPruned (size rule k))
  pruned_error p k l m =
      ap (λ b. cond b (Some (error.LeafOutOfBounds k)) (cond (ltb k p.parent.boundary) (Some (error.ElementPruned (size rule k))) None)) (lt-leb (leaf_total p) k l)
      ∙ ap (λ b. cond b (Some (error.ElementPruned (size rule k))) None) (lt-ltb k p.parent.boundary m)

  -- an update keeps the number of leaves and the parent
  pub total_kept : (p : UnmerkleizedModel D) (k : ℕ) (d : D) → leaf_total (with_update rule p k d) ≡ leaf_total p
  total_kept p k d = by_test (λ b. leaf_total (cond b (over_old p (insert p.overwritten (size rule k) d)) (over_new p (set p.added (k - p.leaves_before) d))) ≡ leaf_total p) (ltb k p.leaves_before)
      (λ _. refl) (λ _. ap (λ (n : ℕ). p.leaves_before + n) (length-set p.added (k - p.leaves_before) d))

  pub parent_kept : (p : UnmerkleizedModel D) (k : ℕ) (d : D) → (with_update rule p k d).parent ≡ p.parent
  parent_kept p k d = by_test (λ b. (cond b (over_old p (insert p.overwritten (size rule k) d)) (over_new p (set p.added (k - p.leaves_before) d))).parent ≡ p.parent) (ltb k p.leaves_before)
      (λ _. refl) (λ _. refl)

  before_kept : (p : UnmerkleizedModel D) (k : ℕ) (d : D) → (with_update rule p k d).leaves_before ≡ p.leaves_before
  before_kept p k d = by_test (λ b.
      (cond b (over_old p (insert p.overwritten (size rule k) d)) (over_new p (set p.added (k - p.leaves_before) d))).leaves_before ≡ p.leaves_before)
      (ltb k p.leaves_before)
      (λ _. refl) (λ _. refl)

  -- ---- several updates
  pub error_next : {F : Type 0} (p : UnmerkleizedModel D) (us : List (ℕ × D)) (i : ℕ) (u : ℕ × D) → i < length us → u ≡ get_or us i u
      → first_error {F = F} rule p (drop i us) ≡ option_or (update_error rule p u.0) (first_error rule p (drop (i + 1) us))
  error_next {F = F} p us i u l e =
      ap (first_error {F = F} rule p) (drop-cons us i u l) ∙ ap (λ v. option_or (update_error rule p v.0) (first_error rule p (drop (suc i) us))) (sym e)
      ∙ ap (λ (n : ℕ). option_or (update_error rule p u.0) (first_error rule p (drop n us))) (sym (add-one i))

  pub updates_next : (p : UnmerkleizedModel D) (us : List (ℕ × D)) (i : ℕ) (u : ℕ × D) → i < length us → u ≡ get_or us i u
      → with_updates rule p (drop i us) ≡ with_updates rule (with_update rule p u.0 u.1) (drop (i + 1) us)
  updates_next p us i u l e =
      ap (with_updates rule p) (drop-cons us i u l) ∙ ap (λ v. with_updates rule (with_update rule p v.0 v.1) (drop (suc i) us)) (sym e)
      ∙ ap (λ (n : ℕ). with_updates rule (with_update rule p u.0 u.1) (drop n us)) (sym (add-one i))

  pub updates_list : (p : UnmerkleizedModel D) (us : List (ℕ × D)) (X : List D) → length X ≡ p.leaves_before → pending_list rule (with_updates rule p us) X ≡ with_entries (pending_list rule p X) us
  updates_list p [] X e = refl
  updates_list p (u ∷ us) X e = updates_list (with_update rule p u.0 u.1) us X (e ∙ sym (before_kept p u.0 u.1)) ∙ ap (λ xs. with_entries xs us) (update_list p u.0 u.1 X e)
