-- What a check of scattered leaves hashes at nodes.
use Rattle.std.proofs.Common.{◌≡◌, ℕ, suc, pred, Bool, true, false, cond, ◌||◌, nat_eq, List, [], ◌∷◌, ◌++◌, ◌⊎◌, inl, inr, refl, ap, sym, ◌∙◌, subst, ⊎_elim}
use Rattle.std.proofs.Common.{map, flat_map, take, drop, fold, Option, Some, None, slice_get, unwrap_or}
use Rattle.std.specs.List.{list_any}
use Rattle.std.proofs.lemmas.Bool.{false≢true}
use Rattle.merkle_base.specs.Forest.{forest}
use Rattle.merkle_base.specs.Hashing.{Hashing}
use Rattle.merkle_base.specs.Places.{peaks_of}
use Rattle.merkle_base.specs.Scheme.{Scheme}
use Rattle.merkle_base.specs.Tree.{Tree, leaf, join, IsBuilt, IsUnder}
use Rattle.merkle_base.specs.declared.family.Bagging.{Bagging}
use Rattle.merkle_base.specs.declared.family.Bagging.TheVariants.{ForwardFold, BackwardFold}
use Rattle.merkle_base.proofs.Cases.{by_test}
use Rattle.merkle_base.proofs.Growth.{forest_grown}
use Rattle.merkle_base.proofs.PeakLists.{peaks_built}
use Rattle.merkle_root_theory.specs.Expression.{Node, Argument, Pair, Input, Expression, supplied, computed, value, visited, is_node}
use Rattle.merkle_root_theory.specs.Collision.{Member}
use Rattle.merkle_root_theory.specs.Plan.{tree_meets, peak}
use Rattle.merkle_root_theory.proofs.Collisions.{member_left, member_right}
use Rattle.merkle_claim_theory.specs.MultiClaim.{also, or_empty, multi_tree}
use Rattle.merkle_claim_theory.specs.Multiproof.{MultiInput, multi_positions, locations_in, leaves_in, multi_on}
use Rattle.merkle_base.specs.Table.{digest_for}
use Rattle.merkle_claim_theory.specs.Verdict.{multi_inputs}
use Rattle.merkle_claim_theory.proofs.HonestClaims.{member_split}
use Rattle.merkle_claim_theory.proofs.Multiproofs.{all_member, flat_member, member_flat}
use Rattle.merkle_claim_theory.proofs.PlacesOnce.{member_map}
use Rattle.merkle_audit_theory.specs.Cuts.{places_in}
use Rattle.merkle_audit_theory.specs.Folds.{left_inputs, right_inputs, joined_inputs, fold_inputs, top_inputs, multi_digest}
use Rattle.merkle_audit_theory.specs.NodePairs.{MultiNodes}
use Rattle.merkle_audit_theory.proofs.ClaimCuts.{seen_both}
use Rattle.merkle_audit_theory.proofs.ExtractedNodes.{member_unmap, one_node}
use Rattle.merkle_audit_theory.proofs.LocatedNodes.{member_reverse, above}
use Rattle.merkle_audit_theory.proofs.NodeReads.{meets_up, its_position}
use Rattle.merkle_audit_theory.proofs.PeakInputs.{inputs_by_peaks}

-- ---- no fold is a node
module _ {D : Type 0} (h : Hashing D) where
  left_none : (acc : D) (i : ℕ) (ds : List D) (x : Input D) → Member (left_inputs h acc i ds) x → is_node x.place ≡ false
  left_none acc i [] x m = elim m [ ]
  left_none acc i (d ∷ ds) x m = ⊎_elim (λ w. left_none (h.fold acc d) (suc i) ds x w) (λ w. ⊎_elim (λ e. sym (ap (λ (y : Input D). is_node y.place) e)) (λ z. elim z [ ]) w)
      (member_split (left_inputs h (h.fold acc d) (suc i) ds) _ x m)

  right_none : (i : ℕ) (d : D) (ds : List D) (x : Input D) → Member (right_inputs h i d ds) x → is_node x.place ≡ false
  right_none i d [] x m = elim m [ ]
  right_none i d (e ∷ es) x (inl q) = sym (ap (λ (y : Input D). is_node y.place) q)
  right_none i d (e ∷ es) x (inr m) = right_none (suc i) e es x m

  joined_none : (acc : D) (us : List (Input D)) (i : ℕ) (ds : List D) → ((x : Input D) → Member us x → is_node x.place ≡ false) → (x : Input D)
      → Member (joined_inputs h acc us i ds) x → is_node x.place ≡ false
  joined_none acc us i [] f x m = f x m
  joined_none acc us i (e ∷ es) f x (inl q) = sym (ap (λ (y : Input D). is_node y.place) q)
  joined_none acc us i (e ∷ es) f x (inr m) = ⊎_elim (λ w. f x w) (λ w. right_none i e es x w) (member_split us (right_inputs h i e es) x m)

  folds_none : (b : Bagging) (k : ℕ) (ds : List D) (x : Input D) → Member (fold_inputs h b k ds) x → is_node x.place ≡ false
  folds_none b k [] x m = elim m [ ]
  folds_none ForwardFold k (d ∷ ds) x m = left_none d 1 ds x m
  folds_none BackwardFold k (d ∷ ds) x m =
      joined_none (fold h.fold d (take (pred k) ds)) (left_inputs h d 1 (take (pred k) ds)) (suc (pred k)) (drop (pred k) ds) (left_none d 1 (take (pred k) ds)) x m

top_none : {D : Type 0} (s : Scheme D) (n k : ℕ) (ds : List D) (x : Input D) → Member (top_inputs s n k ds) x → is_node x.place ≡ false
top_none s n k ds x (inl e) = sym (ap (λ (y : Input _). is_node y.place) e)
top_none s n k ds x (inr m) = folds_none s.hashing s.bagging k ds x m

-- ---- the nodes under a peak
module _ {D : Type 0} (h : Hashing D) (a : ℕ → Option D) (c : ℕ → Bool) (Y : ℕ → D) (ns : List Tree) where
  also_visited : (o : Option D) (e : Expression D) → visited h (also o e) ≡ visited h e
  also_visited None e = refl
  also_visited (Some d) e = refl

  abbrev at_tree : Tree → Expression D
  at_tree t = multi_tree h a c Y t

  -- what is hashed at a node
  unfoldable pub Digests : ℕ → Argument D → Type 0
  Digests q x = (l : Tree) × (u : Tree) × (slice_get ns q ≡ Some (join q l u)) × (x ≡ Pair (value h (at_tree l)) (value h (at_tree u))) × (tree_meets c (join q l u) ≡ true)

  one_number : (p q : ℕ) → Node p ≡ Node q → p ≡ q
  one_number p q e = cc

  pub tree_digests : (t : Tree) → IsBuilt ns t → (q : ℕ) (x : Argument D) → Member (visited h (at_tree t)) (record { place = Node q; argument = x }) → Digests q x
  unfolding Digests
  tree_digests (leaf p i) b q x m = absurd (by_test (λ z. Member (visited h (cond z (also (a p) (supplied (Y i))) (supplied (or_empty h (a p))))) (record { place = Node q; argument = x }) → ⊥) (c i)
      (λ _ n. subst (λ us. Member us (record { place = Node q; argument = x })) (also_visited (a p) (supplied (Y i))) n) (λ _ n. n) m)
  tree_digests (join p l r) b q x m =
      let i : Input D = record { place = Node q; argument = x } in
      by_test (λ z. Member (visited h (cond z (also (a p) (computed (Node p) (at_tree l) (at_tree r))) (supplied (or_empty h (a p))))) i → Digests q x) (tree_meets c l || tree_meets c r)
      (λ met n. ⊎_elim
      (λ e. (l, r, subst (λ z. slice_get ns z ≡ Some (join z l r)) (one_number p q (ap (λ (y : Input D). y.place) e)) b.0, sym (ap (λ (y : Input D). y.argument) e), met))
      (λ k. ⊎_elim (λ w. tree_digests l b.4 q x w) (λ w. tree_digests r b.5 q x w) (member_split (visited h (at_tree l)) (visited h (at_tree r)) i k))
      (subst (λ us. Member us i) (also_visited (a p) (computed (Node p) (at_tree l) (at_tree r))) n))
      (λ _ n. absurd n) m

  pub tree_seen : (t : Tree) (q : ℕ) (l u : Tree) → IsUnder (join q l u) t → tree_meets c (join q l u) ≡ true → Member (places_in (visited h (at_tree t))) (Node q)
  tree_seen (leaf p i) q l u w m = absurd (cc)
  tree_seen (join p L R) q l u w m =
      subst (λ z. Member (places_in (visited h (cond z (also (a p) (computed (Node p) (at_tree L) (at_tree R))) (supplied (or_empty h (a p))))))
      (Node q)) (sym (meets_up h c Y ns (join q l u) (join p L R) w m))
      (subst (λ us. Member (places_in us) (Node q)) (sym (also_visited (a p) (computed (Node p) (at_tree L) (at_tree R))))
      (at_side w (λ k. tree_seen L q l u k m) (λ k. tree_seen R q l u k m)))
    where
      at_side : (join q l u ≡ join p L R) ⊎ (IsUnder (join q l u) L ⊎ IsUnder (join q l u) R)
          → (IsUnder (join q l u) L → Member (places_in (visited h (at_tree L))) (Node q)) → (IsUnder (join q l u) R → Member (places_in (visited h (at_tree R))) (Node q))
          → (Node p ≡ Node q) ⊎ Member (places_in (visited h (at_tree L) ++ visited h (at_tree R))) (Node q)
      at_side (inl e) f g = inl (ap Node (its_position h c Y ns q p l u L R e))
      at_side (inr (inl k)) f g = inr (subst (λ z. Member z (Node q)) (sym (seen_both h (at_tree L) (at_tree R))) (member_left _ _ (Node q) (f k)))
      at_side (inr (inr k)) f g = inr (subst (λ z. Member z (Node q)) (sym (seen_both h (at_tree L) (at_tree R))) (member_right (places_in (visited h (at_tree L))) _ (Node q) (g k)))

-- ---- all nodes
module _ {D : Type 0} (s : Scheme D) (r : MultiInput D) where
  abbrev a : ℕ → Option D
  a = digest_for (multi_positions s.rule r.leaves (locations_in r)) r.digests

  abbrev c : ℕ → Bool
  c = λ i. list_any (nat_eq i) (locations_in r)

  abbrev Y : ℕ → D
  Y = λ i. unwrap_or (digest_for (locations_in r) (leaves_in r) i) s.hashing.empty

  abbrev ts : List Tree
  ts = peaks_of s.rule r.leaves

  abbrev ns : List Tree
  ns = (forest s.rule r.leaves).nodes

  abbrev tops : List (Input D)
  tops = top_inputs s r.leaves r.inactive (map (multi_digest s r) ts)

  abbrev lows : List (Input D)
  lows = flat_map (λ t. visited s.hashing (multi_on s r (peak t))) ts

  digests : (q : ℕ) (x : Argument D) → Member (multi_inputs s r) (record { place = Node q; argument = x }) → Digests s.hashing a c Y ns q x
  digests q x m =
      let i : Input D = record { place = Node q; argument = x } in
      ⊎_elim (λ w. let e : true ≡ false = top_none s r.leaves r.inactive (map (multi_digest s r) ts) i w in absurd (false≢true (sym e)))
      (λ w. let v = flat_member (λ t. visited s.hashing (multi_on s r (peak t))) ts i w in
      tree_digests s.hashing a c Y ns v.0 (all_member (IsBuilt ns) ts v.0 (peaks_built s.rule r.leaves) v.1) q x v.2)
      (member_split tops lows i (subst (λ us. Member us i) (inputs_by_peaks.multi s r) m))

  only : (q : ℕ) (l u : Tree) → slice_get ns q ≡ Some (join q l u) → Member (places_in (multi_inputs s r)) (Node q) → tree_meets c (join q l u) ≡ true
  unfolding Digests
  only q l u at m =
      let i = member_unmap (multi_inputs s r) (Node q) m in
      let w = digests q i.0 i.1 in
      let same = one_node q w.0 w.1 l u (sym w.2 ∙ at) in
      subst (λ z. tree_meets c (join q l z) ≡ true) same.1 (subst (λ z. tree_meets c (join q z w.1) ≡ true) same.0 w.4)

  all : (q : ℕ) (l u : Tree) → slice_get ns q ≡ Some (join q l u) → tree_meets c (join q l u) ≡ true → Member (places_in (multi_inputs s r)) (Node q)
  all q l u at met =
      let w = above (join q l u) (forest s.rule r.leaves).peaks ((forest_grown s.rule r.leaves).under q (join q l u) at) in
      let i = member_unmap (visited s.hashing (multi_on s r (peak w.0))) (Node q) (tree_seen s.hashing a c Y ns w.0 q l u w.2 met) in
      let x : Input D = record { place = Node q; argument = i.0 } in
      member_map (λ (y : Input D). y.place) (multi_inputs s r) x (subst (λ us. Member us x) (sym (inputs_by_peaks.multi s r))
      (member_right tops lows x (member_flat (λ t. visited s.hashing (multi_on s r (peak t))) ts w.0 x (member_reverse (forest s.rule r.leaves).peaks w.0 w.1) i.1)))

pub multi_nodes : {D : Type 0} → MultiNodes D
unfolding Digests
multi_nodes = record {
  children = λ s r p x m. let w = digests s r p x m in (w.0, w.1, w.2, w.3);
  hashed = λ s r p l u at. (only s r p l u at, all s r p l u at);
}
