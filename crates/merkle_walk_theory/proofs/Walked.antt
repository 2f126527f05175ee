-- A walk over what a check claims finds the first difference at a node.
use Rattle.std.proofs.Common.{◌≡◌, ℕ, Bool, cond, ◌||◌, List, [], ◌∷◌, ◌++◌, map, flat_map, filter, length, drop, refl, ap, ap₂, sym, ◌∙◌, subst, Option, append_assoc}
use Rattle.std.specs.List.{AllByRecursion}
use Rattle.merkle_base.specs.Hashing.{Hashing}
use Rattle.merkle_base.specs.Places.{peaks_of, wholly_before}
use Rattle.merkle_base.specs.Scheme.{Scheme}
use Rattle.merkle_base.specs.Table.{digest_for}
use Rattle.merkle_base.specs.Tree.{Tree, leaf, join}
use Rattle.merkle_base.proofs.Cases.{by_test}
use Rattle.merkle_root_theory.specs.Check.{chosen, leaf_given, range_inputs, in_range}
use Rattle.merkle_root_theory.specs.Claim.{next, tree_claim}
use Rattle.merkle_root_theory.specs.Expression.{Place, Node, Input, Expression, supplied, computed, visited, is_node}
use Rattle.merkle_root_theory.specs.Plan.{peak, siblings, node_expression, tree_meets}
use Rattle.merkle_root_theory.specs.Range.{end_of, overlapping}
use Rattle.merkle_root_theory.proofs.Extraction.{all_filter}
use Rattle.merkle_claim_theory.specs.Multiproof.{multi_on, multi_positions, locations_in}
use Rattle.merkle_claim_theory.specs.Order.{node_places, Distinct}
use Rattle.merkle_claim_theory.specs.PinnedClaim.{pin_tree, pinned_tree}
use Rattle.merkle_claim_theory.specs.Rebuilt.{pin_at}
use Rattle.merkle_claim_theory.specs.Verdict.{multi_inputs, pinned_inputs}
use Rattle.merkle_audit_theory.specs.Cuts.{IsCutOf, IsSublist, places_in, full_places}
use Rattle.merkle_audit_theory.specs.Differences.{is_difference}
use Rattle.merkle_audit_theory.specs.Folds.{fold_inputs, multi_digest, over_inputs}
use Rattle.merkle_audit_theory.specs.Searches.{input_at, looked_up}
use Rattle.merkle_audit_theory.specs.Tiers.{tier, AreOfTier}
use Rattle.merkle_audit_theory.proofs.ClaimCuts.{claim_places, multi_on_cut, pin_tree_cut, pinned_tree_cut}
use Rattle.merkle_audit_theory.proofs.PeakInputs.{inputs_by_peaks}
use Rattle.merkle_audit_theory.proofs.RangeInputs.{range_by_peaks}
use Rattle.merkle_audit_theory.proofs.SublistFacts.{sub_filter, sub_distinct}
use Rattle.merkle_audit_theory.proofs.TieredInputs.{all_same, at_nodes, filtered, fold_tier, full_nodes, looked_same, multi_tier, nodes_among, numbered_tier, over_tier, tiers_joined}
use Rattle.merkle_pins_theory.specs.PinnedFolds.{pinned_over_inputs}
use Rattle.merkle_pins_theory.proofs.PinnedInputs.{pinned_by_peaks}
use Rattle.merkle_pins_theory.proofs.PinnedTiers.{pins_tier, pinned_over_tier}
use Rattle.merkle_walk_theory.specs.Compared.{found_among, Lists, claim_nodes, AreClaims}
use Rattle.merkle_walk_theory.specs.Walked.{over_claims, pinned_over_claims, range_claims, multi_claims, pinned_claims, WalksFindFirst}
use Rattle.merkle_walk_theory.proofs.Compared.{walk_finds_first}

-- ---- any claim, whose inputs are a root's string, folds and nodes
module _ {D : Type 0} (s : Scheme D) (n k : ℕ) (xs : List (Input D)) (a : Input D) (fx nx : List (Input D)) (is : xs ≡ a ∷ fx ++ nx)
    (ta : tier a.place ≡ 0) (tfx : AreOfTier 1 fx) (tnx : AreOfTier 2 nx) (sx : IsSublist (places_in xs) (full_places s n k)) where
  abbrev ps : List Place
  ps = flat_map node_places (peaks_of s.rule n)

  node_sub : IsSublist (places_in nx) ps
  node_sub = subst (λ qs. IsSublist qs ps) (nodes_among a fx nx ta tfx tnx)
      (subst (λ qs. IsSublist (filter is_node (places_in (a ∷ fx ++ nx))) qs) (full_nodes s n k)
      (sub_filter is_node (subst (λ zs. IsSublist (places_in zs) (full_places s n k)) is sx)))

  once : Distinct ps
  once = subst Distinct (full_nodes s n k) (sub_distinct (filtered (full_places s n k)) (claim_places.once s n k))

  pub walked : (X : ℕ → D) (f : Tree → Option (D × D)) (g : Place → Option (Input D)) (cs : List (Tree × Expression D)) → AreClaims X f g cs
      → claim_nodes s.hashing cs ≡ nx → found_among s.hashing f cs ≡ looked_up (is_difference s.hashing) ps (input_at xs) g
  walked X f g cs w e =
      walk_finds_first s.hashing X f g cs w ps once (subst (λ zs. IsSublist (places_in zs) ps) (sym e) node_sub)
      ∙ ap (λ zs. looked_up (is_difference s.hashing) ps (input_at zs) g) e
      ∙ looked_same (is_difference s.hashing) ps (input_at nx) g (input_at (a ∷ fx ++ nx)) g
      (all_same (input_at nx) (input_at (a ∷ fx ++ nx)) (λ p. at_nodes a fx nx ta tfx p) (peaks_of s.rule n))
      (all_same g g (λ p. refl) (peaks_of s.rule n))
      ∙ ap (λ zs. looked_up (is_difference s.hashing) ps (input_at zs) g) (sym is)

-- ---- the claims of the checks
module _ {D : Type 0} (h : Hashing D) (X : ℕ → D) (f : Tree → Option (D × D)) (g : Place → Option (Input D)) where
  each_claim : (e : Tree → Expression D) → ((t : Tree) → IsCutOf (e t) (node_expression X t)) → (ts : List Tree) → AllByRecursion (Lists f g) ts
      → AreClaims X f g (map (λ t. (t, e t)) ts)
  each_claim e cut [] w = tt
  each_claim e cut (t ∷ ts) w = ((cut t, w.0), each_claim e cut ts w.1)

  each_nodes : (e : Tree → Expression D) (ts : List Tree) → claim_nodes h (map (λ t. (t, e t)) ts) ≡ flat_map (λ t. visited h (e t)) ts
  each_nodes e [] = refl
  each_nodes e (t ∷ ts) = ap (λ z. visited h (e t) ++ z) (each_nodes e ts)

  both_claims : (cs ds : List (Tree × Expression D)) → AreClaims X f g cs → AreClaims X f g ds → AreClaims X f g (cs ++ ds)
  both_claims [] ds a b = b
  both_claims (c ∷ cs) ds a b = (a.0, both_claims cs ds a.1 b)

  both_nodes : (cs ds : List (Tree × Expression D)) → claim_nodes h (cs ++ ds) ≡ claim_nodes h cs ++ claim_nodes h ds
  both_nodes [] ds = refl
  both_nodes (c ∷ cs) ds = ap (λ z. visited h c.1 ++ z) (both_nodes cs ds) ∙ sym (append_assoc (visited h c.1) (claim_nodes h cs) (claim_nodes h ds))

  module _ (c : ℕ → Bool) (Y : ℕ → D) where
    met_cut : (t : Tree) (ds : List D) → IsCutOf (tree_claim h c Y t ds) (node_expression X t)
    met_cut (leaf p i) ds = by_test (λ y. IsCutOf (cond y (supplied (Y i)) (supplied (next h ds))) (supplied (X i))) (c i) (λ _. tt) (λ _. tt)
    met_cut (join p l r) ds =
        let es = drop (length (siblings c l)) ds in
        let u = met_cut l ds in
        let v = met_cut r es in
        by_test (λ y. IsCutOf (cond y (computed (Node p) (tree_claim h c Y l ds) (tree_claim h c Y r es)) (supplied (next h ds))) (node_expression X (join p l r)))
        (tree_meets c l || tree_meets c r) (λ _. (refl, u, v)) (λ _. tt)

    over_claim : (ts : List Tree) (ds : List D) → AllByRecursion (Lists f g) ts → AreClaims X f g (over_claims h c Y ts ds)
    over_claim [] ds w = tt
    over_claim (t ∷ ts) ds w = ((met_cut t ds, w.0), over_claim ts (drop (length (siblings c t)) ds) w.1)

    over_nodes : (ts : List Tree) (ds : List D) → claim_nodes h (over_claims h c Y ts ds) ≡ over_inputs h c Y ts ds
    over_nodes [] ds = refl
    over_nodes (t ∷ ts) ds = ap (λ z. visited h (tree_claim h c Y t ds) ++ z) (over_nodes ts (drop (length (siblings c t)) ds))

    module _ (b : ℕ → Option D) (w : ℕ → Bool) where
      pinned_claim : (ts : List Tree) (ds : List D) → AllByRecursion (Lists f g) ts → AreClaims X f g (pinned_over_claims h b w c Y ts ds)
      pinned_claim [] ds v = tt
      pinned_claim (t ∷ ts) ds v = ((pinned_tree_cut h X b w c Y t ds, v.0), pinned_claim ts (drop (length (siblings c t)) ds) v.1)

      pinned_nodes : (ts : List Tree) (ds : List D) → claim_nodes h (pinned_over_claims h b w c Y ts ds) ≡ pinned_over_inputs h b w c Y ts ds
      pinned_nodes [] ds = refl
      pinned_nodes (t ∷ ts) ds = ap (λ z. visited h (pinned_tree h b w c Y t ds) ++ z) (pinned_nodes ts (drop (length (siblings c t)) ds))

pub walks_find_first : {D : Type 0} → WalksFindFirst D
walks_find_first = record {
  range = λ s r root ok f g w.
      let X = λ (i : ℕ). s.hashing.empty in
      let over = overlapping r.start (end_of r) (peaks_of s.rule r.leaves) in
      walked s r.leaves r.inactive (range_inputs s r) _ _ _ (range_by_peaks s r root ok) refl (numbered_tier s.hashing s.bagging r.inactive _ _ _)
      (over_tier s.hashing (chosen r) (leaf_given s.hashing r) over _) (claim_places.range s r) X f g (range_claims s r)
      (over_claim s.hashing X f g (chosen r) (leaf_given s.hashing r) over _ (all_filter (Lists f g) _ (peaks_of s.rule r.leaves) w))
      (over_nodes s.hashing X f g (chosen r) (leaf_given s.hashing r) over _);
  multi = λ s r f g w.
      let X = λ (i : ℕ). s.hashing.empty in
      let ts = peaks_of s.rule r.leaves in
      walked s r.leaves r.inactive (multi_inputs s r) _ (fold_inputs s.hashing s.bagging r.inactive (map (multi_digest s r) ts)) _ (inputs_by_peaks.multi s r) refl
      (fold_tier s.hashing s.bagging r.inactive (map (multi_digest s r) ts))
      (multi_tier s.hashing (digest_for (multi_positions s.rule r.leaves (locations_in r)) r.digests) _ _ ts) (claim_places.multi s r) X f g (multi_claims s r)
      (each_claim s.hashing X f g (λ t. multi_on s r (peak t)) (λ t. multi_on_cut s X r (peak t)) ts w)
      (each_nodes s.hashing X f g (λ t. multi_on s r (peak t)) ts);
  pinned = λ s r pins root ok f g w.
      let X = λ (i : ℕ). s.hashing.empty in
      let b = pin_at s r.start pins in
      let before = wholly_before r.start (peaks_of s.rule r.leaves) in
      let over = overlapping r.start (end_of r) (peaks_of s.rule r.leaves) in
      let first = map (λ t. (t, pin_tree s.hashing b t)) before in
      walked s r.leaves r.inactive (pinned_inputs s r pins) _ (fold_inputs s.hashing s.bagging r.inactive _) _ (pinned_by_peaks s r pins root ok) refl
      (fold_tier s.hashing s.bagging r.inactive _)
      (tiers_joined 2 (flat_map (λ t. visited s.hashing (pin_tree s.hashing b t)) before) _ (pins_tier s.hashing b before)
      (pinned_over_tier s.hashing b (in_range 0 r.start) (chosen r) (leaf_given s.hashing r) over _)) (claim_places.pinned s r pins) X f g (pinned_claims s r pins)
      (both_claims s.hashing X f g first _
      (each_claim s.hashing X f g (pin_tree s.hashing b) (pin_tree_cut s.hashing X b) before (all_filter (Lists f g) _ (peaks_of s.rule r.leaves) w))
      (pinned_claim s.hashing X f g (chosen r) (leaf_given s.hashing r) b (in_range 0 r.start) over _ (all_filter (Lists f g) _ (peaks_of s.rule r.leaves) w)))
      (both_nodes s.hashing X f g first _
      ∙ ap₂ ◌++◌ (each_nodes s.hashing X f g (pin_tree s.hashing b) before)
      (pinned_nodes s.hashing X f g (chosen r) (leaf_given s.hashing r) b (in_range 0 r.start) over _));
}
