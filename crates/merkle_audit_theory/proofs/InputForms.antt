-- Of which form the arguments are that the checks and a list hash.
use Rattle.std.proofs.Common.{ℕ, suc, pred, List, [], ◌∷◌, Option, Some, None, Bool, true, false, cond, ◌||◌, not, length, take, drop, ap, sym, inl, inr, ⊎_elim, subst, option_map}
use Rattle.merkle_base.specs.declared.family.Bagging.{Bagging}
use Rattle.merkle_base.specs.declared.family.Bagging.TheVariants.{ForwardFold, BackwardFold}
use Rattle.merkle_base.specs.Hashing.{Hashing}
use Rattle.merkle_base.specs.Tree.{Tree, leaf, join}
use Rattle.merkle_base.specs.Places.{peaks_of}
use Rattle.merkle_root_theory.specs.Expression.{Place, Root, Join, PrefixFold, SuffixFold, Node, Argument, Pair, Bytes, Input, Expression, supplied, computed, cross_checked, visited, inputs, is_node}
use Rattle.merkle_root_theory.specs.Collision.{Member}
use Rattle.merkle_root_theory.specs.Plan.{Plan, peak, folding, left_fold_plan, right_fold_plan, with_right_fold_plan, root_plan, plan_expression}
use Rattle.merkle_root_theory.specs.Plan.{node_expression, tree_meets, meets, siblings, outside_parts, path_siblings}
use Rattle.merkle_root_theory.specs.Claim.{tree_claim, claim}
use Rattle.merkle_root_theory.specs.Check.{in_range, RangeInput, string_of, inputs_of, all_inputs, list_expression, chosen, leaf_given, range_expression}
use Rattle.merkle_base.specs.Scheme.{Scheme}
use Rattle.merkle_claim_theory.specs.MultiClaim.{also, multi_tree, multi_claim}
use Rattle.merkle_claim_theory.specs.Multiproof.{MultiInput, multi_on, multi_expression}
use Rattle.merkle_claim_theory.specs.PinnedClaim.{pinned_or, pin_tree, pin_plan, outside_tree, outside_plan, pinned_tree, pinned_claim}
use Rattle.merkle_claim_theory.specs.Pinned.{pin_positions, pinned_on, pinned_expression}
use Rattle.merkle_base.specs.Table.{digest_for}
use Rattle.merkle_audit_theory.specs.PlainHash.{SameForm}
use Rattle.merkle_claim_theory.proofs.HonestClaims.{member_split}
use Rattle.merkle_claim_theory.proofs.ListedDigests.{filtered_member}

-- ---- below the root each argument is two digests, and none stands at the root's place
abbrev pub IsBelow : Place → Type 0
IsBelow Root = ⊥
IsBelow Join = Unit {0}
IsBelow (PrefixFold i) = Unit {0}
IsBelow (SuffixFold i) = Unit {0}
IsBelow (Node p) = Unit {0}

abbrev pub IsPair : {D : Type 0} → Argument D → Type 0
IsPair (Pair l r) = Unit {0}
IsPair (Bytes b) = ⊥

abbrev pub IsInner : {D : Type 0} → Input D → Type 0
IsInner i = IsBelow i.place × IsPair i.argument

abbrev pub Rootless : {D : Type 0} → Expression D → Type 0
Rootless (supplied d) = Unit {0}
Rootless (computed place l r) = IsBelow place × Rootless l × Rootless r
Rootless (cross_checked d e) = Rootless e

module _ {D : Type 0} (h : Hashing D) where
  visited_inner : (e : Expression D) → Rootless e → (i : Input D) → Member (visited h e) i → IsInner i
  visited_inner (supplied d) w i m = elim m [ ]
  visited_inner (computed place l r) w i (inl e) = subst (λ (z : Input D). IsInner z) e (w.0, tt)
  visited_inner (computed place l r) w i (inr m) = ⊎_elim (λ a. visited_inner l w.1 i a) (λ a. visited_inner r w.2 i a) (member_split (visited h l) (visited h r) i m)
  visited_inner (cross_checked d e) w i m = visited_inner e w i m

  inputs_inner : (e : Expression D) → Rootless e → (i : Input D) → Member (inputs h e) i → IsInner i
  inputs_inner e w i m =
      ⊎_elim (λ a. visited_inner e w i (filtered_member (λ (j : Input D). not (is_node j.place)) (visited h e) i a).0)
      (λ a. visited_inner e w i (filtered_member (λ (j : Input D). is_node j.place) (visited h e) i a).0)
      (member_split _ _ i m)

  abbrev pub AllRootless : Option (Expression D) → Type 0
  AllRootless None = Unit {0}
  AllRootless (Some e) = Rootless e

  inputs_of_inner : (e : Option (Expression D)) → AllRootless e → (i : Input D) → Member (inputs_of h e) i → IsInner i
  inputs_of_inner None w i m = elim m [ ]
  inputs_of_inner (Some e) w i m = inputs_inner e w i m

-- ---- the plans fold below the root
abbrev FoldsBelow : Plan → Type 0
FoldsBelow (peak t) = Unit {0}
FoldsBelow (folding place l r) = IsBelow place × FoldsBelow l × FoldsBelow r

left_fold_below : (acc : Plan) (i : ℕ) (ts : List Tree) → FoldsBelow acc → FoldsBelow (left_fold_plan acc i ts)
left_fold_below acc i [] w = w
left_fold_below acc i (t ∷ ts) w = left_fold_below (folding (PrefixFold i) acc (peak t)) (suc i) ts (tt, w, tt)

right_fold_below : (i : ℕ) (t : Tree) (ts : List Tree) → FoldsBelow (right_fold_plan i t ts)
right_fold_below i t [] = tt
right_fold_below i t (u ∷ us) = (tt, tt, right_fold_below (suc i) u us)

join_below : (acc : Plan) (i : ℕ) (ts : List Tree) → FoldsBelow acc → FoldsBelow (with_right_fold_plan acc i ts)
join_below acc i [] w = w
join_below acc i (t ∷ ts) w = (tt, w, right_fold_below i t ts)

abbrev AllBelow : Option Plan → Type 0
AllBelow None = Unit {0}
AllBelow (Some p) = FoldsBelow p

whole_below : (bagging : Bagging) (k : ℕ) (ts : List Tree) → AllBelow (root_plan bagging k ts)
whole_below ForwardFold k [] = tt
whole_below BackwardFold k [] = tt
whole_below ForwardFold k (t ∷ ts) = left_fold_below (peak t) 1 ts tt
whole_below BackwardFold k (t ∷ ts) = join_below (left_fold_plan (peak t) 1 (take (pred k) ts)) (suc (pred k)) (drop (pred k) ts) (left_fold_below (peak t) 1 (take (pred k) ts) tt)

module _ {D : Type 0} (h : Hashing D) (X : ℕ → D) where
  node_rootless : (t : Tree) → Rootless (node_expression X t)
  node_rootless (leaf p i) = tt
  node_rootless (join p l r) = (tt, node_rootless l, node_rootless r)

  full_rootless : (p : Plan) → FoldsBelow p → Rootless (plan_expression X p)
  full_rootless (peak t) w = node_rootless t
  full_rootless (folding place l r) w = (w.0, full_rootless l w.1, full_rootless r w.2)

  either_rootless : (b : Bool) (e f : Expression D) → Rootless e → Rootless f → Rootless (cond b e f)
  either_rootless true e f v w = v
  either_rootless false e f v w = w

  tree_rootless : (c : ℕ → Bool) (t : Tree) (ds : List D) → Rootless (tree_claim h c X t ds)
  tree_rootless c (leaf p i) ds = either_rootless (c i) _ _ tt tt
  tree_rootless c (join p l r) ds = either_rootless (tree_meets c l || tree_meets c r) _ _ (tt, tree_rootless c l ds, tree_rootless c r (drop (length (siblings c l)) ds)) tt

  claim_rootless : (c : ℕ → Bool) (p : Plan) → FoldsBelow p → (os is : List D) → Rootless (claim h c X p os is)
  claim_rootless c (peak t) w os is = either_rootless (tree_meets c t) _ _ (tree_rootless c t is) tt
  claim_rootless c (folding place l r) w os is =
      either_rootless (meets c l || meets c r) _ _ (w.0, claim_rootless c l w.1 os is, claim_rootless c r w.2 (drop (length (outside_parts c l)) os) (drop (length (path_siblings c l)) is)) tt

mapped_rootless : {D : Type 0} (h : Hashing D) (f : Plan → Expression D) → ((p : Plan) → FoldsBelow p → Rootless (f p)) → (o : Option Plan) → AllBelow o → AllRootless h (option_map f o)
mapped_rootless h f g None w = tt
mapped_rootless h f g (Some p) w = g p w

-- ---- so both arguments of a collision have one form
same_pairs : {D : Type 0} (a b : Argument D) → IsPair a → IsPair b → SameForm a b
same_pairs (Pair l r) (Pair l' r') v w = tt
same_pairs (Pair l r) (Bytes b) v w = w
same_pairs (Bytes a) b v w = absurd v

module _ {D : Type 0} (s t : Scheme D) (n m k j : ℕ) (e f : Option (Expression D)) (v : AllRootless s.hashing e) (w : AllRootless t.hashing f) where
  pub one_form : (place : Place) (a b : Argument D) → Member (all_inputs s n k e) (record { place = place; argument = a })
      → Member (all_inputs t m j f) (record { place = place; argument = b }) → SameForm a b
  one_form place a b (inl x) (inl y) = subst (λ (z : Input D). SameForm z.argument b) x (subst (λ (z : Input D). SameForm (Bytes (string_of s n k e)) z.argument) y tt)
  one_form place a b (inl x) (inr y) = absurd (subst IsBelow (sym (ap (λ (z : Input D). z.place) x)) (inputs_of_inner t.hashing f w _ y).0)
  one_form place a b (inr x) (inl y) = absurd (subst IsBelow (sym (ap (λ (z : Input D). z.place) y)) (inputs_of_inner s.hashing e v _ x).0)
  one_form place a b (inr x) (inr y) = same_pairs a b (inputs_of_inner s.hashing e v _ x).1 (inputs_of_inner t.hashing f w _ y).1

pub range_rootless : {D : Type 0} (s : Scheme D) (r : RangeInput D) → AllRootless s.hashing (range_expression s r)
range_rootless s r = mapped_rootless s.hashing _ (λ p w. claim_rootless s.hashing (leaf_given s.hashing r) (chosen r) p w r.digests _)
    (root_plan s.bagging r.inactive (peaks_of s.rule r.leaves)) (whole_below s.bagging r.inactive (peaks_of s.rule r.leaves))

pub list_rootless : {D : Type 0} (s : Scheme D) (X : ℕ → D) (n k : ℕ) → AllRootless s.hashing (list_expression s X n k)
list_rootless s X n k = mapped_rootless s.hashing (plan_expression X) (full_rootless s.hashing X) (root_plan s.bagging k (peaks_of s.rule n)) (whole_below s.bagging k (peaks_of s.rule n))

-- ---- the same of what is told beside
module _ {D : Type 0} (h : Hashing D) (a : ℕ → Option D) (c : ℕ → Bool) (X : ℕ → D) where
  also_rootless : (o : Option D) (e : Expression D) → Rootless e → Rootless (also o e)
  also_rootless None e w = w
  also_rootless (Some d) e w = w

  multi_rootless : (t : Tree) → Rootless (multi_tree h a c X t)
  multi_rootless (leaf p i) = either_rootless h X (c i) _ _ (also_rootless (a p) (supplied (X i)) tt) tt
  multi_rootless (join p l r) =
      either_rootless h X (tree_meets c l || tree_meets c r) _ _
      (also_rootless (a p) (computed (Node p) (multi_tree h a c X l) (multi_tree h a c X r)) (tt, multi_rootless l, multi_rootless r)) tt

  multi_claim_rootless : (p : Plan) → FoldsBelow p → Rootless (multi_claim h a c X p)
  multi_claim_rootless (peak t) w = multi_rootless t
  multi_claim_rootless (folding place l r) w = (w.0, multi_claim_rootless l w.1, multi_claim_rootless r w.2)

module _ {D : Type 0} (h : Hashing D) (b : ℕ → Option D) (w c : ℕ → Bool) (X : ℕ → D) where
  pinned_or_rootless : (o : Option D) (e : Expression D) → Rootless e → Rootless (pinned_or o e)
  pinned_or_rootless None e v = v
  pinned_or_rootless (Some d) e v = tt

  pin_rootless : (t : Tree) → Rootless (pin_tree h b t)
  pin_rootless (leaf p i) = tt
  pin_rootless (join p l r) = pinned_or_rootless (b p) (computed (Node p) (pin_tree h b l) (pin_tree h b r)) (tt, pin_rootless l, pin_rootless r)

  pin_plan_rootless : (p : Plan) → FoldsBelow p → Rootless (pin_plan h b p)
  pin_plan_rootless (peak t) v = pin_rootless t
  pin_plan_rootless (folding place l r) v = (v.0, pin_plan_rootless l v.1, pin_plan_rootless r v.2)

  outside_rootless : (t : Tree) (d : D) → Rootless (outside_tree h b w t d)
  outside_rootless t d = either_rootless h X (tree_meets w t) (cross_checked d (pin_tree h b t)) (supplied d) (pin_rootless t) tt

  outside_plan_rootless : (p : Plan) → FoldsBelow p → (d : D) → Rootless (outside_plan h b w p d)
  outside_plan_rootless p v d = either_rootless h X (meets w p) (cross_checked d (pin_plan h b p)) (supplied d) (pin_plan_rootless p v) tt

  pinned_rootless : (t : Tree) (ds : List D) → Rootless (pinned_tree h b w c X t ds)
  pinned_rootless (leaf p i) ds = either_rootless h X (c i) _ _ tt (outside_rootless (leaf p i) _)
  pinned_rootless (join p l r) ds =
      either_rootless h X (tree_meets c l || tree_meets c r) _ _ (tt, pinned_rootless l ds, pinned_rootless r (drop (length (siblings c l)) ds)) (outside_rootless (join p l r) _)

  pinned_claim_rootless : (p : Plan) → FoldsBelow p → (os is : List D) → Rootless (pinned_claim h b w c X p os is)
  pinned_claim_rootless (peak t) v os is = either_rootless h X (tree_meets c t) _ _ (pinned_rootless t is) (outside_plan_rootless (peak t) v _)
  pinned_claim_rootless (folding place l r) v os is =
      either_rootless h X (meets c l || meets c r) _ _
      (v.0, pinned_claim_rootless l v.1 os is, pinned_claim_rootless r v.2 (drop (length (outside_parts c l)) os) (drop (length (path_siblings c l)) is))
      (outside_plan_rootless (folding place l r) v _)

pub multi_inputs_rootless : {D : Type 0} (s : Scheme D) (r : MultiInput D) → AllRootless s.hashing (multi_expression s r)
multi_inputs_rootless s r = mapped_rootless s.hashing (multi_on s r) (λ p v. multi_claim_rootless s.hashing _ _ _ p v)
    (root_plan s.bagging r.inactive (peaks_of s.rule r.leaves)) (whole_below s.bagging r.inactive (peaks_of s.rule r.leaves))

pub pinned_inputs_rootless : {D : Type 0} (s : Scheme D) (r : RangeInput D) (pins : List D) → AllRootless s.hashing (pinned_expression s r pins)
pinned_inputs_rootless s r pins =
    mapped_rootless s.hashing (pinned_on s r pins)
    (λ p v. pinned_claim_rootless s.hashing (digest_for (pin_positions s r.start) pins) (in_range 0 r.start) (chosen r) (leaf_given s.hashing r) p
    v r.digests (drop (length (outside_parts (chosen r) p)) r.digests)) (root_plan s.bagging r.inactive (peaks_of s.rule r.leaves))
    (whole_below s.bagging r.inactive (peaks_of s.rule r.leaves))
