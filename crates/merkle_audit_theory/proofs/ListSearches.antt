-- The search at the nodes of two lists of one length whose peaks have the same digests.
use Rattle.std.proofs.Common.{◌≡◌, ℕ, Bool, true, false, not, cond, ◌&&◌, ◌==◌, List, [], ◌∷◌, ◌++◌, map, filter, flat_map, length, refl, ap, ap₂, sym, ◌∙◌, subst, Option, Some, None}
use Rattle.std.specs.List.{AllByRecursion}
use Rattle.std.proofs.lemmas.Bool.Decides.{Decides-eqb}
use Rattle.merkle_base.specs.Hashing.{Hashing, EqDecides}
use Rattle.merkle_base.specs.Digests.{digest_at, peak_digests}
use Rattle.merkle_base.specs.Forest.{forest}
use Rattle.merkle_base.specs.Places.{peaks_of}
use Rattle.merkle_base.specs.Root.{folded, root_string}
use Rattle.merkle_base.specs.Scheme.{Scheme}
use Rattle.merkle_base.specs.Tree.{Tree, leaf, join, IsBuilt}
use Rattle.merkle_base.proofs.Lists.{cons_head, cons_tail}
use Rattle.merkle_base.proofs.PeakLists.{peaks_built}
use Rattle.merkle_root_theory.specs.Expression.{Place, Root, Node, Pair, Bytes, Input, is_node}
use Rattle.merkle_root_theory.specs.Collision.{Member, Collision}
use Rattle.merkle_root_theory.specs.Range.{list_inputs}
use Rattle.merkle_root_theory.proofs.Collisions.{member_right}
use Rattle.merkle_claim_theory.specs.FirstCollision.{same_argument, is_collision, or_else, first_collision}
use Rattle.merkle_claim_theory.specs.Order.{node_places, Distinct}
use Rattle.merkle_claim_theory.proofs.FirstCollisions.{Decides-argument}
use Rattle.merkle_audit_theory.specs.Cuts.{IsSublist, places_in, full_places}
use Rattle.merkle_audit_theory.specs.Differences.{is_difference}
use Rattle.merkle_audit_theory.specs.Folds.{fold_inputs, top_inputs}
use Rattle.merkle_audit_theory.specs.Located.{node_inputs}
use Rattle.merkle_audit_theory.specs.Searches.{found_of, input_at, looked_up}
use Rattle.merkle_audit_theory.proofs.ClaimCuts.{claim_places}
use Rattle.merkle_audit_theory.proofs.Cursors.{searches_find}
use Rattle.merkle_audit_theory.proofs.LocatedNodes.{list_node}
use Rattle.merkle_audit_theory.proofs.PartedInputs.{or_assoc}
use Rattle.merkle_audit_theory.proofs.PeakInputs.{inputs_by_peaks}
use Rattle.merkle_audit_theory.proofs.SeenNodes.{at_member}
use Rattle.merkle_audit_theory.proofs.SublistFacts.{sub_all, sub_distinct}
use Rattle.merkle_audit_theory.proofs.TieredInputs.{filtered, full_nodes, nodes_among, looked_same, all_same, at_nodes, node_tier, fold_tier}

same_pairs : {D : Type 0} (a b c d : D) → Pair a b ≡ Pair c d → (a ≡ c) × (b ≡ d)
same_pairs a b c d e = (cc, cc)

pub looked_parts : {D : Type 0} (t : Input D → Input D → Bool) (f g : Place → Option (Input D)) (ps qs : List Place)
    → looked_up t (ps ++ qs) f g ≡ or_else (looked_up t ps f g) (looked_up t qs f g)
looked_parts t f g [] qs = refl
looked_parts t f g (p ∷ ps) qs =
    ap (λ o. or_else (found_of t (f p) (g p)) o) (looked_parts t f g ps qs)
    ∙ sym (or_assoc (found_of t (f p) (g p)) (looked_up t ps f g) (looked_up t qs f g))

-- two pairs of digests that are hashed to one at a node
module _ {D : Type 0} (h : Hashing D) (laws : EqDecides h) (p : ℕ) (a b c d : D) (o o' : Option (Collision D)) where
  abbrev x : Input D
  x = record { place = Node p; argument = Pair a b }

  abbrev y : Input D
  y = record { place = Node p; argument = Pair c d }

  abbrev hit : Bool → Option (Collision D) → Option (Collision D)
  hit v z = or_else (cond v (Some (record { place = Node p; claimed = Pair a b; listed = Pair c d })) None) z

  abbrev one : Bool
  one = h.same (h.node p a b) (h.node p c d)

  one_place : (p == p) ≡ true
  one_place = (Decides-eqb p p).1 refl

  at_test : (v : Bool) → same_argument h (Pair a b) (Pair c d) ≡ v → one ≡ true → (a ≡ c → b ≡ d → o ≡ o')
      → hit ((p == p) && not (same_argument h (Pair a b) (Pair c d))) o ≡ hit ((p == p) && not (same_argument h (Pair a b) (Pair c d)) && one) o'
  at_test true q w below =
      let same = same_pairs _ _ _ _ ((Decides-argument h laws (Pair a b) (Pair c d)).0 q) in
      ap₂ (λ u v. hit (u && not v) o) one_place q ∙ below same.0 same.1 ∙ sym (ap₂ (λ u v. hit (u && not v && one) o') one_place q)
  at_test false q w below =
      ap₂ (λ u v. hit (u && not v) o) one_place q ∙ sym (ap₂ (λ u v. hit (u && not v && one) o') one_place q ∙ ap (λ v. hit v o') w)

  one_hash : h.node p a b ≡ h.node p c d → (a ≡ c → b ≡ d → o ≡ o')
      → or_else (found_of (is_difference h) (Some x) (Some y)) o ≡ or_else (found_of (is_collision h) (Some x) (Some y)) o'
  one_hash e below = at_test (same_argument h (Pair a b) (Pair c d)) refl ((laws (h.node p a b) (h.node p c d)).1 e) below

module _ {D : Type 0} (s : Scheme D) (laws : EqDecides s.hashing) (n : ℕ) where
  abbrev ns : List Tree
  ns = (forest s.rule n).nodes

  abbrev ps : List Place
  ps = flat_map node_places (peaks_of s.rule n)

  -- ---- one list
  module _ (X : List D) (long : length X ≡ n) where
    abbrev all_of : Place → Option (Input D)
    all_of = input_at (list_inputs s X 0)

    -- what is hashed at a node
    there : (p : ℕ) (l r : Tree) → IsBuilt ns (join p l r) → all_of (Node p) ≡ Some (record { place = Node p; argument = Pair (digest_at s.hashing X l) (digest_at s.hashing X r) })
    there p l r b =
        let x : Input D = record { place = Node p; argument = Pair (digest_at s.hashing X l) (digest_at s.hashing X r) } in
        at_member (list_inputs s X 0) (subst Distinct (sym (claim_places.listed s X 0)) (claim_places.once s (length X) 0)) x
        (subst (λ xs. Member xs x) (sym (inputs_by_peaks.list s X 0))
        (member_right (top_inputs s (length X) 0 (peak_digests s.hashing s.rule X)) (node_inputs s.hashing s.rule X) _ (list_node s.hashing X s.rule n (sym long) p l r b.0)))

    abbrev head : Input D
    head = record { place = Root; argument = Bytes (root_string s.hashing s.domain s.bagging (length X) 0 (folded s.hashing.fold s.bagging 0 (peak_digests s.hashing s.rule X))) }

    abbrev folds : List (Input D)
    folds = fold_inputs s.hashing s.bagging 0 (peak_digests s.hashing s.rule X)

    abbrev nodes : List (Input D)
    nodes = node_inputs s.hashing s.rule X

    in_nodes : places_in (node_inputs s.hashing s.rule X) ≡ ps
    in_nodes =
        let e : places_in (list_inputs s X 0) ≡ full_places s n 0 = claim_places.listed s X 0 ∙ ap (λ m. full_places s m 0) long in
        sym (nodes_among head folds nodes refl (fold_tier s.hashing s.bagging 0 (peak_digests s.hashing s.rule X)) (node_tier s.hashing s.rule X))
        ∙ ap (λ xs. filter is_node (places_in xs)) (sym (inputs_by_peaks.list s X 0))
        ∙ ap (filter is_node) e ∙ full_nodes s n 0

    below_top : (p : ℕ) → input_at (node_inputs s.hashing s.rule X) (Node p) ≡ all_of (Node p)
    below_top p = at_nodes head folds nodes refl (fold_tier s.hashing s.bagging 0 (peak_digests s.hashing s.rule X)) p ∙ ap (λ xs. input_at xs (Node p)) (sym (inputs_by_peaks.list s X 0))

  -- ---- two lists
  module _ (X Z : List D) (long : length X ≡ n) (long' : length Z ≡ n) where
    abbrev f : Place → Option (Input D)
    f = input_at (list_inputs s X 0)

    abbrev g : Place → Option (Input D)
    g = input_at (list_inputs s Z 0)

    abbrev differs : List Place → Option (Collision D)
    differs qs = looked_up (is_difference s.hashing) qs f g

    abbrev collides : List Place → Option (Collision D)
    collides qs = looked_up (is_collision s.hashing) qs f g

    -- under a node with one digest
    under : (t : Tree) → IsBuilt ns t → digest_at s.hashing X t ≡ digest_at s.hashing Z t → differs (node_places t) ≡ collides (node_places t)
    under (leaf p i) b e = refl
    under (join p l r) b e =
        let below = node_places l ++ node_places r in
        ap₂ (λ u v. or_else (found_of (is_difference s.hashing) u v) (differs below)) (there X long p l r b) (there Z long' p l r b)
        ∙ one_hash s.hashing laws p (digest_at s.hashing X l) (digest_at s.hashing X r) (digest_at s.hashing Z l) (digest_at s.hashing Z r) (differs below) (collides below) e (λ x y.
        looked_parts (is_difference s.hashing) f g (node_places l) (node_places r) ∙ ap₂ or_else (under l b.4 x) (under r b.5 y)
        ∙ sym (looked_parts (is_collision s.hashing) f g (node_places l) (node_places r)))
        ∙ sym (ap₂ (λ u v. or_else (found_of (is_collision s.hashing) u v) (collides below)) (there X long p l r b) (there Z long' p l r b))

    under_all : (ts : List Tree) → AllByRecursion (IsBuilt ns) ts → map (digest_at s.hashing X) ts ≡ map (digest_at s.hashing Z) ts
        → differs (flat_map node_places ts) ≡ collides (flat_map node_places ts)
    under_all [] b e = refl
    under_all (t ∷ ts) b e =
        looked_parts (is_difference s.hashing) f g (node_places t) (flat_map node_places ts)
        ∙ ap₂ or_else (under t b.0 (cons_head _ _ _ _ e)) (under_all ts b.1 (cons_tail _ _ _ _ e))
        ∙ sym (looked_parts (is_collision s.hashing) f g (node_places t) (flat_map node_places ts))

    -- the first difference at a node, by what stands there, is the first collision
    pub lists_searched : map (digest_at s.hashing X) (peaks_of s.rule n) ≡ map (digest_at s.hashing Z) (peaks_of s.rule n)
        → looked_up (is_difference s.hashing) (flat_map node_places (peaks_of s.rule n)) (input_at (list_inputs s X 0)) (input_at (list_inputs s Z 0))
        ≡ first_collision s.hashing (node_inputs s.hashing s.rule X) (node_inputs s.hashing s.rule Z)
    lists_searched e =
        let once : Distinct ps = subst Distinct (full_nodes s n 0) (sub_distinct (filtered (full_places s n 0)) (claim_places.once s n 0)) in
        let whole : IsSublist ps ps = sub_all ps in
        under_all (peaks_of s.rule n) (peaks_built s.rule n) e
        ∙ sym (looked_same (is_collision s.hashing) ps (input_at (node_inputs s.hashing s.rule X)) (input_at (node_inputs s.hashing s.rule Z)) f g
        (all_same (input_at (node_inputs s.hashing s.rule X)) f (below_top X long) (peaks_of s.rule n))
        (all_same (input_at (node_inputs s.hashing s.rule Z)) g (below_top Z long') (peaks_of s.rule n)))
        ∙ searches_find.places s.hashing ps once (node_inputs s.hashing s.rule X) (node_inputs s.hashing s.rule Z)
        (subst (λ qs. IsSublist qs ps) (sym (in_nodes X long)) whole) (subst (λ qs. IsSublist qs ps) (sym (in_nodes Z long')) whole)
