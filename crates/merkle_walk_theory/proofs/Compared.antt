-- What a walk over a claim's nodes finds is the first difference from what is listed.
use Rattle.std.proofs.Common.{◌≡◌, ℕ, Bool, true, false, not, cond, ◌&&◌, ◌==◌, List, [], ◌∷◌, ◌++◌, inl, inr, refl, ap, ap₂, sym, ◌∙◌, subst, Option, Some, None, option_map}
use Rattle.std.proofs.lemmas.Bool.Decides.{Decides-eqb}
use Rattle.merkle_base.specs.Hashing.{Hashing}
use Rattle.merkle_base.specs.Tree.{Tree, leaf, join}
use Rattle.merkle_root_theory.specs.Expression.{Place, Node, Pair, Input, Expression, supplied, computed, cross_checked, value, visited}
use Rattle.merkle_root_theory.specs.Collision.{Member, Collision}
use Rattle.merkle_root_theory.specs.Plan.{node_expression}
use Rattle.merkle_claim_theory.specs.FirstCollision.{or_else}
use Rattle.merkle_claim_theory.specs.Order.{Distinct}
use Rattle.merkle_claim_theory.proofs.FirstCollisions.{Decides-place}
use Rattle.merkle_walk_theory.specs.Compared.{found_over, found_in, found_among, Lists, claim_nodes, AreClaims, WalkFindsFirst}
use Rattle.merkle_audit_theory.specs.Cuts.{IsCutOf, IsSublist, no_more, kept, left_out, places_in}
use Rattle.merkle_audit_theory.specs.Differences.{is_difference}
use Rattle.merkle_audit_theory.specs.Searches.{found_of, input_at, looked_up}
use Rattle.merkle_audit_theory.proofs.Cursors.{is_false, at_none}
use Rattle.merkle_audit_theory.proofs.PartedInputs.{or_assoc}
use Rattle.merkle_audit_theory.proofs.SublistFacts.{sub_member}

module _ {D : Type 0} (h : Hashing D) (g : Place → Option (Input D)) where
  -- what an input differs from
  abbrev at_own : Input D → Option (Collision D)
  at_own x = found_of (is_difference h) (Some x) (g x.place)

  -- the first of some inputs that differs from what is listed at its place
  abbrev differing : List (Input D) → Option (Collision D)
  differing [] = None
  differing (x ∷ xs) = or_else (at_own x) (differing xs)

  differing_parts : (xs ys : List (Input D)) → differing (xs ++ ys) ≡ or_else (differing xs) (differing ys)
  differing_parts [] ys = refl
  differing_parts (x ∷ xs) ys = ap (or_else (at_own x)) (differing_parts xs ys) ∙ sym (or_assoc (at_own x) (differing xs) (differing ys))

  -- ---- at one node
  module _ (p : ℕ) (x : D × D) (l r : Option (Collision D)) where
    abbrev own : Input D
    own = record { place = Node p; argument = Pair x.0 x.1 }

    abbrev there : D × D → Input D
    there y = record { place = Node p; argument = Pair y.0 y.1 }

    one_place : (p == p) ≡ true
    one_place = (Decides-eqb p p).1 refl

    -- u: whether the places are one, v: whether the digests are
    abbrev hit : D × D → Bool → Bool → Option (Collision D)
    hit y u v = or_else (cond (u && not v) (Some (record { place = Node p; claimed = Pair x.0 x.1; listed = Pair y.0 y.1 })) None) (or_else l r)

    at_same : (y : D × D) (v : Bool)
        → cond v (or_else l r) (Some (record { place = Node p; claimed = Pair x.0 x.1; listed = Pair y.0 y.1 })) ≡ hit y true v
    at_same y true = refl
    at_same y false = refl

    over_listed : (o : Option (D × D)) → found_over h p x o l r ≡ or_else (found_of (is_difference h) (Some own) (option_map there o)) (or_else l r)
    over_listed None = refl
    over_listed (Some y) = at_same y (h.same x.0 y.0 && h.same x.1 y.1) ∙ ap (λ u. hit y u (h.same x.0 y.0 && h.same x.1 y.1)) (sym one_place)

  module _ (X : ℕ → D) (f : Tree → Option (D × D)) where
    in_node : (t : Tree) (e : Expression D) → IsCutOf e (node_expression X t) → Lists f g t → found_in h f t e ≡ differing (visited h e)
    in_node t (supplied d) c w = refl
    in_node t (cross_checked d e) c w = in_node t e c w
    in_node (leaf p i) (computed place x y) c w = elim c [ ]
    in_node (join p l r) (computed place x y) c w =
        ap₂ (found_over h p (value h x, value h y) (f (join p l r))) (in_node l x c.1 w.1) (in_node r y c.2 w.2)
        ∙ over_listed p (value h x, value h y) (differing (visited h x)) (differing (visited h y)) (f (join p l r))
        ∙ ap (λ o. or_else (found_of (is_difference h) (Some (own p (value h x, value h y) None None)) o) (or_else (differing (visited h x)) (differing (visited h y)))) (sym w.0)
        ∙ ap (λ q. or_else (at_own (record { place = q; argument = Pair (value h x) (value h y) })) (or_else (differing (visited h x)) (differing (visited h y)))) (sym c.0)
        ∙ ap (or_else (at_own (record { place = place; argument = Pair (value h x) (value h y) }))) (sym (differing_parts (visited h x) (visited h y)))

    among : (cs : List (Tree × Expression D)) → AreClaims X f g cs → found_among h f cs ≡ differing (claim_nodes h cs)
    among [] w = refl
    among (c ∷ cs) w = ap₂ or_else (in_node c.0 c.1 w.0.0 w.0.1) (among cs w.1) ∙ sym (differing_parts (visited h c.1) (claim_nodes h cs))

  -- ---- along the places
  same_at : (x : Input D) (xs : List (Input D)) (ps : List Place) → (Member ps x.place → ⊥)
      → looked_up (is_difference h) ps (input_at (x ∷ xs)) g ≡ looked_up (is_difference h) ps (input_at xs) g
  same_at x xs [] n = refl
  same_at x xs (p ∷ ps) n = ap₂ or_else
      (ap (λ b. found_of (is_difference h) (cond b (Some x) (input_at xs p)) (g p)) (is_false _ (λ q. n (inl (sym ((Decides-place x.place p).0 q))))))
      (same_at x xs ps (λ m. n (inr m)))

  along_places : (us ps : List Place) → IsSublist us ps → Distinct ps → (xs : List (Input D)) → places_in xs ≡ us
      → differing xs ≡ looked_up (is_difference h) ps (input_at xs) g
  along_places us ps no_more d [] e = refl
  along_places us ps no_more d (x ∷ xs) e = cc
  along_places us ps (kept p w) d [] e = cc
  along_places us ps (kept p {xs = vs} {ys = qs} w) d (x ∷ xs) e =
      let same : x.place ≡ p = cc in
      let rest : places_in xs ≡ vs = cc in
      ap₂ or_else
      (ap (found_of (is_difference h) (Some x)) (ap g same)
      ∙ ap (λ b. found_of (is_difference h) (cond b (Some x) (input_at xs p)) (g p)) (sym ((Decides-place x.place p).1 same)))
      (along_places vs qs w d.1 xs rest ∙ sym (same_at x xs qs (λ m. d.0 (subst (Member qs) same m))))
  along_places us ps (left_out q {ys = qs} w) d xs e =
      along_places us qs w d.1 xs e
      ∙ ap (λ o. or_else (found_of (is_difference h) o (g q)) (looked_up (is_difference h) qs (input_at xs) g))
      (sym (at_none q xs (λ m. d.0 (sub_member w q (subst (λ zs. Member zs q) e m)))))

pub walk_finds_first : {D : Type 0} → WalkFindsFirst D
walk_finds_first h X f g cs w ps d sub = among h g X f cs w ∙ along_places h g (places_in (claim_nodes h cs)) ps sub d (claim_nodes h cs) refl
