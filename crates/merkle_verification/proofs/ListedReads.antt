-- Digests that were read at listed positions, as a search by position finds them.
use Rattle.std.proofs.Common.{◌≡◌, ℕ, cond, nat_eq, List, [], ◌∷◌, map, Option, Some, None, inl, inr, refl, ap, sym, ◌∙◌, subst}
use Rattle.std.specs.List.{AllByRecursion}
use Rattle.std.proofs.lemmas.Bool.{eqb-true, eq-eqb, false≢true}
use Rattle.merkle_base.specs.Tree.{Tree, position}
use Rattle.merkle_base.proofs.Cases.{by_test}
use Rattle.merkle_base.proofs.Lists.{cons_head, cons_tail}
use Rattle.merkle_root_theory.specs.Collision.{Member}
use Rattle.merkle_root_theory.proofs.Collisions.{member_right}
use Rattle.merkle_base.specs.Table.{digest_for}
use Rattle.merkle_claim_theory.proofs.Multiproofs.{all_member}
use Rattle.merkle_proof.specs.RangePlans.{AreAnswered, IsFirstMissing}

module _ {D : Type 0} (node : ℕ → Option D) where
  -- each was answered
  pub all_answered : (ps : List ℕ) (ds : List D) → map Some ds ≡ map node ps → AreAnswered (λ q o. o ≡ node q) ps ds
  all_answered [] [] e = tt
  all_answered [] (d ∷ ds) e = absurd (cc)
  all_answered (p ∷ ps) [] e = absurd (cc)
  all_answered (p ∷ ps) (d ∷ ds) e = (cons_head _ _ _ _ e, all_answered ps ds (cons_tail _ _ _ _ e))

  -- what is found is the node
  pub found_is : (ps : List ℕ) (ds : List D) → map Some ds ≡ map node ps → (p : ℕ) (d : D) → digest_for ps ds p ≡ Some d → node p ≡ Some d
  found_is [] ds e p d f = absurd (cc)
  found_is (q ∷ ps) [] e p d f = absurd (cc)
  found_is (q ∷ ps) (x ∷ ds) e p d f =
      by_test (λ b. cond b (Some x) (digest_for ps ds p) ≡ Some d → node p ≡ Some d) (nat_eq q p)
      (λ same g. ap node (sym (eqb-true q p same)) ∙ sym (cons_head _ _ _ _ e) ∙ g) (λ _ g. found_is ps ds (cons_tail _ _ _ _ e) p d g) f

  -- and something is found at each of the positions
  pub found_at : (ps : List ℕ) (ds : List D) → map Some ds ≡ map node ps → (p : ℕ) → Member ps p → (d : D) × (digest_for ps ds p ≡ Some d)
  found_at [] ds e p m = elim m [ ]
  found_at (q ∷ ps) [] e p m = absurd (cc)
  found_at (q ∷ ps) (x ∷ ds) e p m =
      by_test (λ b. (d : D) × (cond b (Some x) (digest_for ps ds p) ≡ Some d)) (nat_eq q p) (λ _. (x, refl))
      (λ no. found_at ps ds (cons_tail _ _ _ _ e) p (elim m [ inl z ↦ absurd (false≢true (sym no ∙ eq-eqb q p z)) | inr w ↦ w ]))

  -- none of some nodes is missing
  pub none_missing : (us : List Tree) → AllByRecursion (λ t. (d : D) × (node (position t) ≡ Some d)) us → (p : ℕ) → IsFirstMissing (λ q o. o ≡ node q) (map position us) p → ⊥
  none_missing us all p w =
      let m : Member (map position us) p = subst (λ l. Member l p) (sym w.split) (member_right w.before (p ∷ w.after) p (inl refl)) in
      let v = position_member us p m in
      let h = all_member (λ t. (d : D) × (node (position t) ≡ Some d)) us v.0 all v.1 in
      let clash : None ≡ Some h.0 = w.missing ∙ ap node (sym v.2) ∙ h.1 in absurd (cc)
    where
      position_member : (ts : List Tree) (p : ℕ) → Member (map position ts) p → (v : Tree) × Member ts v × (position v ≡ p)
      position_member [] p m = elim m [ ]
      position_member (t ∷ ts) p (inl e) = (t, inl refl, e)
      position_member (t ∷ ts) p (inr m) = let w = position_member ts p m in (w.0, inr w.1, w.2)
