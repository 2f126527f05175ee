-- Proofs that are built over digests which were read at the positions of a plan.
use Rattle.std.proofs.Common.{◌≡◌, ℕ, ◌<◌, ◌≤◌, List, [], ◌∷◌, ◌++◌, length, map, nat_eq, Option, Some, None, slice_get, inl, inr, refl, ap₂, sym, subst, ◌∙◌, arith}
use Rattle.std.specs.List.{list_any, range_with_len}
use Rattle.std.proofs.lemmas.Bool.{eq-eqb}
use Rattle.std.proofs.lemmas.Option.{slice_get_within}
use Rattle.merkle_base.specs.Tree.{Tree, position}
use Rattle.merkle_base.specs.Forest.{forest, size}
use Rattle.merkle_base.specs.Hashing.{Hashing}
use Rattle.merkle_base.specs.Places.{peaks_of}
use Rattle.merkle_base.specs.Scheme.{Scheme}
use Rattle.merkle_base.specs.declared.error.Error.{Error}
use Rattle.merkle_base.specs.declared.family.Bagging.{Bagging}
use Rattle.merkle_base.proofs.Lists.{cons_head, cons_tail}
use Rattle.merkle_root_theory.specs.Collision.{Member}
use Rattle.merkle_root_theory.specs.Expression.{hashed_at}
use Rattle.merkle_root_theory.specs.Plan.{Plan, peak, folding}
use Rattle.merkle_root_theory.specs.Range.{range_parts, range_siblings}
use Rattle.merkle_root_theory.specs.Reads.{nodes_read, reading_order, both_read, part_read}
use Rattle.merkle_root_theory.proofs.ReadLayouts.{reads_laid_out}
use Rattle.merkle_base.specs.Table.{digest_for}
use Rattle.merkle_claim_theory.proofs.ListedDigests.{any_member, member_filtered, range_member}
use Rattle.merkle_claim_theory.proofs.Multiproofs.{all_member, member_all}
use Rattle.merkle_scattered.specs.Positions.{range_positions}
use Rattle.merkle_proof.specs.RangePlans.{LeafRange, IsBuildRefusal, IsBuiltProof}
use Rattle.merkle_proof.specs.declared.proof.Proof.{Proof}
use Rattle.merkle_proof.proofs.BuiltDigests.{reads_at}
use Rattle.merkle_proof.proofs.ReadingOrder.{all_reading_order}
use Rattle.merkle_verification.proofs.ListedReads.{found_at, none_missing}

-- ---- over nodes of which others know no less
both_some : {D : Type 0} (f : D → D → D) (x y : Option D) (d : D) → both_read f x y ≡ Some d → (a : D) × (b : D) × (x ≡ Some a) × (y ≡ Some b) × (both_read f (Some a) (Some b) ≡ Some d)
both_some f None y d e = absurd (cc)
both_some f (Some a) None d e = absurd (cc)
both_some f (Some a) (Some b) d e = (a, b, refl, refl, e)

maps_more : {A D : Type 0} (f g : A → Option D) → ((a : A) (d : D) → f a ≡ Some d → g a ≡ Some d) → (xs : List A) (ds : List D) → map Some ds ≡ map f xs → map Some ds ≡ map g xs
maps_more f g more [] ds e = e
maps_more f g more (x ∷ xs) [] e = absurd (cc)
maps_more f g more (x ∷ xs) (d ∷ ds) e =
    ap₂ (λ y ys. y ∷ ys) (sym (more x d (sym (cons_head _ _ _ _ e)))) (maps_more f g more xs ds (cons_tail _ _ _ _ e))

both_more : {A B D : Type 0} (f g : A → Option D) (u v : B → Option D) → ((a : A) (d : D) → f a ≡ Some d → g a ≡ Some d) → ((b : B) (d : D) → u b ≡ Some d → v b ≡ Some d)
    → (xs : List A) (ys : List B) (ds : List D) → map Some ds ≡ map f xs ++ map u ys → map Some ds ≡ map g xs ++ map v ys
both_more f g u v more later [] ys ds e = maps_more u v later ys ds e
both_more f g u v more later (x ∷ xs) ys [] e = absurd (cc)
both_more f g u v more later (x ∷ xs) ys (d ∷ ds) e =
    ap₂ (λ y ys. y ∷ ys) (sym (more x d (sym (cons_head _ _ _ _ e)))) (both_more f g u v more later xs ys ds (cons_tail _ _ _ _ e))

module _ {D : Type 0} (f g : ℕ → Option D) (more : (p : ℕ) (d : D) → f p ≡ Some d → g p ≡ Some d) where
  part_more : (h : Hashing D) (p : Plan) (d : D) → part_read h f p ≡ Some d → part_read h g p ≡ Some d
  part_more h (peak t) d e = more (position t) d e
  part_more h (folding place l r) d e =
      let w = both_some (hashed_at h place) (part_read h f l) (part_read h f r) d e in
      ap₂ (both_read (hashed_at h place)) (part_more h l w.0 w.2) (part_more h r w.1 w.3) ∙ w.4

  pub built_more : {F P Q : Type 0} (s : Scheme D) (k : ℕ) (r : LeafRange) (p : Proof F D P Q) → IsBuiltProof s f k r p → IsBuiltProof s g k r p
  built_more s k r p built = record {
    leaves = built.leaves;
    inactive = built.inactive;
    enough_peaks = built.enough_peaks;
    digests = both_more (part_read s.hashing f) (part_read s.hashing g) (λ t. f (position t)) (λ t. g (position t)) (part_more s.hashing) (λ t. more (position t))
        (range_parts s.bagging k r.start r.end (peaks_of s.rule r.leaves)) (range_siblings r.start r.end (peaks_of s.rule r.leaves)) p.digests.items
        (built.digests ∙ reads_laid_out s f r.leaves k r.start r.end)
        ∙ sym (reads_laid_out s g r.leaves k r.start r.end);
  }

-- ---- what is read is listed
module _ (rule : List ℕ → List ℕ) (n a b : ℕ) where
  read_listed : (t : Tree) → Member (nodes_read rule n a b) t → Member (range_positions rule n a b) (position t)
  read_listed t m =
      let ts = nodes_read rule n a b in
      let at = all_member (λ u. slice_get (forest rule n).nodes (position u) ≡ Some u) ts t (reads_at rule n a b) m in
      let below : position t < size rule n = slice_get_within (forest rule n).nodes (position t) t at in
      member_filtered (λ p. list_any (λ u. nat_eq (position u) p) ts) (range_with_len 0 (size rule n)) (position t) (range_member 0 (size rule n) (position t) (omega arith) (omega (arith, below)))
      (any_member (λ u. nat_eq (position u) (position t)) ts t m (eq-eqb (position t) (position t) refl))

  -- so over digests that were read at the positions none is missing
  pub none_refused : {F D : Type 0} (node : ℕ → Option D) (ps : List ℕ) (ds : List D) → ps ≡ range_positions rule n a b → map Some ds ≡ map node ps
      → (bagging : Bagging) (k : ℕ) → k ≤ length (peaks_of rule n) → (e : Error F)
      → IsBuildRefusal bagging rule (record { leaves = n; start = a; end = b }) k (λ p o. o ≡ digest_for ps ds p) e → ⊥
  none_refused {D = D} node ps ds listed read bagging k few e refused =
      let P : Tree → Type 0 = λ t. (d : D) × (digest_for ps ds (position t) ≡ Some d) in
      let all = member_all P (nodes_read rule n a b) (λ t m. found_at node ps ds read (position t) (subst (λ l. Member l (position t)) (sym listed) (read_listed t m))) in
      elim refused [
        | inl x ↦ absurd (let many : length (peaks_of rule n) < k = x.0 in omega (arith, many, few))
        | inr x ↦ none_missing (digest_for ps ds) (reading_order bagging k rule n a b) (all_reading_order P bagging k rule n a b all) x.1.0 x.1.2
      ]
