-- Proofs of scattered leaves over nodes that show a list.
use Rattle.std.proofs.Common.{◌≡◌, ℕ, ◌<◌, List, [], ◌∷◌, length, map, Option, Some, inl, refl, ap, ap₂, sym, ◌∙◌, subst, arith}
use Rattle.std.specs.List.{AllByRecursion}
use Rattle.std.proofs.lemmas.List.{length-map}
use Rattle.std.proofs.lemmas.Option.{get_or_from_slice_get}
use Rattle.merkle_base.specs.Forest.{size}
use Rattle.merkle_base.specs.Digests.{node_digests}
use Rattle.merkle_base.specs.Scheme.{Scheme}
use Rattle.merkle_base.specs.Shows.{Shows}
use Rattle.merkle_base.proofs.Lists.{cons_head, cons_tail}
use Rattle.merkle_base.proofs.Nodes.{size_inj}
use Rattle.merkle_root_theory.specs.Range.{leaf_of}
use Rattle.merkle_forest_theory.specs.Ascending.{AscendsFrom}
use Rattle.merkle_claim_theory.specs.Multiproof.{IsHonestMulti, multi_positions}
use Rattle.merkle_base.specs.Table.{digest_at_position}
use Rattle.merkle_claim_theory.proofs.HonestMultis.{map-first}
use Rattle.merkle_proof.specs.declared.proof.Proof.{Proof}
use Rattle.merkle_verification.specs.ReaderProofs.{IsBuiltMulti, multi_list_input}

module _ {D : Type 0} (s : Scheme D) (m : ℕ) (node : ℕ → Option D) (X : List D) (shows : Shows s.hashing s.rule m node X) where
  shown_at : (p : ℕ) (d : D) → node p ≡ Some d → d ≡ digest_at_position s X p
  shown_at p d e = sym (get_or_from_slice_get (node_digests s.hashing s.rule X) p d s.hashing.empty (shows.right p d e))

  all_shown : (ps : List ℕ) (ds : List D) → map Some ds ≡ map node ps → ds ≡ map (digest_at_position s X) ps
  all_shown [] [] e = refl
  all_shown [] (d ∷ ds) e = absurd (cc)
  all_shown (p ∷ ps) [] e = absurd (cc)
  all_shown (p ∷ ps) (d ∷ ds) e = ap₂ (λ x xs. x ∷ xs) (shown_at p d (sym (cons_head _ _ _ _ e))) (all_shown ps ds (cons_tail _ _ _ _ e))

  -- the proof is the list's honest one
  pub honest_multi : {F P Q : Type 0} (max_leaves k n : ℕ) (locations : List ℕ) (p : Proof F D P Q) → size s.rule n ≡ m → IsBuiltMulti s.rule max_leaves node k n locations p
      → IsHonestMulti s X k (multi_list_input p s.hashing X locations)
  honest_multi max_leaves k n locations p sized built =
      let f = leaf_of s.hashing X in
      let long : n ≡ length X = size_inj s.rule n (length X) (sized ∙ shows.sized) in
      let at = map-first f locations in
      let digests : p.digests.items ≡ map (digest_at_position s X) (multi_positions s.rule (length X) (map (λ (e : ℕ × D). e.0) (map (λ i. (i, f i)) locations))) =
      all_shown (multi_positions s.rule n locations) p.digests.items built.digests ∙ ap₂ (λ l is. map (digest_at_position s X) (multi_positions s.rule l is)) long (sym at) in
      let leaves : p.leaves ≡ length X = built.leaves ∙ long in
      let pairs : List ℕ → List (ℕ × D) = λ is. map (λ i. (i, f i)) is in
      let elements : pairs locations ≡ pairs (map (λ (e : ℕ × D). e.0) (pairs locations)) = ap pairs (sym at) in (
        subst (AscendsFrom 0) (sym at) built.within.ascend,
        subst (AllByRecursion (λ i. i < length X)) (sym at) (subst (λ (l : ℕ). AllByRecursion (λ i. i < l) locations) long built.within.below),
        inl (omega (arith, built.within.nonempty, length-map {B = ℕ × D} locations (λ i. (i, f i)))),
        λ i. record { leaves = leaves i; inactive = built.inactive i; digests = digests i; elements = elements i },
      )
