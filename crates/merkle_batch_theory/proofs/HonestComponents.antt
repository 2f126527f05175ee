-- A structure that is made of a list's digests agrees with the list.
use Rattle.std.proofs.Common.{◌≡◌, ℕ, suc, ◌+◌, ◌-◌, ◌≤◌, List, [], ◌∷◌, length, length-take, length-drop, map, take, drop, Some, None, cond, slice_get, arith}
use Rattle.std.proofs.Common.{refl, sym, ap, inl, inr, ◌∙◌, subst, nat_eq}
use Rattle.std.specs.Prelude.{◌||◌}
use Rattle.std.specs.List.{list_any, zip}
use Rattle.std.specs.Map.{lookup}
use Rattle.std.proofs.lemmas.List.{length-map}
use Rattle.std.proofs.lemmas.Bool.{cases_lt, lt-ltb, le-ltb, lt-leb, eqb-true}
use Rattle.merkle_base.specs.Tree.{Tree, position}
use Rattle.merkle_base.specs.Forest.{forest, size}
use Rattle.merkle_base.specs.Hashing.{Hashing}
use Rattle.merkle_base.specs.Digests.{digest_at, node_digests, peak_digests}
use Rattle.merkle_base.specs.Places.{peaks_of, peak_positions}
use Rattle.merkle_base.proofs.Cases.{by_test}
use Rattle.merkle_base.proofs.Lookup.{peak_node}
use Rattle.merkle_base.proofs.Nodes.{size_le}
use Rattle.merkle_batch_theory.specs.Contents.{Agrees, is_kept}
use Rattle.merkle_batch_theory.specs.Components.{AreComponents, made_of}
use Rattle.merkle_batch_theory.specs.MemModel.{contents}
use Rattle.merkle_batch_theory.proofs.HeldNodes.{stored_at, stored_reads}
use Rattle.merkle_base.proofs.Reversed.{get_reversed}
use Rattle.merkle_batch_theory.proofs.ListFacts.{get_drop}
use Rattle.merkle_batch_theory.proofs.Kept.{kept_from}
use Rattle.merkle_batch_theory.proofs.PinFacts.{zip_before}
use Rattle.merkle_batch_theory.proofs.ShownLists.{taken}
use Rattle.merkle_batch_theory.proofs.Steps.{node_digest_at, digests_length}

-- at a peak's position its digest, which is that of all at this position
lookup_digests : {D : Type 0} (f : Tree → D) (ns : List D) (p : ℕ) (ts : List Tree) → ((i : ℕ) (t : Tree) → slice_get ts i ≡ Some t → Some (f t) ≡ slice_get ns (position t)) →
    lookup (nat_eq p) (zip (map position ts) (map f ts)) ≡ cond (list_any (nat_eq p) (map position ts)) (slice_get ns p) None
lookup_digests f ns p [] g = refl
lookup_digests f ns p (t ∷ ts) g = by_test
    (λ b. cond b (Some (f t)) (lookup (nat_eq p) (zip (map position ts) (map f ts))) ≡ cond (b || list_any (nat_eq p) (map position ts)) (slice_get ns p) None)
    (nat_eq p (position t))
    (λ e. g 0 t refl ∙ ap (slice_get ns) (sym (eqb-true p (position t) e)))
    (λ e. lookup_digests f ns p ts (λ i u d. g (suc i) u d))

module _ {D : Type 0} (h : Hashing D) (rule : List ℕ → List ℕ) (X : List D) (b : ℕ) (within : b ≤ length X) where
  long : length (take b X) ≡ b
  long = omega (arith, within, length-take b X)

  peak_digest : (i : ℕ) (t : Tree) → slice_get (peaks_of rule b) i ≡ Some t → Some (digest_at h (take b X) t) ≡ slice_get (node_digests h rule X) (position t)
  peak_digest i t e =
      let j = get_reversed (forest rule b).peaks i t e in
      let at = peak_node rule b j.0 t j.1 in
      sym (node_digest_at h rule (take b X) (position t) t (subst (λ m. slice_get (forest rule m).nodes (position t) ≡ Some t) (sym long) at)) ∙ taken h rule X b (position t) t within at

  old_peaks : peak_digests h rule (take b X) ≡ map (digest_at h (take b X)) (peaks_of rule b)
  old_peaks = ap (λ m. map (digest_at h (take b X)) (peaks_of rule m)) long

  module _ (pins nodes : List D) (rest : nodes ≡ drop (size rule b) (node_digests h rule X)) (old : pins ≡ peak_digests h rule (take b X)) where
    counts : size rule b + length nodes ≡ size rule (length X)
    counts = omega (arith, ap length rest, length-drop (size rule b) (node_digests h rule X), digests_length h rule X, size_le rule b (length X) within)

    as_many : length pins ≡ length (peak_positions rule b)
    as_many = ap length (old ∙ old_peaks) ∙ length-map (peaks_of rule b) (digest_at h (take b X)) ∙ sym (length-map (peaks_of rule b) position)

    pinned_at : (p : ℕ) → lookup (nat_eq p) (zip (peak_positions rule b) pins) ≡ cond (list_any (nat_eq p) (peak_positions rule b)) (slice_get (node_digests h rule X) p) None
    pinned_at p = ap (λ ds. lookup (nat_eq p) (zip (peak_positions rule b) ds)) (old ∙ old_peaks) ∙ lookup_digests (digest_at h (take b X)) (node_digests h rule X) p (peaks_of rule b) peak_digest

    held_at : (p : ℕ) → stored_at (zip (peak_positions rule b) pins) (size rule b) nodes p ≡ cond (is_kept rule b p) (slice_get (node_digests h rule X) p) None
    held_at p = elim (cases_lt p (size rule b)) [
      | inl l ↦ rw (lt-ltb p (size rule b) l, lt-leb (size rule b) p l) (pinned_at p)
      | inr l ↦ rw (le-ltb p (size rule b) l, kept_from rule b p l)
          (let at : size rule b + (p - size rule b) ≡ p = omega (arith, l) in
          ap (λ ds. slice_get ds (p - size rule b)) rest ∙ get_drop (size rule b) (p - size rule b) (node_digests h rule X) ∙ ap (slice_get (node_digests h rule X)) at)
    ]

-- a structure that is made of the digests of X agrees with X
pub honest_agrees : {D : Type 0} (h : Hashing D) (rule : List ℕ → List ℕ) (X : List D) (b n : ℕ) (pins nodes : List D)
    → AreComponents h rule X b pins nodes → Agrees h rule (contents (made_of rule b n pins nodes)) X
honest_agrees h rule X b n pins nodes of = record {
  sized = counts h rule X b of.within pins nodes of.nodes_are of.peaks_are;
  bounded = of.within;
  holds = λ p. stored_reads (zip (peak_positions rule b) pins) (size rule b) nodes
      (zip_before rule b pins (as_many h rule X b of.within pins nodes of.nodes_are of.peaks_are)) p
      ∙ held_at h rule X b of.within pins nodes of.nodes_are of.peaks_are p;
}
