-- The digests of a list, as the digests that positions must have.
use Rattle.std.proofs.Common.{◌≡◌, ℕ, suc, ◌+◌, ◌≤◌, List, [], ◌∷◌, ◌++◌, length, map, drop, Some, slice_get, arith, refl, sym, ap, ◌∙◌}
use Rattle.std.specs.Option.{option_map_or}
use Rattle.std.specs.List.{range_with_len}
use Rattle.std.proofs.Math.Seq.{drop-append_seam}
use Rattle.std.proofs.lemmas.List.{map-append}
use Rattle.std.proofs.lemmas.List.FromFn.{length-map-range_with_len}
use Rattle.merkle_base.specs.Tree.{Tree, position}
use Rattle.merkle_base.specs.Forest.{forest, size}
use Rattle.merkle_base.specs.Hashing.{Hashing}
use Rattle.merkle_base.specs.Digests.{digest_at, node_digests, peak_digests}
use Rattle.merkle_base.specs.Places.{peaks_of, peak_positions}
use Rattle.merkle_base.proofs.Lookup.{peak_node}
use Rattle.merkle_base.proofs.Nodes.{node_stays, range-add}
use Rattle.merkle_batch_theory.specs.Assignment.{digests_from}
use Rattle.merkle_base.proofs.Reversed.{get_reversed}

-- the digest of a list at the node that stands at a position of the largest forest
pub truth_of : {D : Type 0} → Hashing D → (List ℕ → List ℕ) → ℕ → List D → ℕ → D
truth_of h rule max_leaves Y p = option_map_or (digest_at h Y) (slice_get (forest rule max_leaves).nodes p) h.empty

module _ {D : Type 0} (h : Hashing D) (rule : List ℕ → List ℕ) (max_leaves : ℕ) (Y : List D) (long : length Y ≤ max_leaves) where
  pub truth_at : (n p : ℕ) (t : Tree) → n ≤ max_leaves → slice_get (forest rule n).nodes p ≡ Some t → truth_of h rule max_leaves Y p ≡ digest_at h Y t
  unfolding truth_of
  truth_at n p t l e = ap (λ o. option_map_or (digest_at h Y) o h.empty) (node_stays rule n max_leaves p t l e)

  -- the nodes of a forest are what they must be
  digests_from_of : (p : ℕ) (ns : List Tree) → ((i : ℕ) (t : Tree) → slice_get ns i ≡ Some t → truth_of h rule max_leaves Y (p + i) ≡ digest_at h Y t)
      → digests_from (truth_of h rule max_leaves Y) p (length ns) ≡ map (digest_at h Y) ns
  digests_from_of p [] e = refl
  digests_from_of p (t ∷ ns) e =
      let here : truth_of h rule max_leaves Y p ≡ digest_at h Y t = (let z : p ≡ p + 0 = omega arith in ap (truth_of h rule max_leaves Y) z ∙ e 0 t refl) in
      let rest = digests_from_of (p + 1) ns (λ i u f. (let z : p + 1 + i ≡ p + suc i = omega arith in ap (truth_of h rule max_leaves Y) z ∙ e (suc i) u f)) in
      ap (λ d. d ∷ digests_from (truth_of h rule max_leaves Y) (p + 1) (length ns)) here ∙ ap (λ ds. digest_at h Y t ∷ ds) rest

  digests_from_whole : digests_from (truth_of h rule max_leaves Y) 0 (size rule (length Y)) ≡ node_digests h rule Y
  digests_from_whole = digests_from_of 0 (forest rule (length Y)).nodes (λ i t e. (let z : 0 + i ≡ i = omega arith in ap (truth_of h rule max_leaves Y) z ∙ truth_at (length Y) i t long e))

  -- those that are appended after so many nodes
  pub appended_whole : (b : ℕ) (ds : List D) → b + length ds ≡ size rule (length Y) → ds ≡ digests_from (truth_of h rule max_leaves Y) b (length ds) → ds ≡ drop b (node_digests h rule Y)
  appended_whole b ds counted same =
      let f = truth_of h rule max_leaves Y in
      let parts : digests_from f 0 b ++ digests_from f b (length ds) ≡ digests_from f 0 (b + length ds) =
      (let z : 0 + b ≡ b = omega arith in ap (λ (k : ℕ). digests_from f 0 b ++ digests_from f k (length ds)) (sym z)
      ∙ sym (map-append f (range_with_len 0 b) (range_with_len (0 + b) (length ds))) ∙ ap (map f) (range-add 0 b (length ds))) in
      let whole : digests_from f 0 b ++ digests_from f b (length ds) ≡ node_digests h rule Y = parts ∙ ap (digests_from f 0) counted ∙ digests_from_whole in
      same ∙ sym (drop-append_seam (digests_from f 0 b) (digests_from f b (length ds)))
      ∙ ap (λ (k : ℕ). drop k (digests_from f 0 b ++ digests_from f b (length ds))) (length-map-range_with_len f 0 b) ∙ ap (drop b) whole

  -- the peaks
  peaks_each : (ts : List Tree) → ((i : ℕ) (t : Tree) → slice_get ts i ≡ Some t → truth_of h rule max_leaves Y (position t) ≡ digest_at h Y t)
      → map (truth_of h rule max_leaves Y) (map position ts) ≡ map (digest_at h Y) ts
  peaks_each [] e = refl
  peaks_each (t ∷ ts) e = ap (λ d. d ∷ map (truth_of h rule max_leaves Y) (map position ts)) (e 0 t refl) ∙ ap (λ ds. digest_at h Y t ∷ ds) (peaks_each ts (λ i u f. e (suc i) u f))

  pub peaks_whole : map (truth_of h rule max_leaves Y) (peak_positions rule (length Y)) ≡ peak_digests h rule Y
  peaks_whole = peaks_each (peaks_of rule (length Y)) (λ i t e.
      (let k = get_reversed (forest rule (length Y)).peaks i t e in truth_at (length Y) (position t) t long (peak_node rule (length Y) k.0 t k.1)))
