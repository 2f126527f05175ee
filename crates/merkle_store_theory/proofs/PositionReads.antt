-- A store's proof and its refusals by positions.
use Rattle.std.proofs.Common.{◌≡◌, ℕ, ◌+◌, ◌-◌, ◌&&◌, ◌<◌, ⊎_elim, nat_lt, cond, List, [], ◌∷◌, ◌++◌, refl, ap, ap₂, sym, ◌∙◌, subst, arith, length, map}
use Rattle.std.proofs.Common.{reverse, take, drop, Some, None, slice_get, append_assoc, length-append, lt-ltb, le-ltb}
use Rattle.std.specs.Option.{option_to_list, option_or}
use Rattle.std.proofs.lemmas.Bool.{cases_lt, and_right}
use Rattle.std.proofs.lemmas.List.{take-map, drop-map, map-append, length-map, reverse-append}
use Rattle.std.proofs.Math.Seq.{take-append_seam, drop-append_seam}
use Rattle.merkle_base.specs.Tree.{Tree, position}
use Rattle.merkle_base.specs.Hashing.{Hashing}
use Rattle.merkle_base.specs.Places.{peaks_of, wholly_before, peak_positions}
use Rattle.merkle_base.specs.Root as root
use Rattle.merkle_base.specs.declared.family.Bagging.TheVariants.{ForwardFold}
use Rattle.merkle_base.proofs.PeakLists.{peaks_spans}
use Rattle.merkle_base.specs.Scheme.{Scheme}
use Rattle.merkle_root_theory.specs.Outside.{single_before, single_after}
use Rattle.merkle_root_theory.specs.Range.{wholly_after, range_siblings}
use Rattle.merkle_root_theory.specs.Reads.{nodes_read}
use Rattle.merkle_claim_theory.specs.Store.{read_pair}
use Rattle.merkle_store_theory.specs.StoreValue.{StoreValue}
use Rattle.merkle_store_theory.specs.StoreProof.{found_at, held_prefix, asked_prefix, asked_met, asked_suffix, suffix_front, read_nodes, prefix_part}
use Rattle.merkle_store_theory.specs.StoreProof.{suffix_part, prefix_refusal, first_reaching, first_lacking, ends_with, suffix_lacking, suffix_refusal}
use Rattle.merkle_store_theory.specs.StoreProof.{store_proof, store_refusal}
use Rattle.merkle_store_theory.specs.StoreReads.{Counts, AreCounts, single_reads, suffix_reads, sibling_reads, read_at, prefix_at, suffix_at, proof_at}
use Rattle.merkle_store_theory.specs.StoreReads.{lacking_at, suffix_refusal_at, refusal_at, ReadsByPosition}
use Rattle.merkle_store_theory.proofs.GroupedParts.{before_whole, after_whole}
use Rattle.merkle_store_theory.proofs.StoreHolds.{prefix_reach}

-- the positions of reversed peaks
map-reverse : (ts : List Tree) → map position (reverse ts) ≡ reverse (map position ts)
map-reverse [] = refl
map-reverse (t ∷ ts) =
    ap (map position) (reverse-append (t ∷ []) ts) ∙ map-append position (reverse ts) (t ∷ [])
    ∙ ap (λ (z : List ℕ). z ++ position t ∷ []) (map-reverse ts) ∙ sym (reverse-append (position t ∷ []) (map position ts))

module _ {D : Type 0} (h : Hashing D) (v : StoreValue D) where
  read_all : (ts : List Tree) → read_nodes h v ts ≡ read_at h v (map position ts)
  read_all [] = refl
  read_all (t ∷ ts) = ap (λ z. read_pair h v.pairs (position t) ∷ z) (read_all ts)

  prefix_by : (held : ℕ) (ts : List Tree) → prefix_part h v held ts ≡ prefix_at h v held (map position ts)
  prefix_by held [] = refl
  prefix_by held (t ∷ ts) = ap (λ z. option_to_list (root.folded h.fold ForwardFold 0 (option_to_list v.prefix ++ z)))
      (read_all (drop held (t ∷ ts)) ∙ ap (read_at h v) (sym (drop-map position held (t ∷ ts))))

  front_by : (ts : List Tree) → map position (suffix_front v ts) ≡ take (length (map position ts) - length v.suffix_peaks) (map position ts)
  front_by ts = sym (take-map position (length ts - length v.suffix_peaks) ts) ∙ ap (λ z. take (z - length v.suffix_peaks) (map position ts)) (sym (length-map ts position))

  suffix_by : (ts : List Tree) → suffix_part h v ts ≡ suffix_at h v (map position ts)
  suffix_by [] = refl
  suffix_by (t ∷ ts) = ap (λ z. option_to_list (root.right_fold h.fold (z ++ option_to_list v.suffix))) (read_all (suffix_front v (t ∷ ts)) ∙ ap (read_at h v) (front_by (t ∷ ts)))

  lacking_by : (qs : List ℕ) (ts : List Tree) → suffix_lacking v qs ts ≡ lacking_at v qs (map position ts)
  lacking_by [] ts = ap (first_lacking (found_at v.pairs)) (map-reverse ts)
  lacking_by (q ∷ qs) ts = ap (λ z. cond (ends_with (map position ts) (q ∷ qs)) (first_lacking (found_at v.pairs) z) (Some q)) (map-reverse (suffix_front v ts) ∙ ap reverse (front_by ts))

  suffix_refusal_by : (ts : List Tree) → suffix_refusal v ts ≡ suffix_refusal_at v (map position ts)
  suffix_refusal_by [] = refl
  suffix_refusal_by (t ∷ ts) = lacking_by v.suffix_peaks (t ∷ ts)

-- the parts of a list made of five
module _ (us ws xs ys zs : List ℕ) where
  abbrev all : List ℕ
  all = (us ++ ws) ++ ((xs ++ ys) ++ zs)

  part_one : take (length us) all ≡ us
  part_one = ap (take (length us)) (append_assoc us ws ((xs ++ ys) ++ zs)) ∙ take-append_seam us (ws ++ ((xs ++ ys) ++ zs))

  part_two : drop (length us) (take (length (us ++ ws)) all) ≡ ws
  part_two = ap (drop (length us)) (take-append_seam (us ++ ws) ((xs ++ ys) ++ zs)) ∙ drop-append_seam us ws

  part_three : take (length xs) (drop (length (us ++ ws)) all) ≡ xs
  part_three = ap (take (length xs)) (drop-append_seam (us ++ ws) ((xs ++ ys) ++ zs) ∙ append_assoc xs ys zs) ∙ take-append_seam xs (ys ++ zs)

  part_four : drop (length xs) (take (length (xs ++ ys)) (drop (length (us ++ ws)) all)) ≡ ys
  part_four = ap (λ z. drop (length xs) (take (length (xs ++ ys)) z)) (drop-append_seam (us ++ ws) ((xs ++ ys) ++ zs)) ∙ ap (drop (length xs)) (take-append_seam (xs ++ ys) zs) ∙ drop-append_seam xs ys

  part_five : drop (length (us ++ ws) + length (xs ++ ys)) all ≡ zs
  part_five = ap₂ drop (sym (length-append (us ++ ws) (xs ++ ys))) (sym (append_assoc (us ++ ws) (xs ++ ys) zs)) ∙ drop-append_seam ((us ++ ws) ++ (xs ++ ys)) zs

module _ {D : Type 0} (s : Scheme D) (v : StoreValue D) (a b : ℕ) (n : Counts) (c : AreCounts s v a b n) where
  abbrev ts : List Tree
  ts = peaks_of s.rule v.leaves

  abbrev reads : List ℕ
  reads = map position (nodes_read s.rule v.leaves a b)

  abbrev us : List Tree
  us = asked_prefix s v a

  abbrev ws : List Tree
  ws = single_before v.bagging v.inactive (wholly_before a ts)

  abbrev xs : List Tree
  xs = single_after v.bagging v.inactive (asked_met s v a b) (wholly_after b ts)

  abbrev ys : List Tree
  ys = asked_suffix s v a b

  abbrev zs : List Tree
  zs = range_siblings a b ts

  abbrev at : List Tree → List ℕ
  at us = map position us

  before_is : at us ++ at ws ≡ at (wholly_before a ts)
  before_is = sym (map-append position us ws) ∙ ap at (before_whole v.bagging v.inactive (wholly_before a ts))

  after_is : at xs ++ at ys ≡ at (wholly_after b ts)
  after_is = sym (map-append position xs ys) ∙ ap at (after_whole v.bagging v.inactive (asked_met s v a b) (wholly_after b ts))

  reads_are : reads ≡ (at us ++ at ws) ++ ((at xs ++ at ys) ++ at zs)
  reads_are = map-append position (wholly_before a ts) (wholly_after b ts ++ zs) ∙ ap₂ ◌++◌ (sym before_is) (map-append position (wholly_after b ts) zs ∙ ap (λ z. z ++ at zs) (sym after_is))

  n_folded : n.folded ≡ length (at us)
  n_folded = c.folded ∙ sym (length-map us position)

  n_single : n.single ≡ length (at xs)
  n_single = c.single ∙ sym (length-map xs position)

  n_before : n.before ≡ length (at us ++ at ws)
  n_before = c.before ∙ sym (ap length before_is ∙ length-map (wholly_before a ts) position)

  n_after : n.after ≡ length (at xs ++ at ys)
  n_after = c.after ∙ sym (ap length after_is ∙ length-map (wholly_after b ts) position)

  folded_are : at us ≡ take n.folded reads
  folded_are = sym (ap₂ take n_folded reads_are ∙ part_one (at us) (at ws) (at xs) (at ys) (at zs))

  single_are : at (ws ++ xs) ≡ single_reads n reads
  single_are = map-append position ws xs ∙ ap₂ ◌++◌
      (sym (ap₂ drop n_folded (ap₂ take n_before reads_are) ∙ part_two (at us) (at ws) (at xs) (at ys) (at zs)))
      (sym (ap₂ take n_single (ap₂ drop n_before reads_are) ∙ part_three (at us) (at ws) (at xs) (at ys) (at zs)))

  suffix_are : at ys ≡ suffix_reads n reads
  suffix_are = sym (ap₂ drop n_single (ap₂ take n_after (ap₂ drop n_before reads_are)) ∙ part_four (at us) (at ws) (at xs) (at ys) (at zs))

  siblings_are : at zs ≡ sibling_reads n reads
  siblings_are = sym (ap₂ drop (ap₂ ◌+◌ n_before n_after) reads_are ∙ part_five (at us) (at ws) (at xs) (at ys) (at zs))

  proof_by_position : store_proof s v a b ≡ proof_at s.hashing v n reads
  proof_by_position = ap₂ ◌++◌ (prefix_by s.hashing v (length (held_prefix s v)) us ∙ ap₂ (prefix_at s.hashing v) (sym c.held) folded_are)
      (ap₂ ◌++◌ (read_all s.hashing v (ws ++ xs) ∙ ap (read_at s.hashing v) single_are)
      (ap₂ ◌++◌ (suffix_by s.hashing v ys ∙ ap (suffix_at s.hashing v) suffix_are) (read_all s.hashing v zs ∙ ap (read_at s.hashing v) siblings_are)))

  prefix_refusal_by : prefix_refusal a (held_prefix s v) us ≡ cond (nat_lt 0 n.folded && nat_lt n.folded n.held) (slice_get (peak_positions s.rule v.leaves) n.before) None
  prefix_refusal_by = by_asked us refl ∙ ap₂ (λ x y. cond x (slice_get (peak_positions s.rule v.leaves) y) None) (ap₂ (λ x y. nat_lt 0 x && nat_lt x y) (sym c.folded) (sym c.held)) (sym c.before)
    where
      by_asked : (ps : List Tree) → us ≡ ps
          → prefix_refusal a (held_prefix s v) ps
          ≡ cond (nat_lt 0 (length us) && nat_lt (length us) (length (held_prefix s v))) (slice_get (peak_positions s.rule v.leaves) (length (wholly_before a ts))) None
      by_asked [] e = ap (λ z. cond (nat_lt 0 (length z) && nat_lt (length z) (length (held_prefix s v))) (slice_get (peak_positions s.rule v.leaves) (length (wholly_before a ts))) None) (sym e)
      by_asked (p ∷ ps) e = ⊎_elim
          (λ l. ap (λ z. cond z (first_reaching a (held_prefix s v)) None) (lt-ltb (length (p ∷ ps)) (length (held_prefix s v)) l)
          ∙ prefix_reach v.bagging v.inactive a v.start v.leaves ts (peaks_spans s.rule v.leaves) (subst (λ z. length z < length (held_prefix s v)) (sym e) l)
          ∙ sym (ap (λ z. cond z (slice_get (peak_positions s.rule v.leaves) (length (wholly_before a ts))) None)
          (ap (λ z. nat_lt 0 (length z) && nat_lt (length z) (length (held_prefix s v))) e
          ∙ ap₂ ◌&&◌ (lt-ltb 0 (length (p ∷ ps)) (omega arith)) (lt-ltb (length (p ∷ ps)) (length (held_prefix s v)) l))))
          (λ l. ap (λ z. cond z (first_reaching a (held_prefix s v)) None) (le-ltb (length (p ∷ ps)) (length (held_prefix s v)) l)
          ∙ sym (ap (λ z. cond z (slice_get (peak_positions s.rule v.leaves) (length (wholly_before a ts))) None)
          (ap (λ z. nat_lt 0 (length z) && nat_lt (length z) (length (held_prefix s v))) e ∙ and_right _ _ (le-ltb (length (p ∷ ps)) (length (held_prefix s v)) l))))
          (cases_lt (length (p ∷ ps)) (length (held_prefix s v)))

  refusal_by_position : store_refusal s v a b ≡ refusal_at v n (peak_positions s.rule v.leaves) reads
  refusal_by_position = ap₂ option_or prefix_refusal_by
      (ap₂ option_or (ap (first_lacking (found_at v.pairs)) (sym (drop-map position (length (held_prefix s v)) us) ∙ ap₂ drop (sym c.held) folded_are))
      (ap₂ option_or (ap (first_lacking (found_at v.pairs)) single_are)
      (ap₂ option_or (suffix_refusal_by s.hashing v ys ∙ ap (suffix_refusal_at v) suffix_are) (ap (first_lacking (found_at v.pairs)) siblings_are))))

pub reads_by_position : {D : Type 0} → ReadsByPosition D
reads_by_position s v a b n c = (proof_by_position s v a b n c, refusal_by_position s v a b n c)
