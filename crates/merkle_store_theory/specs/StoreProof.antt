-- The proof that a store answers for a range, and why it answers none.
use Rattle.std.specs.Prelude.{ℕ, ◌+◌, ◌-◌, ◌&&◌, Bool, cond, nat_le, nat_lt, nat_eq, List, [], ◌∷◌, ◌++◌, map, length, take, drop, reverse, Option, Some, None}
use Rattle.std.specs.Option.{option_to_list, option_map_or, option_or, unwrap_or}
use Rattle.std.specs.Cmp.Lexicographic.{pointwise}
use Rattle.merkle_base.specs.Tree.{Tree, position, end_leaf}
use Rattle.merkle_base.specs.Hashing.{Hashing}
use Rattle.merkle_base.specs.Places.{peaks_of, wholly_before}
use Rattle.merkle_base.specs.Root.{right_fold, folded}
use Rattle.merkle_base.specs.declared.family.Bagging.TheVariants.{ForwardFold}
use Rattle.merkle_base.specs.Scheme.{Scheme}
use Rattle.merkle_root_theory.specs.Outside.{folded_prefix, single_before, single_after, folded_suffix}
use Rattle.merkle_root_theory.specs.Range.{overlapping, wholly_after, range_siblings}
use Rattle.merkle_base.specs.Table.{digest_for}
use Rattle.merkle_store_theory.specs.StoreValue.{StoreValue}

-- the digest of the first of the pairs at a position
abbrev pub found_at : {D : Type 0} → List (ℕ × D) → ℕ → Option D
found_at pairs p = digest_for (map (λ x. x.0) pairs) (map (λ x. x.1) pairs) p

-- the peaks folded in the prefix of the store's own proof
abbrev pub held_prefix : {D : Type 0} → Scheme D → StoreValue D → List Tree
held_prefix s v = folded_prefix v.bagging v.inactive (wholly_before v.start (peaks_of s.rule v.leaves))

-- the peaks folded in the prefix of a proof from a on
abbrev pub asked_prefix : {D : Type 0} → Scheme D → StoreValue D → (a : ℕ) → List Tree
asked_prefix s v a = folded_prefix v.bagging v.inactive (wholly_before a (peaks_of s.rule v.leaves))

-- the number of the peaks before the range and of those that overlap it
abbrev pub asked_met : {D : Type 0} → Scheme D → StoreValue D → (a b : ℕ) → ℕ
asked_met s v a b = length (wholly_before a (peaks_of s.rule v.leaves)) + length (overlapping a b (peaks_of s.rule v.leaves))

-- the peaks whose digests stand alone in the proof of a..b, before the range and after it
abbrev pub asked_single : {D : Type 0} → Scheme D → StoreValue D → (a b : ℕ) → List Tree
asked_single s v a b = single_before v.bagging v.inactive (wholly_before a (peaks_of s.rule v.leaves))
    ++ single_after v.bagging v.inactive (asked_met s v a b) (wholly_after b (peaks_of s.rule v.leaves))

-- the peaks folded in the suffix of the proof of a..b
abbrev pub asked_suffix : {D : Type 0} → Scheme D → StoreValue D → (a b : ℕ) → List Tree
asked_suffix s v a b = folded_suffix v.bagging v.inactive (asked_met s v a b) (wholly_after b (peaks_of s.rule v.leaves))

-- the peaks of a suffix that stand before those of the store's own suffix
abbrev pub suffix_front : {D : Type 0} → StoreValue D → List Tree → List Tree
suffix_front v ts = take (length ts - length v.suffix_peaks) ts

-- the digests of nodes, read from the pairs
abbrev pub read_nodes : {D : Type 0} → Hashing D → StoreValue D → List Tree → List D
read_nodes h v ts = map (λ t. unwrap_or (found_at v.pairs (position t)) h.empty) ts

-- the fold of the asked prefix, if there is one: the store's own, and onto it the peaks after the first `held`
abbrev pub prefix_part : {D : Type 0} → Hashing D → StoreValue D → (held : ℕ) → List Tree → List D
prefix_part h v held [] = []
prefix_part h v held (t ∷ ts) = option_to_list (folded h.fold ForwardFold 0 (option_to_list v.prefix ++ read_nodes h v (drop held (t ∷ ts))))

-- the fold of the asked suffix, if there is one: the store's own, taken in by the peaks before it, from the last one on
abbrev pub suffix_part : {D : Type 0} → Hashing D → StoreValue D → List Tree → List D
suffix_part h v [] = []
suffix_part h v (t ∷ ts) = option_to_list (right_fold h.fold (read_nodes h v (suffix_front v (t ∷ ts)) ++ option_to_list v.suffix))

-- the digests of the proof of a..b
abbrev pub store_proof : {D : Type 0} → Scheme D → StoreValue D → (a b : ℕ) → List D
store_proof s v a b =
    prefix_part s.hashing v (length (held_prefix s v)) (asked_prefix s v a)
    ++ (read_nodes s.hashing v (asked_single s v a b)
    ++ (suffix_part s.hashing v (asked_suffix s v a b)
    ++ read_nodes s.hashing v (range_siblings a b (peaks_of s.rule v.leaves))))

-- the position of the first of some peaks that isn't wholly before a
abbrev pub first_reaching : ℕ → List Tree → Option ℕ
first_reaching a [] = None
first_reaching a (t ∷ ts) = cond (nat_le (end_leaf t) a) (first_reaching a ts) (Some (position t))

-- the first of some positions at which there is no node
abbrev pub first_lacking : {D : Type 0} → (ℕ → Option D) → List ℕ → Option ℕ
first_lacking node [] = None
first_lacking {D} node (p ∷ ps) = option_map_or (λ (d : D). first_lacking node ps) (node p) (Some p)

-- the refusal of a prefix: it is nonempty and shorter than the store's
abbrev pub prefix_refusal : ℕ → (held asked : List Tree) → Option ℕ
prefix_refusal a held [] = None
prefix_refusal a held (t ∷ ts) = cond (nat_lt (length (t ∷ ts)) (length held)) (first_reaching a held) None

-- whether the positions end with those of the store's suffix
abbrev pub ends_with : List ℕ → List ℕ → Bool
ends_with ps qs = nat_le (length qs) (length ps) && pointwise nat_eq (drop (length ps - length qs) ps) qs

-- the refusal of a suffix with peaks: it doesn't end with the given positions, the store's own, or a node before those is lacking, the last
-- one first
abbrev pub suffix_lacking : {D : Type 0} → StoreValue D → List ℕ → List Tree → Option ℕ
suffix_lacking v [] ts = first_lacking (found_at v.pairs) (map position (reverse ts))
suffix_lacking v (p ∷ ps) ts =
    cond (ends_with (map position ts) (p ∷ ps)) (first_lacking (found_at v.pairs) (map position (reverse (suffix_front v ts)))) (Some p)

-- the refusal of a suffix, if there is one
abbrev pub suffix_refusal : {D : Type 0} → StoreValue D → List Tree → Option ℕ
suffix_refusal v [] = None
suffix_refusal v (t ∷ ts) = suffix_lacking v v.suffix_peaks (t ∷ ts)

-- the position that a store names as pruned in place of a proof of a..b, if it does
abbrev pub store_refusal : {D : Type 0} → Scheme D → StoreValue D → (a b : ℕ) → Option ℕ
store_refusal s v a b =
    option_or (prefix_refusal a (held_prefix s v) (asked_prefix s v a))
    (option_or (first_lacking (found_at v.pairs) (map position (drop (length (held_prefix s v)) (asked_prefix s v a))))
    (option_or (first_lacking (found_at v.pairs) (map position (asked_single s v a b)))
    (option_or (suffix_refusal v (asked_suffix s v a b))
    (first_lacking (found_at v.pairs) (map position (range_siblings a b (peaks_of s.rule v.leaves)))))))
