-- What holds of the proofs that a store answers, and of its refusals.
use Rattle.std.specs.Prelude.{◌≡◌, ℕ, ◌<◌, ◌≤◌, ◌-◌, ◌⊎◌, List, [], ◌∷◌, ◌++◌, length, map, take, drop, Some, None, slice_get}
use Rattle.std.specs.List.{AllByRecursion}
use Rattle.merkle_base.specs.Tree.{Tree, position, end_leaf}
use Rattle.merkle_base.specs.Places.{peaks_of, wholly_before, peak_positions}
use Rattle.merkle_root_theory.specs.Plan.{root_plan}
use Rattle.merkle_base.specs.Scheme.{Scheme}
use Rattle.merkle_root_theory.specs.Check.{RangeInput}
use Rattle.merkle_root_theory.specs.Range.{end_of, range_siblings, range_digests, AcceptsNonempty, IsHonestNonempty}
use Rattle.merkle_base.specs.Table.{digest_for}
use Rattle.merkle_claim_theory.specs.Store.{sub_digests}
use Rattle.merkle_store_theory.specs.StoreValue.{StoreValue, store_of}
use Rattle.merkle_store_theory.specs.StoreProof.{held_prefix, asked_prefix, asked_single, asked_suffix, suffix_front, store_proof, store_refusal}

-- the proof that a store answers has the digests that stand in the claim of the store's own proof
abbrev pub StoreReadsClaim : Type 0 → Type 0
StoreReadsClaim D = (s : Scheme D) (r q : RangeInput D) (root : D) → AcceptsNonempty s r root → 0 < length q.elements → r.start ≤ q.start → end_of q ≤ end_of r
    → store_proof s (store_of s r root) q.start (end_of q) ≡ sub_digests s r q (root_plan s.bagging r.inactive (peaks_of s.rule r.leaves))

-- inside its range a store refuses nothing
abbrev pub StoreAnswers : Type 0 → Type 0
StoreAnswers D = (s : Scheme D) (r : RangeInput D) (root : D) (a b : ℕ) → AcceptsNonempty s r root → a < b → r.start ≤ a → b ≤ end_of r
    → store_refusal s (store_of s r root) a b ≡ None

-- q has the proof that the store of r answers for a part of its range, with the elements of r there
pub record IsStoreProof {D : Type 0} (s : Scheme D) (r q : RangeInput D) (root : D) : Type 0 where
  pub nonempty : 0 < length q.elements
  pub from : r.start ≤ q.start
  pub to : end_of q ≤ end_of r
  pub leaves : q.leaves ≡ r.leaves
  pub inactive : q.inactive ≡ r.inactive
  pub digests : q.digests ≡ store_proof s (store_of s r root) q.start (end_of q)
  pub elements : q.elements ≡ take (length q.elements) (drop (q.start - r.start) r.elements)

-- the proof that a store answers for a part of an accepted range is accepted, whatever the hash
abbrev pub StoreIsAccepted : Type 0 → Type 0
StoreIsAccepted D = (s : Scheme D) (r q : RangeInput D) (root : D) → AcceptsNonempty s r root → IsStoreProof s r q root → AcceptsNonempty s q root

-- the pairs have a digest for each of the nodes
abbrev pub AreHeld : {D : Type 0} → StoreValue D → List Tree → Type 0
AreHeld {D} v ts = AllByRecursion (λ t. (e : D) × (digest_for (map (λ x. x.0) v.pairs) (map (λ x. x.1) v.pairs) (position t) ≡ Some e)) ts

-- each node that a proof of a..b reads is held
pub record ReadsHeld {D : Type 0} (s : Scheme D) (v : StoreValue D) (a b : ℕ) : Type 0 where
  pub prefix : AreHeld v (drop (length (held_prefix s v)) (asked_prefix s v a))
  pub single : AreHeld v (asked_single s v a b)
  pub suffix : AreHeld v (suffix_front v (asked_suffix s v a b))
  pub siblings : AreHeld v (range_siblings a b (peaks_of s.rule v.leaves))
  -- a prefix begins with the store's own, and a suffix ends with it
  pub begins : (asked_prefix s v a ≡ []) ⊎ (asked_prefix s v a ≡ held_prefix s v ++ drop (length (held_prefix s v)) (asked_prefix s v a))
  pub ends : (asked_suffix s v a b ≡ []) ⊎ (map position (asked_suffix s v a b) ≡ map position (suffix_front v (asked_suffix s v a b)) ++ v.suffix_peaks)

-- wherever a store refuses nothing, each node that the proof of a..b reads is held, for any store and any range
abbrev pub AnsweredIsHeld : Type 0 → Type 0
AnsweredIsHeld D = (s : Scheme D) (v : StoreValue D) (a b : ℕ) → store_refusal s v a b ≡ None → ReadsHeld s v a b

-- the node at p is the first of the peaks that isn't wholly before a
pub record IsFirstReaching (a : ℕ) (ts : List Tree) (p : ℕ) : Type 0 where
  pub before : List Tree
  pub node : Tree
  pub after : List Tree
  pub split : ts ≡ before ++ node ∷ after
  pub wholly : AllByRecursion (λ t. end_leaf t ≤ a) before
  pub reaches : a < end_leaf node
  pub stands : p ≡ position node

-- a nonempty prefix that is shorter than the store's is refused, by the first of the peaks folded in the store's that isn't wholly before a
abbrev pub ShorterIsRefused : Type 0 → Type 0
ShorterIsRefused D = (s : Scheme D) (v : StoreValue D) (a b : ℕ) → 0 < length (asked_prefix s v a) → length (asked_prefix s v a) < length (held_prefix s v)
    → (p : ℕ) × (store_refusal s v a b ≡ Some p) × IsFirstReaching a (held_prefix s v) p

-- a nonempty prefix that is shorter than the store's is refused by the first of all peaks that isn't wholly before a
abbrev pub ShorterIsNext : Type 0 → Type 0
ShorterIsNext D = (s : Scheme D) (v : StoreValue D) (a b : ℕ) → 0 < length (asked_prefix s v a) → length (asked_prefix s v a) < length (held_prefix s v)
    → store_refusal s v a b ≡ slice_get (peak_positions s.rule v.leaves) (length (wholly_before a (peaks_of s.rule v.leaves)))

-- the store of a list's honest proof answers its honest proofs
abbrev pub HonestStoreIsHonest : Type 0 → Type 0
HonestStoreIsHonest D = (s : Scheme D) (xs : List D) (k : ℕ) (r : RangeInput D) (root : D) (a b : ℕ)
    → IsHonestNonempty s xs k r → AcceptsNonempty s r root → a < b → r.start ≤ a → b ≤ end_of r
    → store_proof s (store_of s r root) a b ≡ range_digests s xs k a b
