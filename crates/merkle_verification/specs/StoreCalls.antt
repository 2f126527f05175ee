-- What the calls of a store answer.
use Rattle.std.specs.Prelude.{◌≡◌, ℕ, ◌+◌, ◌≤◌, ◌<◌, ◌⊎◌, ◌-◌, List, [], take, drop, Some, None, Ok, Result, IfOk, length}
use Rattle.merkle_base.specs.Hashing.{Hashing}
use Rattle.merkle_base.specs.Scheme.{Scheme}
use Rattle.merkle_base.specs.Refused.{UnlessMemory}
use Rattle.merkle_base.specs.declared.error.Error.{Error}
use Rattle.merkle_base.specs.declared.error.Error.TheVariants.{ElementPruned, Empty}
use Rattle.merkle_range.specs.Extracting.{IsExtractionRefusal}
use Rattle.merkle_root_theory.specs.Reconstruction.{reconstructed}
use Rattle.merkle_root_theory.specs.Check.{RangeInput}
use Rattle.merkle_root_theory.specs.Range.{end_of, AcceptsNonempty}
use Rattle.merkle_store_theory.specs.StoreValue.{StoreValue, store_of}
use Rattle.merkle_store_theory.specs.StoreProof.{store_proof, store_refusal}
use Rattle.merkle_hasher.specs.LeafDigests.{leaf_digests}
use Rattle.merkle_range.specs.Input.{range_input}
use Rattle.merkle_proof.specs.Input.{input_of}
use Rattle.merkle_proof.specs.RangePlans.{IsRefusal}
use Rattle.merkle_proof.specs.declared.proof.Proof.{Proof}

-- why there is no store of a proof: it is refused, or it is the empty one; memory aside
abbrev pub RefusesStore : {F D E : Type 0} → Scheme D → RangeInput D → D → (elements : List E) → Error F → Type 0
RefusesStore s r root elements =
    UnlessMemory (λ e. IsExtractionRefusal s r root e ⊎ ((reconstructed s r ≡ Ok root) × (elements ≡ []) × (e ≡ Empty)))

-- P of each accepted input whose store this is
abbrev pub ForStored : {D : Type 0} → Scheme D → StoreValue D → (RangeInput D → D → Type 0) → Type 0
ForStored {D} s v P = (r : RangeInput D) (root : D) → v ≡ store_of s r root → AcceptsNonempty s r root → P r root

-- P, where a..b lies within the input's range
abbrev pub ForPart : {D : Type 0} → RangeInput D → (a b : ℕ) → Type 0 → Type 0
ForPart r a b P = r.start ≤ a → b ≤ end_of r → P

-- P, where a..b has leaves and lies within the input's range
abbrev pub ForNonemptyPart : {D : Type 0} → RangeInput D → (a b : ℕ) → Type 0 → Type 0
ForNonemptyPart r a b P = a < b → ForPart r a b P

-- a proof with those elements of an input that lie in a..b
abbrev pub part_input : {F D Peaks Heights : Type 0} → Proof F D Peaks Heights → RangeInput D → (a b : ℕ) → RangeInput D
part_input p r a b =
    record { leaves = p.leaves; inactive = p.inactive_peaks; digests = p.digests.items; start = a; elements = take (b - a) (drop (a - r.start) r.elements) }

-- what is answered for a part of the input's range is accepted
abbrev pub AcceptsPart : {F D E Peaks Heights : Type 0} → Scheme D → RangeInput D → D → (a b : ℕ) → Result (Proof F D Peaks Heights) E → Type 0
AcceptsPart s r root a b answer = ForPart r a b (IfOk answer (λ p. AcceptsNonempty s (part_input p r a b) root))

-- why a store answers no proof of a..b: there is no plan of it, or a node is pruned
abbrev pub IsStoreRefusal : {F D : Type 0} → Scheme D → StoreValue D → (a b : ℕ) → Error F → Type 0
IsStoreRefusal s v a b e = IsRefusal s.max_leaves v.leaves a b e
    ⊎ ((a < b) × (b ≤ v.leaves) × ((p : ℕ) × (e ≡ ElementPruned p) × (store_refusal s v a b ≡ Some p)))

-- the proof of a..b that a store answers, where it names no node as pruned
pub record IsPartProof {F D Peaks Heights : Type 0} (s : Scheme D) (v : StoreValue D) (a b : ℕ) (p : Proof F D Peaks Heights) : Type 0 where
  pub nonempty : a < b
  pub within : b ≤ v.leaves
  pub leaves : p.leaves ≡ v.leaves
  pub inactive : p.inactive_peaks ≡ v.inactive
  pub digests : p.digests.items ≡ store_proof s v a b
  pub unrefused : store_refusal s v a b ≡ None

-- the elements that lie in a..b, of elements from location start on
abbrev pub elements_within : (start a b : ℕ) → List (List ℕ) → List (List ℕ)
elements_within start a b es = take (b - a) (drop (a - start) es)

-- the leaf digests of the elements in a..b are the part in a..b of the leaf digests of all elements
abbrev pub PartHasPartDigests : Type 0 → Type 0
PartHasPartDigests D = (h : Hashing D) (rule : List ℕ → List ℕ) (start a b : ℕ) (es : List (List ℕ)) → start ≤ a
    → leaf_digests h rule a (elements_within start a b es) ≡ take (b - a) (drop (a - start) (leaf_digests h rule start es))

-- the store of an accepted input refuses no part of its range
abbrev pub NoPartIsRefused : Type 0 → Type 0 → Type 0
NoPartIsRefused F D = (s : Scheme D) (r : RangeInput D) (root : D) (a b : ℕ) (e : Error F)
    → AcceptsNonempty s r root → a < b → r.start ≤ a → b ≤ end_of r → IsStoreRefusal s (store_of s r root) a b e → ⊥

-- the proof that the store of an accepted input answers for a part of its range is accepted
abbrev pub AnsweredIsAccepted : (F D Peaks Heights : Type 0) → Type 0
AnsweredIsAccepted F D Peaks Heights = (s : Scheme D) (r : RangeInput D) (root : D) (a b : ℕ) (p : Proof F D Peaks Heights)
    → AcceptsNonempty s r root → r.start ≤ a → b ≤ end_of r → IsPartProof s (store_of s r root) a b p → AcceptsNonempty s (part_input p r a b) root

-- if the check accepts a proof of n leaves with these elements, it accepts what the store of that proof answers for a part of their range
abbrev pub IsPartChecked : {F D E Peaks Heights : Type 0} → Scheme D → StoreValue D → (a b : ℕ) → Result (Proof F D Peaks Heights) E → Type 0
IsPartChecked {D = D} s v a b answer =
    (n k start : ℕ) (ds : List D) (es : List (List ℕ)) (root : D) → let r = range_input s n k ds start es in
    v ≡ store_of s r root → reconstructed s r ≡ Ok root → 0 < length es → start ≤ a → b ≤ start + length es
    → IfOk answer (λ p. reconstructed s (input_of s p a (elements_within start a b es)) ≡ Ok root)
