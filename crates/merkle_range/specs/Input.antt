-- What a check of a range is given.
use Rattle.std.specs.Prelude.{◌≡◌, ℕ, List}
use Rattle.merkle_root_theory.specs.Check.{RangeInput, root_of, range_expression}
use Rattle.merkle_base.specs.Scheme.{Scheme}
use Rattle.merkle_root_theory.specs.Reconstruction.{HasShape}
use Rattle.merkle_range.specs.declared.checks.ProofParts.{ProofParts}
pub use Rattle.merkle_hasher.specs.LeafDigests.{leaf_digests}

-- the input of a proof of n leaves, of which k peaks are inactive, with the leaves of these digests from location a on
abbrev pub digest_input : {D : Type 0} → (n k : ℕ) → List D → ℕ → List D → RangeInput D
digest_input n k ds a leaves = record { leaves = n; inactive = k; digests = ds; start = a; elements = leaves }

-- the input of a proof of n leaves, of which k peaks are inactive, with the elements from location a on
abbrev pub range_input : {D : Type 0} → Scheme D → (n k : ℕ) → List D → ℕ → List (List ℕ) → RangeInput D
range_input s n k ds a es = digest_input n k ds a (leaf_digests s.hashing s.rule a es)

-- the input of a proof that is given in parts, with the leaves of these digests from location a on
abbrev pub digest_input_of_parts : {F D : Type 0} → ProofParts F D → ℕ → List D → RangeInput D
digest_input_of_parts p a leaves = digest_input p.leaves p.inactive p.digests.now a leaves

-- the input of a proof that is given in parts, with the elements from location a on
abbrev pub input_of_parts : {F D : Type 0} → Scheme D → ProofParts F D → ℕ → List (List ℕ) → RangeInput D
input_of_parts s p a es = digest_input_of_parts p a (leaf_digests s.hashing s.rule a es)

-- d is the root that an input with elements leads to
abbrev pub IsComputed : {D : Type 0} → Scheme D → RangeInput D → D → Type 0
IsComputed s r d = HasShape s r × (d ≡ root_of s r.leaves r.inactive (range_expression s r))
