-- What a call is given as one argument.
use Rattle.std.specs.Prelude.{ℕ, List}
use Rattle.std.specs.Borrow.{Bor}
use Rattle.merkle_base.specs.Scheme.{Scheme}
use Rattle.merkle_hasher.specs.LeafDigests.{bytes_of}
use Rattle.merkle_proof.specs.Input.{digest_input_of, input_of}
use Rattle.merkle_proof.specs.declared.proof.Proof.{Proof}
use Rattle.merkle_root_theory.specs.Check.{RangeInput}
use Rattle.merkle_audit_parts.specs.Found.{IsPinnedVerdict}
use Rattle.merkle_audit_parts.specs.declared.verdict.Verdict.{Verdict}

-- a proof, the digests of its leaves, and where they begin
abbrev pub given_digest_input : {F D Peaks Heights : Type 0} → Bor (Proof F D Peaks Heights) × Bor (List D) × ℕ → RangeInput D
given_digest_input x = digest_input_of x.0.now x.2 x.1.now

-- a proof, its elements, and where they begin
abbrev pub given_input : {F D Peaks Heights : Type 0} → Scheme D → Bor (Proof F D Peaks Heights) × Bor (List (Bor (List ℕ))) × ℕ → RangeInput D
given_input s x = input_of s x.0.now x.2 (bytes_of x.1.now)

-- the verdict on a proof with its elements from location start on, and pins
abbrev pub IsVerdictOnPins : {F D Peaks Heights : Type 0} → Scheme D → List D → (k : ℕ) → Proof F D Peaks Heights → (start : ℕ)
    → List (Bor (List ℕ)) → (pins : List D) → Verdict F D → Type 0
IsVerdictOnPins s X k p start elements pins = IsPinnedVerdict s X k (input_of s p start (bytes_of elements)) pins
