-- What follows for the calls of a store.
use Rattle.std.proofs.Common.{◌≡◌, ℕ, ◌+◌, ◌-◌, inl, inr, ap, sym, ◌∙◌, arith, length, take, drop, Some, None}
use Rattle.std.proofs.lemmas.List.{length-take, length-drop}
use Rattle.merkle_root_theory.specs.Range.{end_of}
use Rattle.merkle_store_theory.specs.StoreValue.{store_of}
use Rattle.merkle_store_theory.specs.StoreProof.{store_proof}
use Rattle.merkle_hasher.specs.LeafDigests.{leaf_digests}
use Rattle.merkle_hasher.proofs.LeafDigests.{leaf_digests-part}
use Rattle.merkle_verification.specs.StoreCalls.{part_input, elements_within, NoPartIsRefused, AnsweredIsAccepted, PartHasPartDigests}
use Rattle.merkle_store_theory.proofs.StoreProofs.{store_answers, store_is_accepted}

pub no_part_is_refused : {F D : Type 0} → NoPartIsRefused F D
no_part_is_refused s r root a b e ok some low high (inl (inl w)) = absurd (omega (arith, some, w.0))
no_part_is_refused s r root a b e ok some low high (inl (inr (inl w))) = absurd (omega (arith, w.1, high, ok.within))
no_part_is_refused s r root a b e ok some low high (inl (inr (inr w))) = absurd (omega (arith, w.2, ok.leaves))
no_part_is_refused s r root a b e ok some low high (inr w) = nothing w.2.0 (sym w.2.2 ∙ store_answers s r root a b ok some low high)
  where
    nothing : (p : ℕ) → Some p ≡ None → ⊥
    nothing p e = cc

pub answered_is_accepted : {F D Peaks Heights : Type 0} → AnsweredIsAccepted F D Peaks Heights
answered_is_accepted s r root a b p ok low high w =
    let q = part_input p r a b in
    let count : length (take (b - a) (drop (a - r.start) r.elements)) ≡ b - a =
    omega (arith, length-take (b - a) (drop (a - r.start) r.elements), length-drop (a - r.start) r.elements, high, low, w.nonempty) in
    let stop : b ≡ end_of (part_input p r a b) = omega (arith, count, w.nonempty) in
    store_is_accepted s r q root ok (record {
      nonempty = omega (arith, count, w.nonempty);
      from = low;
      to = omega (arith, count, w.nonempty, high);
      leaves = w.leaves;
      inactive = w.inactive;
      digests = w.digests ∙ ap (store_proof s (store_of s r root) a) stop;
      elements = ap (λ n. take n (drop (a - r.start) r.elements)) (sym count);
    })

pub part_has_part_digests : {D : Type 0} → PartHasPartDigests D
part_has_part_digests h rule start a b es from =
    let at : start + (a - start) ≡ a = omega (arith, from) in
    sym (leaf_digests-part h rule start (a - start) (b - a) es ∙ ap (λ n. leaf_digests h rule n (elements_within start a b es)) at)
