-- What a store answers, and why it refuses, by the counts and the positions of a plan.
use Rattle.std.proofs.Common.{◌≡◌, ℕ, ◌+◌, ◌<◌, ◌≤◌, List, length, map, Some, None, inr, refl, ap, sym, ◌∙◌, subst}
use Rattle.merkle_base.specs.Tree.{position}
use Rattle.merkle_base.specs.Places.{peaks_of, wholly_before}
use Rattle.merkle_base.specs.Scheme.{Scheme}
use Rattle.merkle_base.specs.declared.error.Error.TheVariants.{ElementPruned}
use Rattle.merkle_root_theory.specs.Outside.{folded_prefix, single_after}
use Rattle.merkle_root_theory.specs.Range.{overlapping, wholly_after}
use Rattle.merkle_root_theory.specs.Reads.{nodes_read}
use Rattle.merkle_store_theory.specs.StoreValue.{StoreValue}
use Rattle.merkle_store_theory.specs.StoreReads.{AreCounts, proof_at}
use Rattle.merkle_store_theory.proofs.PositionReads.{reads_by_position}
use Rattle.merkle_proof.specs.RangePlans.{LeafRange}
use Rattle.merkle_proof.specs.declared.proof.Proof.{Proof}
use Rattle.merkle_proof.specs.declared.range_plan.RangeCounts.{RangeCounts}
use Rattle.merkle_verification.specs.StoreCalls.{IsPartProof, IsStoreRefusal}
use Rattle.merkle_verification.specs.StoreParts.{IsFoldedCount, counts_with, parts_refusal, shorter_refusal}
use Rattle.merkle_verification.proofs.PartReads.{or_skip, or_take}

-- a plan of the range a..b, for what a store holds
pub record IsAsked {D : Type 0} (s : Scheme D) (v : StoreValue D) (a b : ℕ) (c : RangeCounts) (held : ℕ) (reads : List ℕ) : Type 0 where
  pub counts : AreCounts s v a b (counts_with c held)
  pub reads_is : reads ≡ map position (nodes_read s.rule v.leaves a b)
  pub nonempty : a < b
  pub within : b ≤ v.leaves

pub asked : {D : Type 0} (s : Scheme D) (v w : StoreValue D) (a b : ℕ) (q : LeafRange) (c : RangeCounts) (held : ℕ) (reads : List ℕ) → v ≡ w → q ≡ record { leaves = v.leaves; start = a; end = b }
    → c.before ≡ length (wholly_before q.start (peaks_of s.rule q.leaves)) → c.after ≡ length (wholly_after q.end (peaks_of s.rule q.leaves))
    → c.folded ≡ length (folded_prefix v.bagging v.inactive (wholly_before q.start (peaks_of s.rule q.leaves)))
    → c.single ≡ length (single_after v.bagging v.inactive
    (length (wholly_before q.start (peaks_of s.rule q.leaves)) + length (overlapping q.start q.end (peaks_of s.rule q.leaves)))
    (wholly_after q.end (peaks_of s.rule q.leaves)))
    → IsFoldedCount s.rule v.bagging v.leaves v.inactive v.start held → reads ≡ map position (nodes_read s.rule q.leaves q.start q.end) → a < b → b ≤ v.leaves
    → IsAsked s w a b c held reads
asked s v w a b q c held reads same e before after folded single holds is some within = subst (λ z. IsAsked s z a b c held reads) same (record {
  counts = record {
    before = before ∙ ap (λ (z : LeafRange). length (wholly_before z.start (peaks_of s.rule z.leaves))) e;
    after = after ∙ ap (λ (z : LeafRange). length (wholly_after z.end (peaks_of s.rule z.leaves))) e;
    folded = folded ∙ ap (λ (z : LeafRange). length (folded_prefix v.bagging v.inactive (wholly_before z.start (peaks_of s.rule z.leaves)))) e;
    single = single ∙ ap (λ (z : LeafRange). length
        (single_after v.bagging v.inactive
        (length (wholly_before z.start (peaks_of s.rule z.leaves)) + length (overlapping z.start z.end (peaks_of s.rule z.leaves)))
        (wholly_after z.end (peaks_of s.rule z.leaves)))) e;
    held = holds;
  };
  reads_is = is ∙ ap (λ (z : LeafRange). map position (nodes_read s.rule z.leaves z.start z.end)) e;
  nonempty = some;
  within = within;
})

module _ {F D : Type 0} (s : Scheme D) (v : StoreValue D) (a b : ℕ) (c : RangeCounts) (held : ℕ) (reads : List ℕ) (w : IsAsked s v a b c held reads) where
  -- a prefix that is shorter than the store's is refused
  pub shorter_refused : (p : ℕ) → Some p ≡ shorter_refusal s.rule v.leaves (counts_with c held) → IsStoreRefusal {F = F} s v a b (ElementPruned p)
  shorter_refused p e = inr (w.nonempty, w.within, (p, refl, (reads_by_position s v a b (counts_with c held) w.counts).1 ∙ or_take _ _ p (sym e)))

  -- else the first part that is lacking
  pub lacking_refused : None ≡ shorter_refusal s.rule v.leaves (counts_with c held) → (p : ℕ) → parts_refusal v (counts_with c held) reads ≡ Some p → IsStoreRefusal {F = F} s v a b (ElementPruned p)
  lacking_refused none p e =
      inr (w.nonempty, w.within, (p, refl, (reads_by_position s v a b (counts_with c held) w.counts).1 ∙ or_skip _ _ _ (sym none) (ap (parts_refusal v (counts_with c held)) (sym w.reads_is) ∙ e)))

module _ {F D Peaks Heights : Type 0} (s : Scheme D) (v : StoreValue D) (a b : ℕ) (c : RangeCounts) (held : ℕ) (reads : List ℕ) (w : IsAsked s v a b c held reads) where
  -- where none is, the proof is answered
  pub is_answered : None ≡ shorter_refusal s.rule v.leaves (counts_with c held) → parts_refusal v (counts_with c held) reads ≡ None → (p : Proof F D Peaks Heights)
      → p.leaves ≡ v.leaves → p.inactive_peaks ≡ v.inactive → p.digests.items ≡ proof_at s.hashing v (counts_with c held) reads → IsPartProof s v a b p
  is_answered none e p leaves inactive digests =
      let law = reads_by_position s v a b (counts_with c held) w.counts in record {
        nonempty = w.nonempty;
        within = w.within;
        leaves = leaves;
        inactive = inactive;
        digests = digests ∙ ap (proof_at s.hashing v (counts_with c held)) w.reads_is ∙ sym law.0;
        unrefused = law.1 ∙ or_skip _ _ _ (sym none) (ap (parts_refusal v (counts_with c held)) (sym w.reads_is) ∙ e);
      }
