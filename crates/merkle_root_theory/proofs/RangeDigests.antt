-- The digests of a proof are those of its plan's parts and of the path siblings.
use Rattle.std.proofs.Common.{◌≡◌, ℕ, ◌+◌, ◌-◌, List, ◌++◌, length, map, refl, ap, ap₂, sym, ◌∙◌}
use Rattle.std.proofs.lemmas.List.{length-append, length-map, map-id}
use Rattle.merkle_base.specs.Tree.{Tree}
use Rattle.merkle_base.specs.Digests.{digest_at}
use Rattle.merkle_base.specs.Places.{peaks_of, wholly_before}
use Rattle.merkle_base.specs.Scheme.{Scheme}
use Rattle.merkle_root_theory.specs.Check.{RangeInput}
use Rattle.merkle_root_theory.specs.Plan.{Plan, peak, folding, plan_digest}
use Rattle.merkle_root_theory.specs.Outside.{folded_prefix, single_before, single_after, folded_suffix}
use Rattle.merkle_root_theory.specs.Range.{overlapping, wholly_after, range_parts, range_siblings, leaf_of, range_laid_out, range_digests, end_of, digest_count, plan_digests}
use Rattle.merkle_root_theory.proofs.BuiltLayouts.{StandFor, laid_out_read}
use Rattle.merkle_root_theory.proofs.ListRoots.{digest_at_is, digests_are}

-- what is laid out is what stands for the parts and at the siblings
module _ {D E : Type 0} (s : Scheme D) (f : E → E → E) (at : Tree → E) (part : Plan → E) (stand : StandFor f (λ e. e) at part) (n k a b : ℕ) where
  pub parts_laid_out : range_laid_out s f at n k a b ≡ map part (range_parts s.bagging k a b (peaks_of s.rule n)) ++ map at (range_siblings a b (peaks_of s.rule n))
  parts_laid_out =
      let ts = peaks_of s.rule n in
      let before = wholly_before a ts in
      let after = wholly_after b ts in
      let met = length before + length (overlapping a b ts) in
      let ps = folded_prefix s.bagging k before in
      let ys = single_before s.bagging k before in
      let zs = single_after s.bagging k met after in
      let us = folded_suffix s.bagging k met after in
      let is = range_siblings a b ts in
      let g : (vs : List Tree) → map at vs ≡ map (λ e. e) (map at vs) = λ vs. sym (map-id (map at vs)) in
      sym (map-id (range_laid_out s f at n k a b))
      ∙ laid_out_read f (λ e. e) at part stand (met + (k - met)) ps ys zs us is (map at ps) (map at (ys ++ zs)) (map at us) (map at is) (g ps) (g (ys ++ zs)) (g us) (g is)

  pub length-laid_out : length (range_laid_out s f at n k a b) ≡ length (range_parts s.bagging k a b (peaks_of s.rule n)) + length (range_siblings a b (peaks_of s.rule n))
  length-laid_out =
      let parts = range_parts s.bagging k a b (peaks_of s.rule n) in
      let nodes = range_siblings a b (peaks_of s.rule n) in
      ap length parts_laid_out ∙ length-append (map part parts) (map at nodes) ∙ ap₂ ◌+◌ (length-map parts part) (length-map nodes at)

module _ {D : Type 0} (s : Scheme D) (xs : List D) (k a b : ℕ) where
  abbrev X : ℕ → D
  X = leaf_of s.hashing xs

  stand : StandFor s.hashing.fold (λ d. d) (digest_at s.hashing xs) (plan_digest s.hashing X)
  stand = record {
    alone = λ t. sym (digest_at_is s.hashing xs t);
    prefix = λ i l t x y e f. ap₂ s.hashing.fold e (sym (digest_at_is s.hashing xs t) ∙ f);
    suffix = λ i t r x y e f. ap₂ s.hashing.fold (sym (digest_at_is s.hashing xs t) ∙ e) f;
  }

  pub range_digests_are : range_digests s xs k a b ≡ plan_digests s xs k a b
  range_digests_are =
      let parts = range_parts s.bagging k a b (peaks_of s.rule (length xs)) in
      parts_laid_out s s.hashing.fold (digest_at s.hashing xs) (plan_digest s.hashing X) stand (length xs) k a b
      ∙ ap (λ ds. map (plan_digest s.hashing X) parts ++ ds) (digests_are s.hashing xs (range_siblings a b (peaks_of s.rule (length xs))))

  -- there are as many of them
  pub length-range_digests : length (range_digests s xs k a b) ≡ length (range_parts s.bagging k a b (peaks_of s.rule (length xs))) + length (range_siblings a b (peaks_of s.rule (length xs)))
  length-range_digests = length-laid_out s s.hashing.fold (digest_at s.hashing xs) (plan_digest s.hashing X) stand (length xs) k a b

-- the first peak of a plan
abbrev first_peak : Plan → Tree
first_peak (peak t) = t
first_peak (folding place l r) = first_peak l

peaks_stand : StandFor (λ (t u : Tree). t) (λ (t : Tree). t) (λ (t : Tree). t) first_peak
peaks_stand = record { alone = λ t. refl; prefix = λ i l t x y e f. e; suffix = λ i t r x y e f. e }

-- a proof of the range has a digest for each part and for each path sibling
pub digest_count_is : {D : Type 0} (s : Scheme D) (r : RangeInput D)
    → digest_count s r ≡ length (range_parts s.bagging r.inactive r.start (end_of r) (peaks_of s.rule r.leaves)) + length (range_siblings r.start (end_of r) (peaks_of s.rule r.leaves))
digest_count_is s r = length-laid_out s (λ (t u : Tree). t) (λ (t : Tree). t) first_peak peaks_stand r.leaves r.inactive r.start (end_of r)
