-- The digests that an accepted range input with pins has for the peaks up to the end of the range, by the digests of nodes.
use Rattle.std.proofs.Common.{◌≡◌, ℕ, Option, ◌+◌, ◌<◌, ◌≤◌, nat_lt, ◌&&◌, cond, List, [], ◌∷◌, ◌++◌, length, map, take, drop, refl, ap, ap₂, sym, ◌∙◌, arith}
use Rattle.std.proofs.Common.{append_assoc, length-append, le-leb, ltb-true}
use Rattle.std.proofs.lemmas.Bool.{lt-leb, and_parts}
use Rattle.std.proofs.lemmas.List.{map-append, take_all, take-append-le}
use Rattle.std.specs.List.{AllByRecursion}
use Rattle.merkle_base.specs.Hashing.{Hashing}
use Rattle.merkle_base.specs.Places.{peaks_of, wholly_before}
use Rattle.merkle_base.specs.Scheme.{Scheme}
use Rattle.merkle_base.specs.Tree.{Tree, position, first_leaf, end_leaf}
use Rattle.merkle_base.proofs.Cases.{by_test}
use Rattle.merkle_base.proofs.PeakLists.{peaks_spans}
use Rattle.merkle_root_theory.specs.Check.{RangeInput, chosen, leaf_given}
use Rattle.merkle_root_theory.specs.Collision.{Member}
use Rattle.merkle_root_theory.specs.Extract.{extracted}
use Rattle.merkle_root_theory.specs.Layouts.{count_before, count_after}
use Rattle.merkle_root_theory.specs.Range.{end_of, overlapping, wholly_after}
use Rattle.merkle_root_theory.specs.Walk.{peak_values}
use Rattle.merkle_root_theory.proofs.PeakGroups.{groups}
use Rattle.merkle_claim_theory.specs.Rebuilt.{rebuilt_node}
use Rattle.merkle_pins_theory.specs.PinnedNodes.{pinned_value}
use Rattle.merkle_audit_theory.proofs.ClaimParts.{over_told}
use Rattle.merkle_pins_theory.proofs.PinnedInputs.{all_before}

module _ {D : Type 0} (h : Hashing D) (b : ℕ → Option D) (start : ℕ) (f : ℕ → D) where
  before_values : (ts : List Tree) → AllByRecursion (λ t. end_leaf t ≤ start) ts → map (pinned_value h b start f) ts ≡ map (rebuilt_node h b) ts
  before_values [] x = refl
  before_values (t ∷ ts) x = ap₂ (λ d ds. d ∷ ds) (ap (λ z. cond z (rebuilt_node h b t) (f (position t))) (le-leb (end_leaf t) start x.0)) (before_values ts x.1)

  other_values : (ts : List Tree) → AllByRecursion (λ t. start < end_leaf t) ts → map (pinned_value h b start f) ts ≡ map (λ t. f (position t)) ts
  other_values [] x = refl
  other_values (t ∷ ts) x = ap₂ (λ d ds. d ∷ ds) (ap (λ z. cond z (rebuilt_node h b t) (f (position t))) (lt-leb (end_leaf t) start x.0)) (other_values ts x.1)

all_over : (a b : ℕ) (ts : List Tree) → AllByRecursion (λ t. a < end_leaf t) (overlapping a b ts)
all_over a b [] = tt
all_over a b (t ∷ ts) = by_test
    (λ z. (nat_lt (first_leaf t) b && nat_lt a (end_leaf t)) ≡ z
    → AllByRecursion (λ t. a < end_leaf t) (cond z (t ∷ overlapping a b ts) (overlapping a b ts))) (nat_lt (first_leaf t) b && nat_lt a (end_leaf t))
    (λ _ q. (ltb-true a (end_leaf t) (and_parts (nat_lt (first_leaf t) b) (nat_lt a (end_leaf t)) q).1, all_over a b ts)) (λ _ q. all_over a b ts) refl

module _ {D : Type 0} (s : Scheme D) (r : RangeInput D) (some : 0 < length r.elements) where
  abbrev ts : List Tree
  ts = peaks_of s.rule r.leaves

  abbrev before : List Tree
  before = wholly_before r.start ts

  abbrev over : List Tree
  over = overlapping r.start (end_of r) ts

  abbrev after : List Tree
  after = wholly_after (end_of r) ts

  abbrev i : ℕ
  i = count_before s.bagging r.inactive before

  abbrev j : ℕ
  j = count_after s.bagging r.inactive (length before + length over) after

  these : (n : ℕ) → n ≡ length before + length over → take n ts ≡ before ++ over
  these n e =
      let split = groups r.start (end_of r) 0 r.leaves ts (omega (arith, some)) (peaks_spans s.rule r.leaves) in
      let long = length-append before over in
      ap (take n) (split ∙ sym (append_assoc before over after)) ∙ take-append-le n (before ++ over) after (omega (arith, e, long)) ∙ take_all n (before ++ over) (omega (arith, e, long))

  -- those of the peaks before the range are rebuilt
  pub pinned_digests : (b : ℕ → Option D) (f : ℕ → D) → ((p : ℕ) (d : D) → Member (extracted s r) (p, d) → f p ≡ d) → (n : ℕ)
      → n ≡ length (wholly_before r.start (peaks_of s.rule r.leaves)) + length (overlapping r.start (end_of r) (peaks_of s.rule r.leaves))
      → map (pinned_value s.hashing b r.start f) (take n (peaks_of s.rule r.leaves))
      ≡ map (rebuilt_node s.hashing b) before ++ peak_values s.hashing (chosen r) (leaf_given s.hashing r) over (drop (i + j) r.digests)
  pinned_digests b f is n e =
      ap (map (pinned_value s.hashing b r.start f)) (these n e)
      ∙ map-append (pinned_value s.hashing b r.start f) before over
      ∙ ap₂ ◌++◌ (before_values s.hashing b r.start f before (all_before r.start ts))
      (other_values s.hashing b r.start f over (all_over r.start (end_of r) ts) ∙ over_told s r some f is)
