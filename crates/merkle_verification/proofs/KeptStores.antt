-- What is kept of a proof is the store of its input.
use Rattle.std.proofs.Common.{◌≡◌, ℕ, inl, inr, Ok, ◌+◌, ◌<◌, List, ◌++◌, length, map, min, take, drop, take_at, drop_at, Option, slice_get, arith, refl, ap, ap₂, sym, subst, ◌∙◌}
use Rattle.std.proofs.lemmas.List.{map-append, length-map, length-drop, length-take}
use Rattle.merkle_base.specs.Tree.{Tree, position}
use Rattle.merkle_base.specs.Places.{peaks_of, wholly_before}
use Rattle.merkle_base.specs.Scheme.{Scheme}
use Rattle.merkle_base.specs.declared.family.Bagging.{Bagging}
use Rattle.merkle_root_theory.specs.Check.{RangeInput}
use Rattle.merkle_root_theory.specs.Extract.{extracted}
use Rattle.merkle_root_theory.specs.Layouts.{count_before}
use Rattle.merkle_root_theory.specs.Outside.{bag_all, folded_prefix, single_before, single_after, folded_suffix}
use Rattle.merkle_root_theory.specs.Range.{AcceptsNonempty, end_of, overlapping, wholly_after, range_siblings}
use Rattle.merkle_root_theory.specs.Reconstruction.{reconstructed}
use Rattle.merkle_root_theory.proofs.Reconstruction.{leads_is_accepted}
use Rattle.merkle_root_theory.specs.Reads.{nodes_read}
use Rattle.merkle_root_theory.proofs.LayoutCounts.{length-fold_all, length-bag_all, length-single_before}
use Rattle.merkle_root_theory.proofs.BuiltLayouts.{single_after_rest}
use Rattle.merkle_store_theory.specs.StoreValue.{StoreValue, prefix_given, met_by, suffix_of, suffix_given, store_of}
use Rattle.merkle_proof.specs.RangePlans.{LeafRange}
use Rattle.merkle_proof.specs.declared.range_plan.RangeCounts.{RangeCounts}
use Rattle.merkle_verification.specs.StoreParts.{FitReads, IsInput}

-- the counts and the positions of a plan of the range
pub record ArePlanned (rule : List ℕ → List ℕ) (bagging : Bagging) (n k a b : ℕ) (c : RangeCounts) (reads : List ℕ) : Type 0 where
  pub before_is : c.before ≡ length (wholly_before a (peaks_of rule n))
  pub after_is : c.after ≡ length (wholly_after b (peaks_of rule n))
  pub folded_is : c.folded ≡ length (folded_prefix bagging k (wholly_before a (peaks_of rule n)))
  pub single_is : c.single ≡ length (single_after bagging k (length (wholly_before a (peaks_of rule n)) + length (overlapping a b (peaks_of rule n))) (wholly_after b (peaks_of rule n)))
  pub reads_is : reads ≡ map position (nodes_read rule n a b)

module _ (rule : List ℕ → List ℕ) (bagging : Bagging) (n k a b : ℕ) (c : RangeCounts) (reads : List ℕ) (plan : ArePlanned rule bagging n k a b c reads) where
  abbrev olds : List Tree
  olds = wholly_before a (peaks_of rule n)

  abbrev news : List Tree
  news = wholly_after b (peaks_of rule n)

  abbrev met : ℕ
  met = length olds + length (overlapping a b (peaks_of rule n))

  abbrev alone : List Tree
  alone = single_after bagging k met news

  abbrev bagged : List Tree
  bagged = folded_suffix bagging k met news

  abbrev inside : List Tree
  inside = range_siblings a b (peaks_of rule n)

  reads_are : reads ≡ map position olds ++ (map position news ++ map position inside)
  reads_are = plan.reads_is ∙ map-append position olds (news ++ inside) ∙ ap (λ z. map position olds ++ z) (map-append position news inside)

  news_are : map position news ≡ map position alone ++ map position bagged
  news_are = ap (map position) (sym (single_after_rest bagging k met news)) ∙ map-append position alone bagged

  -- the positions of the peaks folded in the suffix
  pub suffix_at_is : drop c.single (take c.after (drop c.before reads)) ≡ map position bagged
  suffix_at_is =
      ap (λ z. drop c.single (take c.after (drop c.before z))) reads_are
      ∙ ap (λ z. drop c.single (take c.after z)) (drop_at (map position olds) (map position news ++ map position inside) c.before (length-map olds position ∙ sym plan.before_is))
      ∙ ap (drop c.single) (take_at (map position news) (map position inside) c.after (length-map news position ∙ sym plan.after_is))
      ∙ ap (drop c.single) news_are
      ∙ drop_at (map position alone) (map position bagged) c.single (length-map alone position ∙ sym plan.single_is)

-- the digest at an index that stands for peaks, if there are any
slice_of : {D : Type 0} (ds : List D) (i j k l : ℕ) → i ≡ k → j ≡ l → slice_get (take i (drop j ds)) 0 ≡ slice_get (take k (drop l ds)) 0
slice_of ds i j k l e f = ap₂ (λ x y. slice_get (take x (drop y ds)) 0) e f

module _ {D : Type 0} (s : Scheme D) (r : RangeInput D) (c : RangeCounts) (reads : List ℕ)
    (plan : ArePlanned s.rule s.bagging r.leaves r.inactive r.start (end_of r) c reads) (fit : FitReads c reads) where
  abbrev ts : List Tree
  ts = peaks_of s.rule r.leaves

  prefix_is : slice_get (take (min c.folded 1) (drop 0 r.digests)) 0 ≡ prefix_given s r
  prefix_is = ap (λ i. slice_get (take i r.digests) 0)
      (ap (λ z. min z 1) plan.folded_is ∙ sym (length-fold_all (folded_prefix s.bagging r.inactive (wholly_before r.start ts))))

  abbrev before : List ℕ
  before = drop c.folded (take c.before reads)

  abbrev after : List ℕ
  after = take c.single (drop c.before reads)

  before_count : length before ≡ length (single_before s.bagging r.inactive (wholly_before r.start ts))
  before_count = omega (
    arith,
    length-drop c.folded (take c.before reads),
    length-take c.before reads,
    fit.read,
    fit.folded,
    plan.before_is,
    plan.folded_is,
    length-single_before s.bagging r.inactive (wholly_before r.start ts),
  )

  after_count : length after ≡ length (single_after s.bagging r.inactive (met_by s r) (wholly_after (end_of r) ts))
  after_count = omega (arith, length-take c.single (drop c.before reads), length-drop c.before reads, fit.read, fit.single, plan.single_is)

  suffix_is : (index peaks : ℕ) → index ≡ min c.folded 1 + length before + length after → peaks ≡ length (suffix_of s r) → slice_get (take (min peaks 1) (drop index r.digests)) 0 ≡ suffix_given s r
  suffix_is index peaks e f =
      let counted : index ≡ count_before s.bagging r.inactive (wholly_before r.start ts) + length (single_after s.bagging r.inactive (met_by s r) (wholly_after (end_of r) ts)) =
      omega (arith, e, before_count, after_count, ap (λ z. min z 1) plan.folded_is, length-fold_all (folded_prefix s.bagging r.inactive (wholly_before r.start ts))) in
      slice_of r.digests (min peaks 1) index (length (bag_all 0 (suffix_of s r))) _ (ap (λ z. min z 1) f ∙ sym (length-bag_all 0 (suffix_of s r))) counted

same_store : {D : Type 0} (n n' k k' : ℕ) (b b' : Bagging) (root : D) (a a' e e' : ℕ) (ps ps' : List (ℕ × D)) (qs qs' : List ℕ) (x x' y y' : Option D)
    → n ≡ n' → k ≡ k' → b ≡ b' → a ≡ a' → e ≡ e' → ps ≡ ps' → qs ≡ qs' → x ≡ x' → y ≡ y'
    → ◌≡◌ {A = StoreValue D} (record { leaves = n; inactive = k; bagging = b; root = root; start = a; end = e; pairs = ps; suffix_peaks = qs; prefix = x; suffix = y })
    (record { leaves = n'; inactive = k'; bagging = b'; root = root; start = a'; end = e'; pairs = ps'; suffix_peaks = qs'; prefix = x'; suffix = y' })
same_store {D} n n' k k' b b' root a a' e e' ps ps' qs qs' x x' y y' f g i j l m o p q = rw (f, g, i, j, l, m, o, p, q) refl

-- what is kept of an input is its store
pub kept : {D : Type 0} (s : Scheme D) (r : RangeInput D) (rule : List ℕ → List ℕ) (bagging : Bagging) (n k : ℕ) (digests : List D) (a b : ℕ)
    (pairs : List (ℕ × D)) → IsInput s r rule bagging n k digests a b pairs
    → (c : RangeCounts) (reads : List ℕ) → ArePlanned rule bagging n k a b c reads → FitReads c reads → (root : D) (index peaks : ℕ) (qs : List ℕ) (x y : Option D)
    → qs ≡ drop c.single (take c.after (drop c.before reads)) → index ≡ min c.folded 1 + length (drop c.folded (take c.before reads)) + length (take c.single (drop c.before reads)) → peaks ≡ length qs
    → x ≡ slice_get (take (min c.folded 1) (drop 0 digests)) 0 → y ≡ slice_get (take (min peaks 1) (drop index digests)) 0
    → ◌≡◌ {A = StoreValue D} (record { leaves = n; inactive = k; bagging = bagging; root = root; start = a; end = b; pairs = pairs; suffix_peaks = qs; prefix = x; suffix = y }) (store_of s r root)
kept {D} s r rule bagging n k digests a b pairs w c reads plan fit root index peaks qs x y qs_is index_is peaks_is x_is y_is =
    let planned : ArePlanned s.rule s.bagging r.leaves r.inactive r.start (end_of r) c reads =
    subst (λ z. ArePlanned z s.bagging r.leaves r.inactive r.start (end_of r) c reads) w.rule_is
    (subst (λ z. ArePlanned rule z r.leaves r.inactive r.start (end_of r) c reads) w.bagging_is
    (subst (λ z. ArePlanned rule bagging z r.inactive r.start (end_of r) c reads) w.leaves_is
    (subst (λ z. ArePlanned rule bagging n z r.start (end_of r) c reads) w.inactive_is
    (subst (λ z. ArePlanned rule bagging n k z (end_of r) c reads) w.start_is
    (subst (λ z. ArePlanned rule bagging n k a z c reads) w.end_is plan))))) in
    let bagged : qs ≡ map position (suffix_of s r) = qs_is ∙ suffix_at_is s.rule s.bagging r.leaves r.inactive r.start (end_of r) c reads planned in
    let counted : peaks ≡ length (suffix_of s r) = peaks_is ∙ ap length bagged ∙ length-map (suffix_of s r) position in
    same_store n r.leaves k r.inactive bagging s.bagging root a r.start b (end_of r) pairs (extracted s r) qs (map position (suffix_of s r)) x (prefix_given s r) y (suffix_given s r)
    w.leaves_is w.inactive_is w.bagging_is w.start_is w.end_is w.pairs_is bagged
    (x_is ∙ ap (λ d. slice_get (take (min c.folded 1) (drop 0 d)) 0) w.digests_is ∙ prefix_is s r c reads planned fit)
    (y_is ∙ ap (λ d. slice_get (take (min peaks 1) (drop index d)) 0) w.digests_is ∙ suffix_is s r c reads planned fit index peaks index_is counted)

-- a plan's counts and positions are those of its range
pub planned : (rule : List ℕ → List ℕ) (bagging : Bagging) (n k a b : ℕ) (q : LeafRange) (c : RangeCounts) (reads : List ℕ) → q ≡ record { leaves = n; start = a; end = b }
    → c.before ≡ length (wholly_before q.start (peaks_of rule q.leaves)) → c.after ≡ length (wholly_after q.end (peaks_of rule q.leaves))
    → c.folded ≡ length (folded_prefix bagging k (wholly_before q.start (peaks_of rule q.leaves)))
    → c.single ≡ length (single_after bagging k
    (length (wholly_before q.start (peaks_of rule q.leaves)) + length (overlapping q.start q.end (peaks_of rule q.leaves)))
    (wholly_after q.end (peaks_of rule q.leaves)))
    → reads ≡ map position (nodes_read rule q.leaves q.start q.end) → ArePlanned rule bagging n k a b c reads
planned rule bagging n k a b q c reads e before after folded single is =
    subst (λ (z : LeafRange). ArePlanned rule bagging z.leaves k z.start z.end c reads) e (record { before_is = before; after_is = after; folded_is = folded; single_is = single; reads_is = is })

-- an input with elements that leads to a root is accepted against it
pub accepted_some : {D : Type 0} (s : Scheme D) (r : RangeInput D) (root : D) → reconstructed s r ≡ Ok root → 0 < length r.elements → AcceptsNonempty s r root
accepted_some s r root leads some = elim ((leads_is_accepted s r root).0 leads) [
  | inl w ↦ w
  | inr w ↦ (let none : length r.elements ≡ 0 = ap length w.0.elements in absurd (omega (arith, some, none)))
]
