-- The digests of a built proof, from those that were read.
use Rattle.std.proofs.Common.{◌≡◌, ℕ, ◌+◌, ◌-◌, ◌<◌, ◌≤◌, Bool, cond, List, [], ◌∷◌, ◌++◌, ◌||◌, length, map, take, drop, refl, ap, ap₂, sym, ◌∙◌, subst, arith, Option, Some, slice_get, inl}
use Rattle.std.specs.List.{AllZip, AllByRecursion, flat_map}
use Rattle.std.proofs.lemmas.List.{length-take-le, length-drop, map-id}
use Rattle.merkle_base.specs.Tree.{Tree, leaf, join, position, IsBuilt}
use Rattle.merkle_base.specs.Forest.{forest}
use Rattle.merkle_base.specs.Hashing.{Hashing}
use Rattle.merkle_base.specs.Places.{peaks_of, wholly_before}
use Rattle.merkle_base.proofs.Nodes.{all_append}
use Rattle.merkle_root_theory.specs.Plan.{Plan, siblings, tree_meets, tree_digest, plan_digest}
use Rattle.merkle_root_theory.specs.Outside.{folded_prefix, single_before, single_after, folded_suffix}
use Rattle.merkle_base.specs.Scheme.{Scheme}
use Rattle.merkle_root_theory.specs.Check.{in_range}
use Rattle.merkle_root_theory.specs.Range.{overlapping, wholly_after, range_parts, range_siblings, range_digests, leaf_of, end_of, IsHonestRange}
use Rattle.merkle_proof.specs.RangePlans.{AnswersList, AreAnswered, IsLaidOut, IsBuiltProof, list_input}
use Rattle.merkle_root_theory.specs.Reads.{nodes_read, part_read}
use Rattle.merkle_hasher.specs.Subtrees.{AreNodes}
use Rattle.merkle_proof.specs.declared.proof.Proof.{Proof}
use Rattle.merkle_base.proofs.Cases.{by_test}
use Rattle.merkle_hasher.proofs.PeakNodes.{peaks_at}
use Rattle.merkle_base.proofs.PeakLists.{peaks_built}
use Rattle.merkle_root_theory.proofs.Extraction.{all_filter}
use Rattle.merkle_root_theory.proofs.ListRoots.{digest_at_is}
use Rattle.merkle_root_theory.proofs.RangeDigests.{range_digests_are}
use Rattle.merkle_root_theory.proofs.ReadLayouts.{reads_laid_out}
use Rattle.merkle_root_theory.proofs.BuiltLayouts.{StandFor, at_node, nodes_stand, digests_stand, laid_out_read}
use Rattle.merkle_proof.proofs.ReadingOrder.{AreRuns, met_count, all_runs}

-- answers that agree with a function
agreed : {D : Type 0} (node : ℕ → Option D) (answered : ℕ → Option D → Type 0) → ((p : ℕ) (r : Option D) → answered p r → r ≡ node p)
    → (ts : List Tree) (ds : List D) → AllZip (λ p d. answered p (Some d)) (map position ts) ds → map (at_node node) ts ≡ map Some ds
agreed node answered agree [] [] z = refl
agreed node answered agree [] (d ∷ ds) z = absurd z
agreed node answered agree (t ∷ ts) [] z = absurd z
agreed node answered agree (t ∷ ts) (d ∷ ds) z = ap₂ (λ x y. x ∷ y) (sym (agree (position t) (Some d) z.0)) (agreed node answered agree ts ds z.1)

-- the path siblings stand in the forest
siblings_at : (ns : List Tree) (c : ℕ → Bool) (t : Tree) → IsBuilt ns t → AllByRecursion (λ u. slice_get ns (position u) ≡ Some u) (siblings c t)
siblings_at ns c (leaf p i) w = by_test (λ b. AllByRecursion (λ u. slice_get ns (position u) ≡ Some u) (cond b [] (leaf p i ∷ []))) (c i) (λ _. tt) (λ _. (w, tt))
siblings_at ns c (join p l r) w =
    by_test (λ b. AllByRecursion (λ u. slice_get ns (position u) ≡ Some u) (cond b (siblings c l ++ siblings c r) (join p l r ∷ []))) (tree_meets c l || tree_meets c r)
    (λ _. all_append (λ u. slice_get ns (position u) ≡ Some u) (siblings c l) (siblings c r) (siblings_at ns c l w.4) (siblings_at ns c r w.5)) (λ _. (w.0, tt))

all_siblings_at : (ns : List Tree) (c : ℕ → Bool) (ts : List Tree) → AllByRecursion (IsBuilt ns) ts → AllByRecursion (λ u. slice_get ns (position u) ≡ Some u) (flat_map (siblings c) ts)
all_siblings_at ns c [] w = tt
all_siblings_at ns c (t ∷ ts) w = all_append (λ u. slice_get ns (position u) ≡ Some u) (siblings c t) (flat_map (siblings c) ts) (siblings_at ns c t w.0) (all_siblings_at ns c ts w.1)

-- so does all that is read
pub reads_at : (rule : List ℕ → List ℕ) (n a b : ℕ) → AreNodes rule n (nodes_read rule n a b)
reads_at rule n a b =
    let ts = peaks_of rule n in
    let P : Tree → Type 0 = λ u. slice_get (forest rule n).nodes (position u) ≡ Some u in
    let at = peaks_at rule n n (omega arith) in
    all_append P (wholly_before a ts) (wholly_after b ts ++ range_siblings a b ts) (all_filter P _ ts at)
    (all_append P (wholly_after b ts) (range_siblings a b ts) (all_filter P _ ts at)
    (all_siblings_at (forest rule n).nodes (in_range a b) (overlapping a b ts) (all_filter (IsBuilt (forest rule n).nodes) _ ts (peaks_built rule n))))

list_answers : {D : Type 0} (h : Hashing D) (rule : List ℕ → List ℕ) (xs : List D) (answered : ℕ → Option D → Type 0) → AnswersList h rule xs answered
    → (ts : List Tree) → AreNodes rule (length xs) ts → (ds : List D)
    → AllZip (λ p d. answered p (Some d)) (map position ts) ds → ds ≡ map (tree_digest h (leaf_of h xs)) ts
list_answers h rule xs answered right [] at [] z = refl
list_answers h rule xs answered right [] at (d ∷ ds) z = absurd z
list_answers h rule xs answered right (t ∷ ts) at [] z = absurd z
list_answers h rule xs answered right (t ∷ ts) at (d ∷ ds) z =
    ap₂ (λ x y. x ∷ y) (right (position t) t d at.0 z.0 ∙ digest_at_is h xs t) (list_answers h rule xs answered right ts at.1 ds z.1)

module _ {F D P Q : Type 0} (s : Scheme D) (answered : ℕ → Option D → Type 0) (p : Proof F D P Q) (k n a b : ℕ) (leaves_are : p.leaves ≡ n) (inactive_are : p.inactive_peaks ≡ k)
    (few : k ≤ length (peaks_of s.rule n)) (prefix single suffix siblings : List ℕ) (runs : AreRuns s.bagging k s.rule n a b prefix single suffix siblings)
    (laid : IsLaidOut s.hashing.fold answered prefix single suffix siblings p.digests.items) where
  abbrev before : List Tree
  before = wholly_before a (peaks_of s.rule n)

  abbrev after : List Tree
  after = wholly_after b (peaks_of s.rule n)

  abbrev met : ℕ
  met = met_count s.rule n a b

  of_runs : {E : Type 0} (told : D → E) (at : Tree → E) (part : Plan → E) → StandFor s.hashing.fold told at part
      → ((ts : List Tree) (ds : List D) → AreNodes s.rule n ts → AreAnswered answered (map position ts) ds → map at ts ≡ map told ds)
      → map told p.digests.items ≡ map part (range_parts s.bagging k a b (peaks_of s.rule n)) ++ map at (range_siblings a b (peaks_of s.rule n))
  of_runs told at part stand f =
      let there = all_runs (λ u. slice_get (forest s.rule n).nodes (position u) ≡ Some u) s.bagging k s.rule n a b (reads_at s.rule n a b) in
      let g : (ts : List Tree) (ps : List ℕ) (ds : List D) → AreNodes s.rule n ts → ps ≡ map position ts → AreAnswered answered ps ds → map at ts ≡ map told ds =
      λ ts ps ds w e r. f ts ds w (subst (λ z. AreAnswered answered z ds) e r) in
      ap (map told) laid.digests_are
      ∙ laid_out_read s.hashing.fold told at part stand (met + (k - met)) (folded_prefix s.bagging k before) (single_before s.bagging k before)
      (single_after s.bagging k met after) (folded_suffix s.bagging k met after)
      (range_siblings a b (peaks_of s.rule n)) laid.of_prefix laid.of_single laid.of_suffix laid.of_siblings
      (g _ prefix laid.of_prefix there.0 runs.prefix_is laid.prefix_read) (g _ single laid.of_single there.1 runs.single_is laid.single_read)
      (g _ suffix laid.of_suffix there.2 runs.suffix_is laid.suffix_read) (g _ siblings laid.of_siblings there.3 runs.siblings_is laid.siblings_read)

  -- the proof is built over a function that agrees with the answers
  pub is_built : (node : ℕ → Option D) → ((q : ℕ) (r : Option D) → answered q r → r ≡ node q) → IsBuiltProof s node k (record { leaves = n; start = a; end = b }) p
  is_built node agree = record {
    leaves = leaves_are;
    inactive = inactive_are;
    enough_peaks = few;
    digests = of_runs Some (at_node node) (part_read s.hashing node) (nodes_stand s.hashing node) (λ ts ds w r. agreed node answered agree ts ds r) ∙ sym (reads_laid_out s node n k a b);
  }

  -- the digests of the honest proof
  honest_digests_are : (xs : List D) → length xs ≡ n → AnswersList s.hashing s.rule xs answered → p.digests.items ≡ range_digests s xs k a b
  honest_digests_are xs long right =
      let X = leaf_of s.hashing xs in let T = tree_digest s.hashing X in
      sym (map-id p.digests.items)
      ∙ of_runs (λ d. d) T (plan_digest s.hashing X) (digests_stand s.hashing X)
      (λ ts ds w r. sym (map-id ds ∙ list_answers s.hashing s.rule xs answered right ts (subst (λ m. AreNodes s.rule m ts) (sym long) w) ds r))
      ∙ ap (λ m. map (plan_digest s.hashing X) (range_parts s.bagging k a b (peaks_of s.rule m)) ++ map T (range_siblings a b (peaks_of s.rule m))) (sym long)
      ∙ sym (range_digests_are s xs k a b)

  pub is_honest : a < b → b ≤ n → (xs : List D) → length xs ≡ n → AnswersList s.hashing s.rule xs answered → IsHonestRange s xs k (list_input p xs a b)
  is_honest less within xs long right =
      let count : length (take (b - a) (drop a xs)) ≡ b - a = length-take-le (b - a) (drop a xs) (omega (arith, less, within, long, length-drop a xs)) in
      let ends : b ≡ end_of (list_input p xs a b) = omega (arith, count, less) in
      let leaves : p.leaves ≡ length xs = leaves_are ∙ sym long in
      let digests : p.digests.items ≡ range_digests s xs k a (end_of (list_input p xs a b)) = honest_digests_are xs long right ∙ ap (range_digests s xs k a) ends in
      let elements : take (b - a) (drop a xs) ≡ take (end_of (list_input p xs a b) - a) (drop a xs) = ap (λ e. take (e - a) (drop a xs)) ends in (
        omega (arith, count, less, within, long),
        inl (omega (arith, count, less)),
        λ i. record { leaves = leaves i; inactive = inactive_are i; digests = digests i; start = a; elements = elements i },
      )
