-- The runs of nodes that a proof reads, and their order.
use Rattle.std.proofs.Common.{◌≡◌, ℕ, ◌+◌, ◌-◌, List, [], ◌∷◌, ◌++◌, length, length-append, map, take, drop, take_at, drop_at, reverse, append_assoc, arith, refl, ap, ap₂, sym, ◌∙◌, subst, Option}
use Rattle.std.specs.List.{AllByRecursion}
use Rattle.std.proofs.lemmas.List.{map-append, length-map, length-drop, reverse-append, take_all}
use Rattle.merkle_base.specs.Tree.{Tree, position}
use Rattle.merkle_base.specs.Places.{peaks_of, wholly_before}
use Rattle.merkle_base.specs.declared.family.Bagging.{Bagging}
use Rattle.merkle_base.proofs.Nodes.{all_append}
use Rattle.merkle_root_theory.specs.Outside.{folded_prefix, single_before, single_after, folded_suffix}
use Rattle.merkle_root_theory.specs.Range.{overlapping, wholly_after, range_siblings}
use Rattle.merkle_proof.specs.RangePlans.{IsAnsweredProof, IsLaidOut, IsPlan}
use Rattle.merkle_root_theory.specs.Reads.{nodes_read, reading_order}
use Rattle.merkle_root_theory.proofs.BuiltLayouts.{map-append_four, folded_prefix_rest, single_after_rest}
use Rattle.merkle_root_theory.proofs.PeakGroups.{length-peaks_of}

pub all_parts : {X : Type 0} (P : X → Type 0) (xs ys : List X) → AllByRecursion P (xs ++ ys) → AllByRecursion P xs × AllByRecursion P ys
all_parts P [] ys w = (tt, w)
all_parts P (x ∷ xs) ys w = let v = all_parts P xs ys w.1 in ((w.0, v.0), v.1)

all_reverse : {X : Type 0} (P : X → Type 0) (xs : List X) → AllByRecursion P xs → AllByRecursion P (reverse xs)
all_reverse P [] w = tt
all_reverse P (x ∷ xs) w = subst (AllByRecursion P) (sym (reverse-append (x ∷ []) xs)) (all_append P (reverse xs) (x ∷ []) (all_reverse P xs w.1) (w.0, tt))

map-reverse : {X Y : Type 0} (f : X → Y) (xs : List X) → map f (reverse xs) ≡ reverse (map f xs)
map-reverse f [] = refl
map-reverse f (x ∷ xs) = ap (map f) (reverse-append (x ∷ []) xs) ∙ map-append f (reverse xs) (x ∷ []) ∙ ap (λ z. z ++ f x ∷ []) (map-reverse f xs) ∙ sym (reverse-append (f x ∷ []) (map f xs))

-- how many peaks are before a..b or overlap it
abbrev pub met_count : (List ℕ → List ℕ) → (n a b : ℕ) → ℕ
met_count rule n a b = length (wholly_before a (peaks_of rule n)) + length (overlapping a b (peaks_of rule n))

-- the peaks that stand alone, before and after the range
abbrev pub single_peaks : Bagging → (k : ℕ) → (List ℕ → List ℕ) → (n a b : ℕ) → List Tree
single_peaks bagging k rule n a b = single_before bagging k (wholly_before a (peaks_of rule n)) ++ single_after bagging k (met_count rule n a b) (wholly_after b (peaks_of rule n))

-- the positions of a folded prefix, of the peaks that stand alone, of a folded suffix and of the path siblings
pub record AreRuns (bagging : Bagging) (k : ℕ) (rule : List ℕ → List ℕ) (n a b : ℕ) (prefix single suffix siblings : List ℕ) : Type 0 where
  pub prefix_is : prefix ≡ map position (folded_prefix bagging k (wholly_before a (peaks_of rule n)))
  pub single_is : single ≡ map position (single_peaks bagging k rule n a b)
  pub suffix_is : suffix ≡ map position (folded_suffix bagging k (met_count rule n a b) (wholly_after b (peaks_of rule n)))
  pub siblings_is : siblings ≡ map position (range_siblings a b (peaks_of rule n))

module _ (P : Tree → Type 0) (bagging : Bagging) (k : ℕ) (rule : List ℕ → List ℕ) (n a b : ℕ) (w : AllByRecursion P (nodes_read rule n a b)) where
  -- what holds of each node that is read, run by run
  pub all_runs : AllByRecursion P (folded_prefix bagging k (wholly_before a (peaks_of rule n))) × AllByRecursion P (single_peaks bagging k rule n a b)
      × AllByRecursion P (folded_suffix bagging k (met_count rule n a b) (wholly_after b (peaks_of rule n))) × AllByRecursion P (range_siblings a b (peaks_of rule n))
  all_runs =
      let before = wholly_before a (peaks_of rule n) in let after = wholly_after b (peaks_of rule n) in let inside = range_siblings a b (peaks_of rule n) in
      let met = met_count rule n a b in
      let first = all_parts P before (after ++ inside) w in
      let second = all_parts P after inside first.1 in
      let old = all_parts P (folded_prefix bagging k before) (single_before bagging k before) (subst (AllByRecursion P) (sym (folded_prefix_rest bagging k before)) first.0) in
      let new = all_parts P (single_after bagging k met after) (folded_suffix bagging k met after) (subst (AllByRecursion P) (sym (single_after_rest bagging k met after)) second.0) in
      (old.0, all_append P (single_before bagging k before) (single_after bagging k met after) old.1 new.0, new.1, second.1)

  -- and in the order in which they are read
  pub all_reading_order : AllByRecursion P (reading_order bagging k rule n a b)
  all_reading_order =
      let before = wholly_before a (peaks_of rule n) in let after = wholly_after b (peaks_of rule n) in let inside = range_siblings a b (peaks_of rule n) in
      let met = met_count rule n a b in
      let singles = single_after bagging k met after in let suffix = folded_suffix bagging k met after in
      let first = all_parts P before (after ++ inside) w in
      let second = all_parts P after inside first.1 in
      let third = all_parts P singles suffix (subst (AllByRecursion P) (sym (single_after_rest bagging k met after)) second.0) in
      all_append P before (singles ++ (reverse suffix ++ inside)) first.0
      (all_append P singles (reverse suffix ++ inside) third.0 (all_append P (reverse suffix) inside (all_reverse P suffix third.1) second.1))

-- what is laid out of the answers at the runs is laid out of those at the nodes
pub laid_by_runs : {D : Type 0} (f : D → D → D) (bagging : Bagging) (k : ℕ) (rule : List ℕ → List ℕ) (n a b : ℕ) (answered : ℕ → Option D → Type 0)
    (prefix single suffix siblings : List ℕ) (digests : List D)
    → AreRuns bagging k rule n a b prefix single suffix siblings → IsLaidOut f answered prefix single suffix siblings digests
    → IsAnsweredProof f bagging rule k (record { leaves = n; start = a; end = b }) answered digests
laid_by_runs f bagging k rule n a b answered prefix single suffix siblings digests runs laid =
    let ts = peaks_of rule n in
    let singles = map position (single_peaks bagging k rule n a b) in
    let suffixes = map position (folded_suffix bagging k (met_count rule n a b) (wholly_after b ts)) in
    let inside = map position (range_siblings a b ts) in
    subst (λ ps. IsLaidOut f answered ps singles suffixes inside digests) runs.prefix_is
    (subst (λ ps. IsLaidOut f answered prefix ps suffixes inside digests) runs.single_is
    (subst (λ ps. IsLaidOut f answered prefix single ps inside digests) runs.suffix_is
    (subst (λ ps. IsLaidOut f answered prefix single suffix ps digests) runs.siblings_is laid)))

-- the runs, one after another with the suffix from its end, are in the reading order
pub order_of_runs : (bagging : Bagging) (k : ℕ) (rule : List ℕ → List ℕ) (n a b : ℕ) (prefix single suffix siblings : List ℕ) → AreRuns bagging k rule n a b prefix single suffix siblings
    → prefix ++ (single ++ (reverse suffix ++ siblings)) ≡ map position (reading_order bagging k rule n a b)
order_of_runs bagging k rule n a b prefix single suffix siblings runs =
    let before = wholly_before a (peaks_of rule n) in let after = wholly_after b (peaks_of rule n) in let inside = range_siblings a b (peaks_of rule n) in
    let met = met_count rule n a b in
    let xs = folded_prefix bagging k before in let ys = single_before bagging k before in let zs = single_after bagging k met after in let us = folded_suffix bagging k met after in
    let rest = reverse us ++ inside in
    ap₂ ◌++◌ runs.prefix_is (ap₂ ◌++◌ runs.single_is (ap₂ ◌++◌ (ap reverse runs.suffix_is ∙ sym (map-reverse position us)) runs.siblings_is))
    ∙ sym (map-append_four position xs (ys ++ zs) (reverse us) inside)
    ∙ ap (map position) (ap (λ z. xs ++ z) (append_assoc ys zs rest) ∙ sym (append_assoc xs ys (zs ++ rest)) ∙ ap (λ z. z ++ (zs ++ rest)) (folded_prefix_rest bagging k before))

-- four parts of a list, by where they end
four_parts : {X : Type 0} (xs ys zs us : List X) (i j k : ℕ) → length xs ≡ i → i + length ys ≡ j → j + length zs ≡ k
    → (take i (xs ++ (ys ++ (zs ++ us))) ≡ xs) × (take (j - i) (drop i (xs ++ (ys ++ (zs ++ us)))) ≡ ys)
    × (take (k - j) (drop j (xs ++ (ys ++ (zs ++ us)))) ≡ zs) × (drop k (xs ++ (ys ++ (zs ++ us))) ≡ us)
four_parts xs ys zs us i j k u v w =
    let two : xs ++ (ys ++ (zs ++ us)) ≡ (xs ++ ys) ++ (zs ++ us) = sym (append_assoc xs ys (zs ++ us)) in
    let three : xs ++ (ys ++ (zs ++ us)) ≡ ((xs ++ ys) ++ zs) ++ us = two ∙ sym (append_assoc (xs ++ ys) zs us) in (
      take_at xs (ys ++ (zs ++ us)) i u,
      ap (take (j - i)) (drop_at xs (ys ++ (zs ++ us)) i u) ∙ take_at ys (zs ++ us) (j - i) (omega (arith, v)),
      ap (λ z. take (k - j) (drop j z)) two ∙ ap (take (k - j)) (drop_at (xs ++ ys) (zs ++ us) j (omega (arith, u, v, length-append xs ys))) ∙ take_at zs us (k - j) (omega (arith, w)),
      ap (drop k) three ∙ drop_at ((xs ++ ys) ++ zs) us k (omega (arith, u, v, w, length-append xs ys, length-append (xs ++ ys) zs)),
    )

-- the runs of a plan, from its numbers
pub runs_of_plan : (rule : List ℕ → List ℕ) (max_leaves n a b peaks before after : ℕ) (reads : List ℕ)
    → IsPlan rule max_leaves n a b peaks before after reads → (bagging own : Bagging) → own ≡ bagging → (k prefix single : ℕ)
    → ((ts : List Tree) → length ts ≡ before → prefix ≡ length (folded_prefix own k ts)) → ((ts : List Tree) → length ts ≡ after → single ≡ length (single_after own k (peaks - after) ts))
    → (one two three four : List ℕ) → one ≡ reads → two ≡ reads → three ≡ reads → four ≡ reads
    → AreRuns bagging k rule n a b (take prefix one) (take (before + single - prefix) (drop prefix two))
    (take (before + after - (before + single)) (drop (before + single) three)) (take (length four - (before + after)) (drop (before + after) four))
runs_of_plan rule max_leaves n a b peaks before after reads plan bagging own same k prefix single p s one two three four d e f g =
    let ts = peaks_of rule n in let olds = wholly_before a ts in let news = wholly_after b ts in let inside = range_siblings a b ts in
    let met = met_count rule n a b in
    let met_is : peaks - after ≡ met = omega (arith, plan.peaks_are, plan.after_are, length-peaks_of rule n a b plan.nonempty) in
    let xs = folded_prefix bagging k olds in let ys = single_before bagging k olds in let zs = single_after bagging k met news in let us = folded_suffix bagging k met news in
    let old = folded_prefix_rest bagging k olds in let new = single_after_rest bagging k met news in
    let prefix_is : prefix ≡ length xs = p olds (sym plan.before_are) ∙ ap (λ z. length (folded_prefix z k olds)) same in
    let single_is : single ≡ length zs = s news (sym plan.after_are) ∙ ap₂ (λ z m. length (single_after z k m news)) same met_is in
    let M = map position in
    let all : reads ≡ M xs ++ (M (ys ++ zs) ++ (M us ++ M inside)) =
    plan.reads_are ∙ ap M (ap₂ (λ x y. x ++ (y ++ inside)) (sym old) (sym new) ∙ append_assoc xs ys ((zs ++ us) ++ inside)
    ∙ ap (λ z. xs ++ z) (ap (λ z. ys ++ z) (append_assoc zs us inside) ∙ sym (append_assoc ys zs (us ++ inside)))) ∙ map-append_four position xs (ys ++ zs) us inside in
    let parts = four_parts (M xs) (M (ys ++ zs)) (M us) (M inside) prefix (before + single) (before + after)
    (omega (arith, length-map xs position, prefix_is))
    (omega (arith, length-map (ys ++ zs) position, length-append ys zs, prefix_is, single_is, plan.before_are, ap length old, length-append xs ys))
    (omega (arith, length-map us position, single_is, plan.after_are, ap length new, length-append zs us)) in
    record {
      prefix_is = ap (take prefix) (d ∙ all) ∙ parts.0;
      single_is = ap (λ z. take (before + single - prefix) (drop prefix z)) (e ∙ all) ∙ parts.1;
      suffix_is = ap (λ z. take (before + after - (before + single)) (drop (before + single) z)) (f ∙ all) ∙ parts.2;
      siblings_is = take_all (length four - (before + after)) (drop (before + after) four) (omega (arith, length-drop (before + after) four)) ∙ ap (drop (before + after)) (g ∙ all) ∙ parts.3;
    }
