-- A whole structure agrees with each list that has its root, or what is hashed collides.
use Rattle.std.proofs.Common.{◌≡◌, ℕ, ◌<◌, ◌≤◌, ◌⊎◌, cond, List, length, Some, None, option_map, slice_get, arith, refl, sym, ap, ap₂, inl, inr, ◌∙◌, subst, ⊎_elim}
use Rattle.std.specs.Prelude.{is_some, ◌&&◌}
use Rattle.std.specs.List.{AllByRecursion}
use Rattle.std.proofs.lemmas.Bool.{cases_lt, lt-ltb, false≢true}
use Rattle.std.proofs.lemmas.Option.{slice_get_past}
use Rattle.merkle_base.specs.Tree.{Tree, join, position}
use Rattle.merkle_base.specs.Forest.{forest, size}
use Rattle.merkle_base.specs.Hashing.{Hashing}
use Rattle.merkle_base.specs.Digests.{node_digests}
use Rattle.merkle_base.specs.Places.{peaks_of}
use Rattle.merkle_base.specs.Root.{list_root, peaks_root}
use Rattle.merkle_base.specs.Scheme.{Scheme}
use Rattle.merkle_base.proofs.Births.{all_get}
use Rattle.merkle_base.proofs.Cases.{by_test}
use Rattle.merkle_base.proofs.Growth.{forest_grown}
use Rattle.merkle_base.proofs.Lists.{get_exists, one_there}
use Rattle.merkle_base.proofs.Nodes.{node_built, peak_of}
use Rattle.merkle_base.proofs.PeakLists.{peaks_built}
use Rattle.merkle_base.proofs.Reversed.{get_reverse}
use Rattle.merkle_root_theory.specs.Expression.{Expression}
use Rattle.merkle_root_theory.specs.Plan.{Plan, plan_expression}
use Rattle.merkle_root_theory.specs.Check.{root_of}
use Rattle.merkle_root_theory.specs.Range.{IsLawfulScheme, leaf_of, plan_root}
use Rattle.merkle_root_theory.proofs.Collisions.{main}
use Rattle.merkle_root_theory.proofs.ListRoots.{node_digest_is, roots_agree}
use Rattle.merkle_root_theory.proofs.RangeChecks.{small_leaves, small_inactive, no_plan, no_peaks}
use Rattle.merkle_claim_theory.proofs.ListedDigests.{each_of, of_each, plan_for, roots, below_root, no_other_list}
use Rattle.merkle_batch_theory.specs.Contents.{Contents, HoldsKept, Agrees, is_kept, held_peaks}
use Rattle.merkle_batch_theory.proofs.OptionFacts.{none_or_some}
use Rattle.merkle_batch_theory.proofs.ShownLists.{agrees_shows}
use Rattle.merkle_batch_theory.proofs.Steps.{digests_length, node_digest_at}
use Rattle.merkle_restore_theory.specs.Damage.{IsWhole, AgreesIsWhole, FirstIsUnique}
use Rattle.merkle_restore_theory.specs.HeldRoot.{held_plan, held_expression, HeldCollides, WholeAgrees}
use Rattle.merkle_restore_theory.proofs.HeldBelow.{built_there, held_is_kept}
use Rattle.merkle_restore_theory.proofs.HeldValues.{held_root, plan_holds}
use Rattle.merkle_restore_theory.proofs.HeldTold.{IsTold, plan_told}

-- ---- what is held of each peak is the list's: the structure agrees
module _ {D : Type 0} (h : Hashing D) (rule : List ℕ → List ℕ) (c : Contents D) (n : ℕ) (held : HoldsKept rule c) (within : c.boundary ≤ n)
    (sized : size rule n ≡ c.size) (X : List D) (same : n ≡ length X) where
  nothing_there : (p : ℕ) → c.node p ≡ None → c.node p ≡ cond (is_kept rule c.boundary p) (slice_get (node_digests h rule X) p) None
  nothing_there p none =
      by_test (λ y. is_kept rule c.boundary p ≡ y → c.node p ≡ cond y (slice_get (node_digests h rule X) p) None) (is_kept rule c.boundary p)
      (λ _ kept. elim (cases_lt p c.size) [
        | inl l ↦ absurd (false≢true (sym (ap is_some none) ∙ held p ∙ ap₂ (λ x y. x && y) (lt-ltb p c.size l) kept))
        | inr m ↦ none ∙ sym (slice_get_past (node_digests h rule X) p (omega (arith, digests_length h rule X, m, sized, ap (size rule) same)))
      ])
      (λ _ _. none)
      refl

  there : AllByRecursion (IsTold h c (leaf_of h X)) (peaks_of rule n) → (p : ℕ) (d : D) → c.node p ≡ Some d → c.node p ≡ cond (is_kept rule c.boundary p) (slice_get (node_digests h rule X) p) None
  there told p d e =
      let w = held_is_kept rule c n held sized p (ap is_some e) in
      let t = get_exists (forest rule n).nodes p w.0 in
      let g = forest_grown rule n in
      let top = peak_of t.0 (forest rule n).peaks (g.under p t.0 t.1) in
      let j = get_reverse (forest rule n).peaks top.0 top.1 top.2 in
      let here : c.node (position t.0) ≡ Some d = ap c.node (g.placed p t.0 t.1) ∙ e in
      let right = all_get (IsTold h c (leaf_of h X)) (peaks_of rule n) j.0 top.1 told j.1 t.0 top.3 d here in
      let listed = node_digest_is h rule X p t.0 (subst (λ m. slice_get (forest rule m).nodes p ≡ Some t.0) same t.1) in
      e ∙ ap Some right ∙ sym listed ∙ ap (λ y. cond y (slice_get (node_digests h rule X) p) None) (sym w.1)

  agrees_where_told : AllByRecursion (IsTold h c (leaf_of h X)) (peaks_of rule n) → Agrees h rule c X
  agrees_where_told told = record {
    sized = sym sized ∙ ap (size rule) same;
    bounded = omega (arith, within, same);
    holds = λ p. elim (none_or_some (c.node p)) [ inl none ↦ nothing_there p none | inr some ↦ there told p some.0 some.1 ];
  }

none_told : (P : Tree → Type 0) (rule : List ℕ → List ℕ) (n : ℕ) → n ≡ 0 → AllByRecursion P (peaks_of rule n)
unfolding forest
none_told P rule n e = rw e tt

-- ---- the root
module _ {D : Type 0} (s : Scheme D) (digest_size max_nodes : ℕ) (sound : IsLawfulScheme s digest_size max_nodes) (c : Contents D) (n : ℕ)
    (held : HoldsKept s.rule c) (within : c.boundary ≤ n) (limit : n ≤ s.max_leaves)
    (sized : size s.rule n ≡ c.size) (whole : IsWhole s.hashing s.rule n c.node) (k : ℕ) (low : k ≤ length (peaks_of s.rule n))
    (X : List D) (j : ℕ) (few : length X ≤ s.max_leaves) (low' : j ≤ length (peaks_of s.rule (length X))) (same : list_root s X j ≡ peaks_root s n k k (held_peaks s.rule n c)) where
  abbrev E : Plan → Expression D
  E = held_plan s.hashing c.node

  equal_roots : root_of s n k (held_expression s c.node n k) ≡ plan_root s X j
  equal_roots = held_root s sound.laws c n held within sized whole k ∙ sym same ∙ sym (roots_agree s X j)

  no_leaves : n ≡ 0 → Agrees s.hashing s.rule c X ⊎ HeldCollides s c.node n k X j
  no_leaves none =
      let zero_k : k ≡ 0 = omega (arith, subst (λ m. k ≤ length (peaks_of s.rule m)) none low, no_peaks s) in
      let empty : held_expression s c.node n k ≡ None = ap (λ m. held_expression s c.node m k) none ∙ ap (λ o. option_map E o) (no_plan s s.bagging k) in
      let root : root_of s 0 0 None ≡ plan_root s X j = ap₂ (λ m i. root_of s m i None) (sym none) (sym zero_k) ∙ ap (root_of s n k) (sym empty) ∙ equal_roots in
      ⊎_elim (λ nil. inl (agrees_where_told s.hashing s.rule c n held within sized X (none ∙ sym (ap length nil)) (none_told _ s.rule n none))) inr
      (no_other_list s digest_size max_nodes sound X j few low' E n k none zero_k root)

  some_leaves : 0 < n → Agrees s.hashing s.rule c X ⊎ HeldCollides s c.node n k X j
  some_leaves pos =
      let Y = leaf_of s.hashing X in
      let p = plan_for s n k pos in
      let a1 = small_leaves s max_nodes n sound.lawful limit in
      let a2 = small_leaves s max_nodes (length X) sound.lawful few in
      let b1 = small_inactive s max_nodes n k sound.lawful limit low in
      let b2 = small_inactive s max_nodes (length X) j sound.lawful few low' in
      let told = plan_told s.hashing sound.laws s.rule c n held within sized whole Y p.0 (of_each _ s.bagging k (peaks_of s.rule n) p.0 p.1 (peaks_built s.rule n)) in
      ⊎_elim
      (λ w. ⊎_elim
      (λ g. inl (agrees_where_told s.hashing s.rule c n held within sized X w.0 (each_of (IsTold s.hashing c Y) s.bagging k (peaks_of s.rule n) p.0 p.1 (told.1 g))))
      (λ x. inr (below_root s digest_size sound.bytes Y E n (length X) k j a1 a2 b1 b2 p.0 p.1 w.0 w.1 x))
      (main s.hashing sound.laws (E p.0) (plan_expression Y p.0) told.0 (plan_holds s.hashing c.node p.0) w.2))
      inr
      (roots s digest_size sound.bytes Y E n (length X) k j a1 a2 b1 b2 pos p.0 p.1 equal_roots)

  by_leaves : Agrees s.hashing s.rule c X ⊎ HeldCollides s c.node n k X j
  by_leaves = elim (cases_lt 0 n) [ inl pos ↦ some_leaves pos | inr none ↦ no_leaves (omega (arith, none)) ]

pub whole_agrees : {D : Type 0} → WholeAgrees D
whole_agrees s digest_size max_nodes sound c n held within limit sized whole k low X j few low' same =
    by_leaves s digest_size max_nodes sound c n held within limit sized whole k low X j few low' same

-- ---- small laws
pub agrees_is_whole : {D : Type 0} → AgreesIsWhole D
agrees_is_whole h rule c X a p w =
    let shown = agrees_shows h rule c X a in
    let built = node_built rule (length X) p (join p w.0 w.1) w.5 in
    let ns = (forest rule (length X)).nodes in
    let node = one_there (shown.right p w.2 w.6) (node_digest_at h rule X p (join p w.0 w.1) w.5) in
    let left = one_there (shown.right (position w.0) w.3 w.7) (node_digest_at h rule X (position w.0) w.0 (built_there ns w.0 built.4)) in
    let right = one_there (shown.right (position w.1) w.4 w.8) (node_digest_at h rule X (position w.1) w.1 (built_there ns w.1 built.5)) in
    w.9 (node ∙ ap₂ (h.node p) (sym left) (sym right))

pub first_is_unique : {D : Type 0} → FirstIsUnique D
first_is_unique h rule n node p q x y = elim (cases_lt p q) [
  | inl l ↦ absurd (y.1 p l x.0)
  | inr m ↦ elim (cases_lt q p) [ inl l ↦ absurd (x.1 q l y.0) | inr o ↦ omega (arith, m, o) ]
]
