-- The nodes that are held, read at a position and after a change.
use Rattle.std.proofs.Common.{◌≡◌, ℕ, ◌+◌, ◌-◌, ◌<◌, ◌≤◌, List, ◌++◌, length, drop, true, false, Bool, Option, Some, None, cond, arith, refl, sym, ap, ◌∙◌, inl, inr, reverse, nat_eq, slice_set}
use Rattle.std.specs.Prelude.{◌==◌, nat_lt, slice_get}
use Rattle.std.specs.List.{list_any}
use Rattle.std.specs.FinMap.{get, get-empty}
use Rattle.std.specs.Ordering.{nat_cmp}
use Rattle.std.specs.Map.{lookup}
use Rattle.std.proofs.lemmas.Bool.{cases_lt, lt-ltb, le-ltb, eqb-true, eqb-false, ne_eqb}
use Rattle.std.proofs.lemmas.Option.{slice_get_past, slice_get-get_or}
use Rattle.merkle_base.specs.Tree.{position}
use Rattle.merkle_base.specs.Forest.{forest, size}
use Rattle.merkle_base.specs.Heights.{IsLawful}
use Rattle.merkle_base.specs.Places.{peak_positions}
use Rattle.merkle_base.proofs.Cases.{by_test}
use Rattle.merkle_base.proofs.Lists.{get_below}
use Rattle.merkle_base.proofs.Lookup.{get_append_add, peak_node}
use Rattle.merkle_base.proofs.Nodes.{size_le, size_lt}
use Rattle.merkle_batch_theory.specs.Contents.{HoldsKept}
use Rattle.merkle_batch_theory.specs.Held.{Held, PinsBefore, held_contents, overwritten_by}
use Rattle.merkle_batch_theory.specs.MemModel.{MemModel, contents, stored_of, no_leaves}
use Rattle.merkle_batch_theory.specs.MemValid.{HasLeafCount, IsMemValid}
use Rattle.merkle_batch_theory.proofs.Chains.{same_contents}
use Rattle.merkle_batch_theory.proofs.Edits.{get_left, get_set_same, get_set_other}
use Rattle.merkle_base.proofs.Reversed.{get_reversed}
use Rattle.merkle_batch_theory.proofs.ListFacts.{any_find, get_drop}
use Rattle.merkle_batch_theory.proofs.Kept.{get_mapped}
use Rattle.merkle_batch_theory.proofs.Stored.{held_before, held_from}

-- at position p: a pin before the start, and one of the nodes from it on
abbrev pub stored_at : {D : Type 0} → List (ℕ × D) → ℕ → List D → ℕ → Option D
stored_at pins start nodes p = cond (nat_lt p start) (lookup (λ q. p == q) pins) (slice_get nodes (p - start))

-- what is held at a position, read off the pins and the nodes
pub stored_reads : {D : Type 0} (pins : List (ℕ × D)) (start : ℕ) (nodes : List D) → PinsBefore start pins → (p : ℕ) → get (stored_of pins start nodes) p ≡ stored_at pins start nodes p
stored_reads pins start nodes before p = elim (cases_lt p start) [
  | inl h ↦ rw (lt-ltb p start h) (held_before pins start nodes p h)
  | inr h ↦ rw (le-ltb p start h) (held_from pins start nodes p h (before p h))
]

-- ---- a node is replaced
module _ {D : Type 0} (at : ℕ) (digest : D) where
  -- o with the digest in place of what is there, if that is at p
  abbrev pub replaced : ℕ → Option D → Option D
  replaced p o = cond (p == at) (overwritten_by (Some digest) o) o

  none_replaced : (b : Bool) → cond b (overwritten_by (Some digest) None) None ≡ None
  none_replaced true = refl
  none_replaced false = refl

  module _ (pins : List (ℕ × D)) (start : ℕ) (nodes : List D) (before : PinsBefore start pins) where
    -- what is stored, if it is replaced in what is read off
    replaced_reads : (pins' : List (ℕ × D)) (nodes' : List D) → PinsBefore start pins' → ((p : ℕ) → stored_at pins' start nodes' p ≡ replaced p (stored_at pins start nodes p)) →
        (p : ℕ) → get (stored_of pins' start nodes') p ≡ replaced p (get (stored_of pins start nodes) p)
    replaced_reads pins' nodes' before' put p = stored_reads pins' start nodes' before' p ∙ put p ∙ sym (ap (replaced p) (stored_reads pins start nodes before p))

    -- a pin takes a digest
    pub put_reads : (pins' : List (ℕ × D)) → at < start → ((p : ℕ) → lookup (nat_eq p) pins' ≡ replaced p (lookup (nat_eq p) pins)) → (p : ℕ)
        → get (stored_of pins' start nodes) p ≡ replaced p (get (stored_of pins start nodes) p)
    put_reads pins' below put = replaced_reads pins' nodes (λ p l. put p ∙ ap (replaced p) (before p l) ∙ none_replaced (p == at)) (λ p. elim (cases_lt p start) [
      | inl h ↦ rw (lt-ltb p start h) (put p)
      | inr h ↦ rw (le-ltb p start h, ne_eqb p at (λ e. absurd (omega (arith, e, h, below)))) refl
    ])

    -- one of the nodes from the start on takes a digest
    pub set_reads : (k : ℕ) → start ≤ at → k ≡ at - start → k < length nodes → (p : ℕ) → get (stored_of pins start (slice_set nodes k digest)) p ≡ replaced p (get (stored_of pins start nodes) p)
    set_reads k from is l = replaced_reads pins (slice_set nodes k digest) before (λ p. elim (cases_lt p start) [
      | inl h ↦ rw (lt-ltb p start h, ne_eqb p at (λ e. absurd (omega (arith, e, h, from)))) refl
      | inr h ↦ rw (le-ltb p start h)
          (by_test (λ b. slice_get (slice_set nodes k digest) (p - start)
          ≡ cond b (overwritten_by (Some digest) (slice_get nodes (p - start))) (slice_get nodes (p - start))) (p == at)
          (λ e. let same : p - start ≡ k = omega (arith, is, eqb-true p at e) in
          ap (slice_get (slice_set nodes k digest)) same ∙ get_set_same nodes k digest l ∙ ap (overwritten_by (Some digest)) (sym (ap (slice_get nodes) same ∙ slice_get-get_or nodes k digest l)))
          (λ e. get_set_other nodes k (p - start) digest (λ same. eqb-false p at e (omega (arith, is, same, h, from)))))
    ])

    -- there is no such node
    pub unset_reads : start ≤ at → length nodes ≤ at - start → (p : ℕ) → get (stored_of pins start nodes) p ≡ replaced p (get (stored_of pins start nodes) p)
    unset_reads from past p = by_test
        (λ b. get (stored_of pins start nodes) p
        ≡ cond b (overwritten_by (Some digest) (get (stored_of pins start nodes) p)) (get (stored_of pins start nodes) p)) (p == at)
        (λ e. let here : p ≡ at = eqb-true p at e in
        let none : get (stored_of pins start nodes) p ≡ None =
        held_from pins start nodes p (omega (arith, here, from)) (before p (omega (arith, here, from)))
        ∙ slice_get_past nodes (p - start) (omega (arith, here, past)) in
        none ∙ sym (ap (overwritten_by (Some digest)) none))
        (λ e. refl)

-- ---- nodes come or go
module _ {D : Type 0} (pins : List (ℕ × D)) (start : ℕ) (nodes : List D) (before : PinsBefore start pins) where
  -- nodes are appended
  stored_append : (digests : List D) (p : ℕ)
      → stored_at pins start (nodes ++ digests) p ≡ cond (nat_lt p (start + length nodes)) (stored_at pins start nodes p) (slice_get digests (p - (start + length nodes)))
  stored_append digests p = elim (cases_lt p (start + length nodes)) [
    | inl l ↦ rw (lt-ltb p (start + length nodes) l) (elim (cases_lt p start) [
      | inl h ↦ rw (lt-ltb p start h) refl
      | inr h ↦ rw (le-ltb p start h) (get_left nodes digests (p - start) (omega (arith, l, h)))
    ])
    | inr l ↦ (let at : p - start ≡ length nodes + (p - (start + length nodes)) = omega (arith, l) in
        rw (le-ltb p (start + length nodes) l, le-ltb p start (omega (arith, l))) (ap (slice_get (nodes ++ digests)) at ∙ get_append_add nodes digests (p - (start + length nodes))))
  ]

  pub append_reads : (digests : List D) (p : ℕ)
      → get (stored_of pins start (nodes ++ digests)) p
      ≡ cond (nat_lt p (start + length nodes)) (get (stored_of pins start nodes) p) (slice_get digests (p - (start + length nodes)))
  append_reads digests p =
      stored_reads pins start (nodes ++ digests) before p ∙ stored_append digests p
      ∙ sym (ap (λ o. cond (nat_lt p (start + length nodes)) o (slice_get digests (p - (start + length nodes)))) (stored_reads pins start nodes before p))

  -- the nodes before a later start go
  pub drop_reads : (pins' : List (ℕ × D)) (start' : ℕ) (nodes' : List D) → PinsBefore start' pins' → start ≤ start' → nodes' ≡ drop (start' - start) nodes → (p : ℕ) →
      get (stored_of pins' start' nodes') p ≡ cond (nat_lt p start') (lookup (nat_eq p) pins') (get (stored_of pins start nodes) p)
  drop_reads pins' start' nodes' before' later rest p = elim (cases_lt p start') [
    | inl h ↦ rw (lt-ltb p start' h) (held_before pins' start' nodes' p h)
    | inr h ↦ rw (le-ltb p start' h)
        (let at : (start' - start) + (p - start') ≡ p - start = omega (arith, h, later) in
        held_from pins' start' nodes' p h (before' p h) ∙ ap (λ ds. slice_get ds (p - start')) rest ∙ get_drop (start' - start) (p - start') nodes ∙ ap (slice_get nodes) at
        ∙ sym (held_from pins start nodes p (omega (arith, h, later)) (before p (omega (arith, h, later)))))
  ]

-- ---- counts
pub counted_nodes : (rule : List ℕ → List ℕ) (max_leaves max_nodes leaves n : ℕ) → IsLawful rule max_leaves max_nodes → HasLeafCount rule max_leaves leaves n → n ≤ max_nodes
counted_nodes rule max_leaves max_nodes leaves n law k = omega (arith, size_le rule leaves max_leaves k.bounded, k.sized, law.size_at_limit)

-- the boundary is not past the leaves where its position is not past the nodes
pub kept_counted : {D : Type 0} (rule : List ℕ → List ℕ) (max_leaves boundary leaves : ℕ) (held : Held D)
    → HasLeafCount rule max_leaves leaves held.size → held.start ≡ size rule boundary → held.start ≤ held.size
    → HoldsKept rule (held_contents boundary held) → IsMemValid rule max_leaves boundary leaves held
kept_counted rule max_leaves boundary leaves held counted starts l holds = record {
  starts = starts;
  within = elim (cases_lt leaves boundary) [ inl h ↦ absurd (omega (arith, size_lt rule leaves boundary h, counted.sized, starts, l)) | inr h ↦ h ];
  counted = counted;
  holds = holds;
}

-- the peaks of b leaves stand before the position of leaf b
pub peak_below : (rule : List ℕ → List ℕ) (b i p : ℕ) → slice_get (peak_positions rule b) i ≡ Some p → p < size rule b
peak_below rule b i p e =
    let m = get_mapped position (reverse (forest rule b).peaks) i p e in
    let j = get_reversed (forest rule b).peaks i m.0 m.1 in
    omega (arith, m.2, get_below (forest rule b).nodes (position m.0) m.0 (peak_node rule b j.0 m.0 j.1))

peak_before : (rule : List ℕ → List ℕ) (b p : ℕ) → list_any (nat_eq p) (peak_positions rule b) ≡ true → p < size rule b
peak_before rule b p e =
    let k = any_find (nat_eq p) (peak_positions rule b) e in
    omega (arith, eqb-true p k.1 k.3, peak_below rule b k.0 k.1 k.2)

pub no_peak_from : (rule : List ℕ → List ℕ) (b p : ℕ) → size rule b ≤ p → list_any (nat_eq p) (peak_positions rule b) ≡ false
no_peak_from rule b p l = by_test (λ t. t ≡ false) (list_any (nat_eq p) (peak_positions rule b)) (λ e. absurd (omega (arith, peak_before rule b p e, l))) (λ _. refl)

-- ---- a structure of no leaves
pub contents_none : {D : Type 0} (s : MemModel D) → s ≡ no_leaves → contents s ≡ record { boundary = 0; size = 0; node = λ p. None }
contents_none s e = ap contents e ∙ same_contents (contents no_leaves) (record { boundary = 0; size = 0; node = λ p. None }) refl refl (λ p. get-empty nat_cmp p)
