-- The pins of a boundary, and what is held after pruning.
use Rattle.std.proofs.Common.{◌≡◌, ℕ, ◌<◌, ◌≤◌, List, [], ◌∷◌, ◌++◌, length, Bool, true, false, Option, Some, None, cond, arith, refl, sym, ap, ◌∙◌, inl, inr, nat_eq}
use Rattle.std.specs.Prelude.{is_some, nat_lt, ◌||◌}
use Rattle.std.specs.FinMap.{get}
use Rattle.std.specs.List.{list_any, zip}
use Rattle.std.specs.Map.{lookup}
use Rattle.std.proofs.lemmas.Bool.{cases_lt, lt-ltb, le-ltb, lt-leb, eqb-true}
use Rattle.merkle_base.specs.Forest.{size}
use Rattle.merkle_base.specs.Heights.{IsLawful}
use Rattle.merkle_base.specs.Places.{peak_positions}
use Rattle.merkle_base.proofs.Cases.{by_test}
use Rattle.merkle_base.proofs.Nodes.{size_le}
use Rattle.merkle_batch_theory.specs.Contents.{Contents, is_kept, pruned}
use Rattle.merkle_batch_theory.specs.Held.{Held, PinsBefore, held_contents}
use Rattle.merkle_batch_theory.specs.HeldPeaks.{pins_of}
use Rattle.merkle_batch_theory.proofs.Chains.{same_contents}
use Rattle.merkle_batch_theory.proofs.HeldNodes.{no_peak_from}
use Rattle.merkle_batch_theory.proofs.Kept.{kept_from}
use Rattle.merkle_batch_theory.proofs.OptionFacts.{none_of}

-- as many digests as positions: a pin at each of these
pub lookup_zip : {D : Type 0} (p : ℕ) (ps : List ℕ) (ds : List D) → length ds ≡ length ps → is_some (lookup (nat_eq p) (zip ps ds)) ≡ list_any (nat_eq p) ps
lookup_zip p [] ds e = refl
lookup_zip p (q ∷ ps) [] e = absurd (omega (arith, e))
lookup_zip p (q ∷ ps) (d ∷ ds) e =
    by_test (λ b. is_some (cond b (Some d) (lookup (nat_eq p) (zip ps ds))) ≡ b || list_any (nat_eq p) ps) (nat_eq p q) (λ _. refl) (λ _. lookup_zip p ps ds (omega (arith, e)))

-- no more leaves than the limit: no more nodes
pub size_within : (rule : List ℕ → List ℕ) (max_leaves max_nodes n : ℕ) → IsLawful rule max_leaves max_nodes → n ≤ max_leaves → size rule n ≤ max_nodes
size_within rule max_leaves max_nodes n law l = omega (arith, size_le rule n max_leaves l, law.size_at_limit)

-- digests at the peaks of b leaves stand before the position of leaf b
pub zip_before : {D : Type 0} (rule : List ℕ → List ℕ) (b : ℕ) (ds : List D) → length ds ≡ length (peak_positions rule b) → PinsBefore (size rule b) (zip (peak_positions rule b) ds)
zip_before rule b ds many p l = none_of (lookup (nat_eq p) (zip (peak_positions rule b) ds)) (lookup_zip p (peak_positions rule b) ds many ∙ no_peak_from rule b p l)

none_either : {D : Type 0} (b : Bool) (o : Option D) → o ≡ None → cond b o None ≡ o
none_either true o e = refl
none_either false o e = sym e

module _ {D : Type 0} (c : Contents D) (p : ℕ) where
  one_pin : (q : ℕ) (ps : List ℕ) (o : Option D) → c.node q ≡ o → lookup (nat_eq p) (pins_of c ps) ≡ cond (list_any (nat_eq p) ps) (c.node p) None →
      lookup (nat_eq p) (elim o as (λ _. List (ℕ × D)) [ Some d ↦ (q, d) ∷ [] | None ↦ [] ] ++ pins_of c ps) ≡ cond (nat_eq p q || list_any (nat_eq p) ps) (c.node p) None
  one_pin q ps (Some d) e more =
      by_test (λ b. cond b (Some d) (lookup (nat_eq p) (pins_of c ps)) ≡ cond (b || list_any (nat_eq p) ps) (c.node p) None) (nat_eq p q)
      (λ t. sym e ∙ ap c.node (sym (eqb-true p q t)))
      (λ _. more)
  one_pin q ps None e more =
      by_test (λ b. lookup (nat_eq p) (pins_of c ps) ≡ cond (b || list_any (nat_eq p) ps) (c.node p) None) (nat_eq p q)
      (λ t. more ∙ none_either (list_any (nat_eq p) ps) (c.node p) (ap c.node (eqb-true p q t) ∙ e))
      (λ _. more)

  -- the pin at one of these positions is what is held there
  lookup_pins : (ps : List ℕ) → lookup (nat_eq p) (pins_of c ps) ≡ cond (list_any (nat_eq p) ps) (c.node p) None
  lookup_pins [] = refl
  lookup_pins (q ∷ ps) = one_pin q ps (c.node q) refl (lookup_pins ps)

-- and so does what is held there, with its positions
pub pins_before : {D : Type 0} (rule : List ℕ → List ℕ) (b : ℕ) (c : Contents D) → PinsBefore (size rule b) (pins_of c (peak_positions rule b))
pins_before rule b c p l = lookup_pins c p (peak_positions rule b) ∙ ap (λ t. cond t (c.node p) None) (no_peak_from rule b p l)

-- the nodes before the position of a later location go, but for its peaks
module _ {D : Type 0} (rule : List ℕ → List ℕ) (boundary location : ℕ) (old new : Held D)
    (stored : (p : ℕ) → get new.stored p ≡ cond (nat_lt p (size rule location)) (lookup (nat_eq p) (pins_of (held_contents boundary old) (peak_positions rule location))) (get old.stored p)) where
  node_after : (p : ℕ) → get new.stored p ≡ cond (is_kept rule location p) (get old.stored p) None
  node_after p = stored p ∙ elim (cases_lt p (size rule location)) [
    | inl h ↦ rw (lt-ltb p (size rule location) h, lt-leb (size rule location) p h) (lookup_pins (held_contents boundary old) p (peak_positions rule location))
    | inr h ↦ rw (le-ltb p (size rule location) h, kept_from rule location p h) refl
  ]

  pub pruned_contents : boundary < location → new.size ≡ old.size → held_contents location new ≡ pruned rule location (held_contents boundary old)
  pruned_contents later sized =
      let after : Contents D = record { boundary = location; size = old.size; node = λ p. cond (is_kept rule location p) (get old.stored p) None } in
      same_contents (held_contents location new) after refl sized node_after ∙ ap (λ b. cond b after (held_contents boundary old)) (sym (lt-ltb boundary location later))
