-- Leaves that are given with their elements.
use Rattle.std.proofs.Common.{◌≡◌, ℕ, ◌+◌, ◌<◌, ◌≤◌, List, [], ◌∷◌, ◌++◌, length, map, take, get_or, refl, ap, sym, ◌∙◌, arith}
use Rattle.std.specs.Borrow.{Bor}
use Rattle.std.specs.List.{AllByRecursion, list_any, range_with_len}
use Rattle.std.proofs.lemmas.List.{map-append, take_more}
use Rattle.merkle_base.specs.Forest.{size}
use Rattle.merkle_base.specs.Hashing.{Hashing}
use Rattle.merkle_base.specs.Places.{peaks_of}
use Rattle.merkle_claim_theory.specs.Multiproof.{is_one_leaf_position, multi_positions}
use Rattle.merkle_proof.specs.Input.{by_location, digested}
use Rattle.merkle_audit_theory.proofs.PeakInputs.{filter_none}

-- ---- positions
pub none_read : (rule : List ℕ → List ℕ) (n : ℕ) (is : List ℕ) → length is ≡ 0 → multi_positions rule n is ≡ []
none_read rule n [] e = filter_none (λ p. list_any (is_one_leaf_position (peaks_of rule n) p) []) (range_with_len 0 (size rule n)) (λ x m. refl)
none_read rule n (i ∷ is) e = absurd (omega (arith, e))

-- ---- elements
-- the digests of leaves, which are given with their locations
pub digests_by : {D : Type 0} (ls : List (D × ℕ)) → map (λ e. e.1) (by_location ls) ≡ map (λ l. l.0) ls
digests_by [] = refl
digests_by (l ∷ ls) = ap (λ ds. l.0 ∷ ds) (digests_by ls)

module _ {D : Type 0} (h : Hashing D) (rule : List ℕ → List ℕ) where
  -- the digest of one leaf more
  pub next_digested : (es : List (Bor (List ℕ) × ℕ)) (i : ℕ) (e : Bor (List ℕ) × ℕ) (p : ℕ) (before after : List (D × ℕ)) → i < length es → e ≡ get_or es i e → p ≡ size rule e.1
      → before ≡ digested h rule (take i es) → after ≡ before ++ (h.leaf p e.0.now, e.1) ∷ [] → after ≡ digested h rule (take (i + 1) es)
  next_digested es i e p before after below e_is at held step =
      step
      ∙ ap (λ ds. ds ++ (h.leaf p e.0.now, e.1) ∷ []) held
      ∙ ap (λ q. digested h rule (take i es) ++ (h.leaf q e.0.now, e.1) ∷ []) at
      ∙ ap (λ x. digested h rule (take i es) ++ (h.leaf (size rule x.1) x.0.now, x.1) ∷ []) e_is
      ∙ sym (ap (digested h rule) (take_more es i e below) ∙ map-append (λ x. (h.leaf (size rule x.1) x.0.now, x.1)) (take i es) (get_or es i e ∷ []))

  -- the locations of elements, which their digests don't change
  pub digested_locations : (es : List (Bor (List ℕ) × ℕ)) → map (λ l. l.1) (digested h rule es) ≡ map (λ e. e.1) es
  digested_locations [] = refl
  digested_locations (e ∷ es) = ap (λ is. e.1 ∷ is) (digested_locations es)

  -- elements at locations below a count are within what the count is within
  pub within_leaves : (n m : ℕ) → n ≤ m → (es : List (Bor (List ℕ) × ℕ)) → AllByRecursion (λ i. i < n) (map (λ e. e.0) (by_location (digested h rule es)))
      → AllByRecursion (λ e. e.1 ≤ m) es
  within_leaves n m l [] b = tt
  within_leaves n m l (e ∷ es) b = (omega (arith, l, b.0), within_leaves n m l es b.1)
