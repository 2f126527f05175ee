-- Why a node that is read isn't there.
use Rattle.std.proofs.Common.{◌≡◌, ℕ, Option, Some, None, IfSome, refl, ◌+◌, ◌<◌, ◌≤◌, List, ◌∷◌, ◌++◌, map, inl, inr, arith, ap, sym, ◌∙◌}
use Rattle.std.proofs.lemmas.List.{map-append}
use Rattle.std.proofs.lemmas.Bool.{cases_lt}
use Rattle.merkle_base.specs.Tree.{position}
use Rattle.merkle_base.specs.Forest.{forest, size}
use Rattle.merkle_base.specs.Places.{peaks_of, placed}
use Rattle.merkle_base.proofs.Lists.{get_below}
use Rattle.merkle_base.proofs.PeakLists.{first-placed}
use Rattle.merkle_hasher.proofs.PeakNodes.{peaks_at}
use Rattle.merkle_draft.proofs.NodePositions.{position_of_node}
use Rattle.merkle_draft.specs.NodeErrors.{IsGapAt}
use Rattle.merkle_draft.specs.declared.node_error.NodeError.{NodeError}
use Rattle.merkle_draft.specs.declared.node_error.NodeError.TheVariants.{Missing}

-- what holds of each value that an option may have holds of the option
pub if_some : {A : Type 0} (o : Option A) (P : A → Type 0) → ((x : A) → o ≡ Some x → P x) → IfSome o P
if_some (Some x) P f = f x refl
if_some None P f = tt

-- what isn't read before the end of the appended nodes is one of the older ones
pub gap_below : {F D : Type 0} (node : ℕ → Option D) (before count p : ℕ) (e : NodeError F) → (e ≡ Missing p)
    × ((p < before → node p ≡ None) × (before ≤ p → before + count ≤ p)) → p < before + count → (p < before) × IsGapAt node p e
gap_below node before count p e missing below = elim (cases_lt p before) [
  | inl l ↦ (l, (missing.0, missing.1.0 l))
  | inr l ↦ absurd (let no : before + count ≤ p = missing.1.1 l in omega (arith, no, below))
]

-- a listed peak stands before the end
pub listed_below : (rule : List ℕ → List ℕ) (n : ℕ) (done more : List (ℕ × ℕ)) (q : ℕ × ℕ) → done ++ q ∷ more ≡ map placed (peaks_of rule n) → q.0 < size rule n
listed_below rule n done more q listed =
    let firsts : map position (peaks_of rule n) ≡ map (λ (x : ℕ × ℕ). x.0) done ++ q.0 ∷ map (λ (x : ℕ × ℕ). x.0) more =
    sym (ap (map (λ (x : ℕ × ℕ). x.0)) listed ∙ first-placed (peaks_of rule n)) ∙ map-append (λ (x : ℕ × ℕ). x.0) done (q ∷ more) in
    let t = position_of_node rule n (peaks_of rule n) (peaks_at rule n n (omega arith)) (map (λ (x : ℕ × ℕ). x.0) done) (map (λ (x : ℕ × ℕ). x.0) more) q.0 firsts in
    get_below (forest rule n).nodes q.0 t.0 t.1
