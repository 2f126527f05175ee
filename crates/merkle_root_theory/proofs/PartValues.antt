-- The digests that a claim has for parts of a plan, one after another.
use Rattle.std.proofs.Common.{◌≡◌, ℕ, Bool, true, false, cond, ◌||◌, ◌+◌, ◌≤◌, List, [], ◌∷◌, ◌++◌, length, map, drop, take, arith, refl, ap, ap₂, sym, ◌∙◌, length-append, drop-drop}
use Rattle.std.specs.List.{AllByRecursion}
use Rattle.merkle_base.specs.Tree.{Tree}
use Rattle.merkle_base.specs.Hashing.{Hashing}
use Rattle.merkle_root_theory.specs.Expression.{Place, value, computed, hashed_at, supplied}
use Rattle.merkle_root_theory.specs.Plan.{Plan, peak, folding, meets, siblings, outside_parts, path_siblings}
use Rattle.merkle_root_theory.specs.Outside.{Met, Unmet}
use Rattle.merkle_root_theory.specs.Claim.{next, claim, tree_claim}
use Rattle.merkle_root_theory.specs.Walk.{peak_values}
use Rattle.merkle_root_theory.proofs.OutsideNodes.{outside_parts_unmet, inner_unmet}

-- the digests of parts, from those given for the outer parts and for the inner nodes
abbrev pub part_values : {D : Type 0} → Hashing D → (ℕ → Bool) → (ℕ → D) → List Plan → List D → List D → List D
part_values h c X [] os is = []
part_values h c X (p ∷ ps) os is = value h (claim h c X p os is) ∷ part_values h c X ps (drop (length (outside_parts c p)) os) (drop (length (path_siblings c p)) is)

-- no chosen location lies under any part
abbrev pub UnmetParts : (ℕ → Bool) → List Plan → Type 0
UnmetParts c ps = AllByRecursion (λ p. meets c p ≡ false) ps

module _ (c : ℕ → Bool) where
  pub unmet_peaks : (ts : List Tree) → Unmet c ts → UnmetParts c (map peak ts)
  unmet_peaks [] u = tt
  unmet_peaks (t ∷ ts) u = (u.0, unmet_peaks ts u.1)

  pub unmet_append : (ps qs : List Plan) → UnmetParts c ps → UnmetParts c qs → UnmetParts c (ps ++ qs)
  unmet_append [] qs u v = v
  unmet_append (p ∷ ps) qs u v = (u.0, unmet_append ps qs u.1 v)

module _ {D : Type 0} (h : Hashing D) (c : ℕ → Bool) (X : ℕ → D) where
  pub claim_unmet : (p : Plan) (os is : List D) → meets c p ≡ false → claim h c X p os is ≡ supplied (next h os)
  claim_unmet (peak t) os is e = ap (λ z. cond z (tree_claim h c X t is) (supplied (next h os))) e
  claim_unmet (folding q l r) os is e =
      ap (λ z. cond z (computed q (claim h c X l os is) (claim h c X r (drop (length (outside_parts c l)) os) (drop (length (path_siblings c l)) is)))
      (supplied (next h os))) e

  -- a met folding hashes the digests of its sides
  pub value_folding : (q : Place) (l r : Plan) (os is : List D) → meets c l || meets c r ≡ true
      → value h (claim h c X (folding q l r) os is)
      ≡ hashed_at h q (value h (claim h c X l os is)) (value h (claim h c X r (drop (length (outside_parts c l)) os) (drop (length (path_siblings c l)) is)))
  value_folding q l r os is m =
      ap (λ z. value h (cond z (computed q (claim h c X l os is)
      (claim h c X r (drop (length (outside_parts c l)) os) (drop (length (path_siblings c l)) is))) (supplied (next h os)))) m

  -- and the parts after it take what the sides leave
  pub values_folding : (q : Place) (l r : Plan) (ps : List Plan) (os is : List D) → meets c l || meets c r ≡ true
      → part_values h c X ps (drop (length (outside_parts c (folding q l r))) os) (drop (length (path_siblings c (folding q l r))) is)
      ≡ part_values h c X ps (drop (length (outside_parts c r)) (drop (length (outside_parts c l)) os)) (drop (length (path_siblings c r)) (drop (length (path_siblings c l)) is))
  values_folding q l r ps os is m = ap₂ (part_values h c X ps)
      (ap (λ z. drop (length (cond z (outside_parts c l ++ outside_parts c r) (folding q l r ∷ []))) os) m
      ∙ ap (λ n. drop n os) (length-append (outside_parts c l) (outside_parts c r)) ∙ sym (drop-drop (length (outside_parts c r)) (length (outside_parts c l)) os))
      (ap (λ z. drop (length (cond z (path_siblings c l ++ path_siblings c r) [])) is) m
      ∙ ap (λ n. drop n is) (length-append (path_siblings c l) (path_siblings c r)) ∙ sym (drop-drop (length (path_siblings c r)) (length (path_siblings c l)) is))

  -- a part that isn't met takes the next digest
  values_unmet : (p : Plan) (ps : List Plan) (d : D) (os is : List D) → meets c p ≡ false → part_values h c X (p ∷ ps) (d ∷ os) is ≡ d ∷ part_values h c X ps os is
  values_unmet p ps d os is e = ap₂ (λ x y. x ∷ y) (ap (value h) (claim_unmet p (d ∷ os) is e))
      (ap₂ (part_values h c X ps) (ap (λ z. drop (length z) (d ∷ os)) (outside_parts_unmet c p e)) (ap (λ z. drop (length z) is) (inner_unmet c p e)))

  values_given : (ps : List Plan) (os is : List D) → UnmetParts c ps → length ps ≤ length os → part_values h c X ps os is ≡ take (length ps) os
  values_given [] os is u l = refl
  values_given (p ∷ ps) [] is u l = absurd (omega arith)
  values_given (p ∷ ps) (d ∷ os) is u l = values_unmet p ps d os is u.0 ∙ ap (λ z. d ∷ z) (values_given ps os is u.1 (omega arith))

  values_met : (over : List Tree) (qs : List Plan) (os is : List D) → Met c over → UnmetParts c qs → length qs ≤ length os
      → part_values h c X (map peak over ++ qs) os is ≡ peak_values h c X over is ++ take (length qs) os
  values_met [] qs os is m v l = values_given qs os is v l
  values_met (t ∷ over) qs os is m v l =
      ap₂ (λ x y. x ∷ y) (ap (λ z. value h (cond z (tree_claim h c X t is) (supplied (next h os)))) m.0)
      (ap₂ (part_values h c X (map peak over ++ qs)) (ap (λ z. drop (length (cond z [] (peak t ∷ []))) os) m.0) (ap (λ z. drop (length (cond z (siblings c t) [])) is) m.0)
      ∙ values_met over qs os (drop (length (siblings c t)) is) m.1 v l)

  -- the digests of the met peaks are the walked ones, those of the parts before and after them are the given ones
  pub values_are : (ps : List Plan) (over : List Tree) (qs : List Plan) (os is : List D) → UnmetParts c ps → Met c over → UnmetParts c qs → length ps + length qs ≤ length os
      → part_values h c X (ps ++ (map peak over ++ qs)) os is ≡ take (length ps) os ++ (peak_values h c X over is ++ take (length qs) (drop (length ps) os))
  values_are [] over qs os is u m v l = values_met over qs os is m v (omega (arith, l))
  values_are (p ∷ ps) over qs [] is u m v l = absurd (omega (arith, l))
  values_are (p ∷ ps) over qs (d ∷ os) is u m v l =
      values_unmet p (ps ++ (map peak over ++ qs)) d os is u.0 ∙ ap (λ z. d ∷ z) (values_are ps over qs os is u.1 m v (omega (arith, l)))

  pub length-peak_values : (ts : List Tree) (ds : List D) → length (peak_values h c X ts ds) ≡ length ts
  length-peak_values [] ds = refl
  length-peak_values (t ∷ ts) ds = omega (arith, length-peak_values ts (drop (length (siblings c t)) ds))
