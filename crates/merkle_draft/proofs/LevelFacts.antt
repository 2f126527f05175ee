-- Levels of positions: what is listed, and that a level is ready when the lower ones are computed.
use Rattle.std.proofs.Common.{◌≡◌, ℕ, zero, suc, ◌+◌, ◌<◌, ◌≤◌, List, [], ◌∷◌, ◌++◌, length, drop, get_or, flat_map, Option, Some, true, slice_get, arith, refl, sym, ap, inl, inr, ◌∙◌, subst}
use Rattle.std.specs.List.{Contains}
use Rattle.std.proofs.lemmas.List.{drop_all, drop_more}
use Rattle.std.proofs.lemmas.List.Elements.{Contains-append_cases}
use Rattle.merkle_base.specs.Heights.{IsLawful}
use Rattle.merkle_base.specs.Tree.{Tree, leaf, join, position, height, IsBuilt}
use Rattle.merkle_base.specs.Forest.{forest}
use Rattle.merkle_base.specs.Hashing.{Hashing}
use Rattle.merkle_base.proofs.Balance.{node_balanced}
use Rattle.merkle_base.proofs.Growth.{forest_grown, built_at}
use Rattle.merkle_base.proofs.Lists.{one_there}
use Rattle.merkle_base.proofs.Nodes.{node_built}
use Rattle.merkle_batch_theory.specs.Needed.{is_computed}
use Rattle.merkle_draft.specs.Levels.{from_height, level_at}
use Rattle.merkle_draft.specs.Settled.{AreSettled, IsReady, IsReadyToCompute, IsStage}

get_level : (ls : List (List ℕ)) (k : ℕ) (l : List ℕ) → k < length ls → get_or ls k l ≡ level_at ls k
get_level [] k l low = absurd (omega (arith, low))
get_level (v ∷ ls) zero l low = refl
get_level (v ∷ ls) (suc k) l low = get_level ls k l (omega (arith, low))

pub from_here : (ls : List (List ℕ)) (k : ℕ) → k < length ls → from_height ls k ≡ level_at ls k ++ from_height ls (k + 1)
from_here ls k low = ap (flat_map (λ l. l)) (drop_more ls k [] low ∙ ap (λ l. l ∷ drop (k + 1) ls) (get_level ls k [] low))

pub from_past : (ls : List (List ℕ)) (k : ℕ) → length ls ≤ k → from_height ls k ≡ []
from_past ls k past = ap (flat_map (λ l. l)) (drop_all k ls past)

-- what is listed from a height on is listed at one of these heights
pub listed_somewhere : (ls : List (List ℕ)) (k p : ℕ) → Contains (from_height ls k) p → (j : ℕ) × (k ≤ j) × Contains (level_at ls j) p
listed_somewhere [] zero p c = absurd (omega (arith, c.1))
listed_somewhere [] (suc k) p c = absurd (omega (arith, c.1))
listed_somewhere (v ∷ ls) zero p c = elim (Contains-append_cases v (from_height ls 0) p c) [
  | inl x ↦ (0, omega arith, x)
  | inr x ↦ (let w = listed_somewhere ls zero p x in (suc w.0, omega arith, w.2))
]
listed_somewhere (v ∷ ls) (suc k) p c = (let w = listed_somewhere ls k p c in (suc w.0, omega (arith, w.1), w.2))

module _ {D : Type 0} (h : Hashing D) (rule : List ℕ → List ℕ) (max_leaves most : ℕ) (law : IsLawful rule max_leaves most) (m under : ℕ → Option D)
    (n : ℕ) (ds : List D) (before a : ℕ) (ls : List (List ℕ)) (start : ℕ → Option D)
    (all : IsReadyToCompute h rule max_leaves m under n ds before a ls start) where
  -- a listed node is a written parent
  listed_join : (k p : ℕ) (t : Tree) → slice_get (forest rule (n + length ds)).nodes p ≡ Some t → height t ≡ k → is_computed rule m n t ≡ true
      → (todo : List ℕ) → ((u : Tree) → IsBuilt (forest rule (n + length ds)).nodes u → height u < k → Contains todo (position u) → ⊥) →
      IsReady rule m n (n + length ds) k todo p
  listed_join k p (leaf q i) at tall c todo free = absurd (cc)
  listed_join k p (join q l r) at tall c todo free =
      let place : q ≡ p = (forest_grown rule (n + length ds)).placed p (join q l r) at in
      let built = node_built rule (n + length ds) p (join q l r) at in
      let even : height l ≡ height r = (node_balanced rule max_leaves law.equal (n + length ds) p (join q l r) all.within at).0 in
      subst (λ (x : ℕ). IsReady rule m n (n + length ds) k todo x) place
      (l, r, ap (slice_get (forest rule (n + length ds)).nodes) place ∙ at, tall, c, free l built.4 (omega (arith, tall)), free r built.5 (omega (arith, tall, even)))

  -- no lower node is listed from a height on
  lower_free : (k : ℕ) (u : Tree) → IsBuilt (forest rule (n + length ds)).nodes u → height u < k → Contains (from_height ls k) (position u) → ⊥
  lower_free k u built low c =
      let j = listed_somewhere ls k (position u) c in
      let t = (all.planned j.0 (position u)).0 j.2 in
      let same : t.0 ≡ u = one_there t.1 (built_at (forest rule (n + length ds)).nodes u built) in
      omega (arith, low, j.1, t.2, ap height same)

  pub level_stage : (k : ℕ) (now : ℕ → Option D) → k < length ls → AreSettled h rule m under n ds (from_height ls k) now
      → IsStage h rule max_leaves m under n ds before k (level_at ls k) (from_height ls (k + 1)) now
  level_stage k now low settled = record {
    within = all.within;
    sized = all.sized;
    ready = λ p c.
        (let t = (all.planned k p).0 c in
        listed_join k p t.0 t.1 t.2 t.3 (level_at ls k ++ from_height ls (k + 1)) (λ u built less x. lower_free k u built less (subst (λ xs. Contains xs (position u)) (sym (from_here ls k low)) x)));
    settled = subst (λ xs. AreSettled h rule m under n ds xs now) (from_here ls k low) settled;
  }
