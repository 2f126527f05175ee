-- The positions of some nodes, ascending.
use Rattle.std.proofs.Common.{◌≡◌, ℕ, Bool, ◌<◌, ◌||◌, nat_eq, List, [], ◌∷◌, filter, refl, ap₂, sym, ◌∙◌, subst, map}
use Rattle.std.specs.List.{AllByRecursion, list_any, range_with_len}
use Rattle.std.specs.Cmp.{nat_eq_equiv}
use Rattle.std.proofs.lemmas.Bool.{eqb-true}
use Rattle.std.proofs.lemmas.List.Elements.{All-contains, All-from_recursion}
use Rattle.std.proofs.lemmas.Map.Views.{Contains-from_any, list_any-from_Contains}
use Rattle.std.proofs.lemmas.Option.{slice_get_within}
use Rattle.merkle_base.specs.Tree.{Tree, position}
use Rattle.merkle_base.specs.Forest.{forest, size}
use Rattle.merkle_hasher.specs.Subtrees.{AreNodes}
use Rattle.merkle_scattered.specs.Positions.{IsAscendingOf, positions_among}
use Rattle.merkle_scattered.proofs.RisingLists.{rises_filter}

-- whether a node stands at p
pub stands : (ts : List Tree) (p : ℕ) → list_any (λ t. nat_eq (position t) p) ts ≡ list_any (nat_eq p) (map position ts)
stands [] p = refl
stands (t ∷ ts) p = ap₂ (λ a b. a || b) (nat_eq_equiv.symm (position t) p) (stands ts p)

pub positions_below : (rule : List ℕ → List ℕ) (n : ℕ) (ts : List Tree) → AreNodes rule n ts → AllByRecursion (λ p. p < size rule n) (map position ts)
positions_below rule n [] at = tt
positions_below rule n (t ∷ ts) at = (slice_get_within (forest rule n).nodes (position t) t at.0, positions_below rule n ts at.1)

-- an ascending list of some numbers is the filter that tells whether a number is among them
pub ascending_filter : (t : ℕ → Bool) (m : ℕ) (xs zs : List ℕ) → AllByRecursion (λ p. p < m) xs → ((p : ℕ) → t p ≡ list_any (nat_eq p) xs) → IsAscendingOf xs zs → zs ≡ filter t (range_with_len 0 m)
ascending_filter t m xs zs below same once = rises_filter t m zs once.rises
    (λ p w. let there = once.adds_none p w in (
      All-contains (λ q. q < m) xs p (All-from_recursion (λ q. q < m) xs below) there,
      same p ∙ list_any-from_Contains nat_eq_equiv p xs there,
    ))
    (λ p w. once.keeps p (Contains-from_any eqb-true p xs (sym (same p) ∙ w)))

-- an ascending list of the positions of some nodes is the list by the forest
pub ascending_positions : (rule : List ℕ → List ℕ) (n : ℕ) (ts : List Tree) (xs zs : List ℕ) → AreNodes rule n ts → xs ≡ map position ts → IsAscendingOf xs zs → zs ≡ positions_among (size rule n) ts
ascending_positions rule n ts xs zs at is once =
    ascending_filter (λ p. list_any (λ t. nat_eq (position t) p) ts) (size rule n) (map position ts) zs (positions_below rule n ts at) (stands ts) (subst (λ l. IsAscendingOf l zs) is once)
