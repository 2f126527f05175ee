-- The pinned check apart from the range check: what lies before the range is rebuilt from the pins to its digest.
use Rattle.std.specs.Prelude.{◌≡◌, ℕ, Bool, true, ◌↔◌, List, [], ◌∷◌, length, drop, take, Option}
use Rattle.merkle_base.specs.Hashing.{Hashing}
use Rattle.merkle_base.specs.Places.{peaks_of}
use Rattle.merkle_base.specs.Root.{list_root, peaks_root}
use Rattle.merkle_base.specs.Scheme.{Scheme}
use Rattle.merkle_base.specs.Tree.{Tree}
use Rattle.merkle_root_theory.specs.Expression.{value}
use Rattle.merkle_root_theory.specs.Plan.{Plan, tree_meets, meets}
use Rattle.merkle_root_theory.specs.Claim.{next}
use Rattle.merkle_root_theory.specs.Check.{in_range, RangeInput}
use Rattle.merkle_root_theory.specs.Range.{end_of, range_parts, range_siblings, AcceptsNonempty}
use Rattle.merkle_claim_theory.specs.PinnedClaim.{pin_tree, pin_plan}
use Rattle.merkle_base.specs.Table.{digest_for}
use Rattle.merkle_claim_theory.specs.Pinned.{pin_positions, AcceptsPinnedSome, IsHonestPinned}

-- each of the marked parts, or of the marked nodes, has the digest at its place that f gives it
abbrev pub AllRebuilt : {A D : Type 0} → Hashing D → (A → Bool) → (A → D) → List A → List D → Type 0
AllRebuilt h marked f [] ds = Unit {0}
AllRebuilt h marked f (x ∷ xs) ds = (marked x ≡ true → next h ds ≡ f x) × AllRebuilt h marked f xs (drop 1 ds)

-- the digest of a node, rebuilt from the pins
abbrev pub rebuilt_node : {D : Type 0} → Hashing D → (ℕ → Option D) → Tree → D
rebuilt_node h b t = value h (pin_tree h b t)

-- the digest of a part of a plan, rebuilt from the pins
abbrev pub rebuilt_part : {D : Type 0} → Hashing D → (ℕ → Option D) → Plan → D
rebuilt_part h b p = value h (pin_plan h b p)

-- the pin at a position
abbrev pub pin_at : {D : Type 0} → Scheme D → ℕ → List D → ℕ → Option D
pin_at s start pins = digest_for (pin_positions s start) pins

-- there is a pin for each peak over the leaves before the range, and what lies before it is rebuilt from them
pub record IsRebuilt {D : Type 0} (s : Scheme D) (r : RangeInput D) (pins : List D) : Type 0 where
  pub pinned : length pins ≡ length (peaks_of s.rule r.start)
  pub parts : AllRebuilt s.hashing (meets (in_range 0 r.start)) (rebuilt_part s.hashing (pin_at s r.start pins))
      (range_parts s.bagging r.inactive r.start (end_of r) (peaks_of s.rule r.leaves)) r.digests
  pub nodes : AllRebuilt s.hashing (tree_meets (in_range 0 r.start)) (rebuilt_node s.hashing (pin_at s r.start pins))
      (range_siblings r.start (end_of r) (peaks_of s.rule r.leaves))
      (drop (length (range_parts s.bagging r.inactive r.start (end_of r) (peaks_of s.rule r.leaves))) r.digests)

-- the pinned check accepts what the range check accepts where the pins rebuild what lies before the range
abbrev pub PinnedIsRebuilt : Type 0 → Type 0
PinnedIsRebuilt D = (s : Scheme D) (r : RangeInput D) (pins : List D) (root : D)
    → AcceptsPinnedSome s r pins root ↔ (AcceptsNonempty s r root × IsRebuilt s r pins)

-- the root over the pins, for any inactive count, is the one that the list had at start leaves
abbrev pub GivesOldRoot : {D : Type 0} → Scheme D → List D → ℕ → List D → Type 0
GivesOldRoot s xs start pins = (j : ℕ) → peaks_root s start j j pins ≡ list_root s (take start xs) j

-- the root over honest pins is that of the leaves before the range
abbrev pub PinsGiveOldRoot : Type 0 → Type 0
PinsGiveOldRoot D = (s : Scheme D) (xs : List D) (k : ℕ) (r : RangeInput D) (pins : List D) → IsHonestPinned s xs k r pins
    → GivesOldRoot s xs r.start pins
