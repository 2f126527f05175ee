-- The digests that stand at leaves, from one on.
use Rattle.std.proofs.Common.{◌≡◌, ℕ, zero, suc, ◌+◌, ◌-◌, ◌<◌, ◌≤◌, List, [], ◌∷◌, ◌++◌, length, drop, get_or, flat_map, true, Option, Some, None, arith, refl, ap, sym, ◌∙◌}
use Rattle.std.specs.Prelude.{is_some}
use Rattle.std.specs.List.{range_with_len}
use Rattle.std.specs.Option.{option_to_list}
use Rattle.std.proofs.Math.Seq.{drop-cons, drop-length}
use Rattle.merkle_base.specs.Tree.{leaf}
use Rattle.merkle_base.specs.Forest.{size}
use Rattle.merkle_base.specs.Hashing.{Hashing}
use Rattle.merkle_base.specs.Shows.{Shows}
use Rattle.merkle_base.proofs.Lists.{one_there}
use Rattle.merkle_base.proofs.Nodes.{leaf_here}
use Rattle.merkle_batch_theory.proofs.Steps.{node_digest_at}
use Rattle.merkle_batch.specs.HeldLeaves.{held_leaves, AreLeavesHeld, AreEntriesShown}

pub some_of : {D : Type 0} (o : Option D) → is_some o ≡ true → (d : D) × (o ≡ Some d)
some_of None e = absurd (cc)
some_of (Some d) e = (d, refl)

module _ {D : Type 0} (rule : List ℕ → List ℕ) (node : ℕ → Option D) where
  count_from : (k i : ℕ) → ((j : ℕ) → i ≤ j → j < i + k → is_some (node (size rule j)) ≡ true) → length (flat_map (λ j. option_to_list (node (size rule j))) (range_with_len i k)) ≡ k
  count_from zero i held = refl
  count_from (suc k) i held =
      let rest = flat_map (λ j. option_to_list (node (size rule j))) (range_with_len (i + 1) k) in
      let more : length rest ≡ k = count_from k (i + 1) (λ j a b. held j (omega (arith, a)) (omega (arith, b))) in
      let here = some_of (node (size rule i)) (held i (omega arith) (omega arith)) in
      let many : length (option_to_list (node (size rule i)) ++ rest) ≡ suc k = ap (λ o. length (option_to_list o ++ rest)) here.1 ∙ ap suc more in many

  -- there are as many digests as leaves
  pub leaf_count : (max_leaves a b : ℕ) → AreLeavesHeld rule max_leaves node a b → length (held_leaves rule node a b) ≡ b - a
  leaf_count max_leaves a b are = count_from (b - a) a (λ j above below. are.held j above (omega (arith, below, are.ordered)))

  -- the first of them
  pub leaf_first : (a b : ℕ) (d : D) → a < b → node (size rule a) ≡ Some d → held_leaves rule node a b ≡ d ∷ held_leaves rule node (a + 1) b
  leaf_first a b d less is =
      let one : b - a ≡ suc (b - (a + 1)) = omega (arith, less) in
      ap (λ k. flat_map (λ j. option_to_list (node (size rule j))) (range_with_len a k)) one ∙ ap (λ o. option_to_list o ++ held_leaves rule node (a + 1) b) is

  -- and none at the end
  pub leaf_none : (a b : ℕ) → b ≤ a → held_leaves rule node a b ≡ []
  leaf_none a b le =
      let none : b - a ≡ 0 = omega (arith, le) in
      ap (λ k. flat_map (λ j. option_to_list (node (size rule j))) (range_with_len a k)) none

  -- all but the first of them are held
  pub leaves_after : (max_leaves a b : ℕ) → a < b → AreLeavesHeld rule max_leaves node a b → AreLeavesHeld rule max_leaves node (a + 1) b
  leaves_after max_leaves a b less are = record {
    bounded = are.bounded;
    ordered = omega (arith, less);
    held = λ i above below. are.held i (omega (arith, above)) below;
  }

  module _ (h : Hashing D) (m : ℕ) (X : List D) (shows : Shows h rule m node X) where
    entry_shown : (i : ℕ) → i < length X → is_some (node (size rule i)) ≡ true → node (size rule i) ≡ Some (get_or X i h.empty)
    entry_shown i below there =
        let p = size rule i in
        let is = some_of (node p) there in
        is.1 ∙ ap Some (one_there (shows.right p is.0 is.1) (node_digest_at h rule X p (leaf p i) (leaf_here rule i (length X) below)))

    entries_from : (k i : ℕ) → i + k ≡ length X → ((j : ℕ) → i ≤ j → j < length X → is_some (node (size rule j)) ≡ true)
        → flat_map (λ j. option_to_list (node (size rule j))) (range_with_len i k) ≡ drop i X
    entries_from zero i end held =
        let past : i ≡ length X = omega (arith, end) in
        sym (ap (λ j. drop j X) past ∙ drop-length X)
    entries_from (suc k) i end held =
        let below : i < length X = omega (arith, end) in
        let rest = flat_map (λ j. option_to_list (node (size rule j))) (range_with_len (i + 1) k) in
        let next : i + 1 ≡ suc i = omega arith in
        ap (λ o. option_to_list o ++ rest) (entry_shown i below (held i (omega arith) below))
        ∙ ap (λ ys. get_or X i h.empty ∷ ys) (entries_from k (i + 1) (omega (arith, end)) (λ j a b. held j (omega (arith, a)) b) ∙ ap (λ j. drop j X) next)
        ∙ sym (drop-cons X i h.empty below)

  -- they are the entries of a list that is shown
  pub entries_shown : (max_leaves m a b : ℕ) → AreLeavesHeld rule max_leaves node a b → AreEntriesShown rule m node a b (held_leaves rule node a b)
  entries_shown max_leaves m a b are h X shows end =
      entries_from h m X shows (b - a) a (omega (arith, end, are.ordered)) (λ j above below. are.held j above (omega (arith, below, end)))
