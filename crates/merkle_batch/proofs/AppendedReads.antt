-- What records that follow one another have at the nodes which they appended.
use Rattle.std.proofs.Common.{◌≡◌, ℕ, ◌+◌, ◌-◌, ◌<◌, ◌≤◌, ◌⊎◌, List, [], ◌∷◌, ◌++◌, length, true, cond, Option, Some, None, slice_get, arith, refl, ap, sym, ◌∙◌, inl, inr}
use Rattle.std.specs.Prelude.{is_some}
use Rattle.std.specs.FinMap.{get}
use Rattle.std.specs.Option.{option_or}
use Rattle.std.proofs.lemmas.Bool.{lt-ltb, le-ltb}
use Rattle.std.proofs.lemmas.Bool.Decides.{leb_tells}
use Rattle.merkle_base.specs.Forest.{size}
use Rattle.merkle_base.specs.Hashing.{Hashing}
use Rattle.merkle_base.proofs.Nodes.{size_le, size_lt, size_inj}
use Rattle.merkle_batch.specs.HeldLeaves.{AreLeavesHeld}
use Rattle.merkle_batch_theory.specs.BatchValid.{IsBatchValid, RunsFrom}
use Rattle.merkle_batch_theory.specs.History.{IsHistory, last_list}
use Rattle.merkle_batch_theory.specs.Read.{newest, written}
use Rattle.merkle_batch_theory.specs.Records.{RecordModel, MerkleizedModel, records, after}
use Rattle.merkle_batch_theory.specs.Replay.{oldest}
use Rattle.merkle_batch_theory.proofs.Accepted.{head_stands}
use Rattle.merkle_batch_theory.proofs.HeldWhere.{some_below}
use Rattle.merkle_batch_theory.proofs.ShownLists.{chain_shows}

some_either : {D : Type 0} (a b : Option D) → (is_some a ≡ true) ⊎ (is_some b ≡ true) → is_some (option_or a b) ≡ true
some_either None b (inl e) = absurd (cc)
some_either None b (inr e) = e
some_either (Some d) b e = refl

module _ {D : Type 0} where
  written_some : (r : RecordModel D) (p : ℕ) → r.before ≤ p → p < after r → is_some (written r p) ≡ true
  written_some r p above below =
      ap (λ b. is_some (cond b (get r.overwritten p) (slice_get r.appended (p - r.before)))) (le-ltb p r.before above)
      ∙ some_below r.appended (p - r.before)
      ∙ lt-ltb (p - r.before) (length r.appended) (omega (arith, above, below))

  run_some : (rs : List (RecordModel D)) (own : RecordModel D) (n p : ℕ) → RunsFrom n (rs ++ own ∷ []) → n ≤ p → p < after own → is_some (newest (rs ++ own ∷ []) p) ≡ true
  run_some [] own n p runs above below = written_some own p (omega (arith, runs.0, above)) below
  run_some (r ∷ rs) own n p runs above below = elim (leb_tells (after r) p) [
    | inl h ↦ some_either (newest (rs ++ own ∷ []) p) (written r p) (inl (run_some rs own (after r) p runs.1 h.1 below))
    | inr h ↦ some_either (newest (rs ++ own ∷ []) p) (written r p) (inr (written_some r p (omega (arith, runs.0, above)) h.1))
  ]

  run_le : (rs : List (RecordModel D)) (own : RecordModel D) (n : ℕ) → RunsFrom n (rs ++ own ∷ []) → n ≤ after own
  run_le [] own n runs = omega (arith, runs.0)
  run_le (r ∷ rs) own n runs = omega (arith, runs.0, run_le rs own (after r) runs.1)

  -- no batch has fewer nodes than there were before its oldest record
  pub oldest_le : (rule : List ℕ → List ℕ) (max_leaves : ℕ) (c : MerkleizedModel D) → IsBatchValid rule max_leaves c → (oldest c).before ≤ after c.own
  oldest_le rule max_leaves c valid = run_le c.ancestors c.own (oldest c).before valid.runs

  -- the leaves after those before the oldest record are held
  pub appended_held : (rule : List ℕ → List ℕ) (max_leaves : ℕ) (c : MerkleizedModel D) → IsBatchValid rule max_leaves c → (n : ℕ) → size rule n ≡ (oldest c).before
      → AreLeavesHeld rule max_leaves (newest (records c)) n c.leaves
  appended_held rule max_leaves c valid n at = record {
    bounded = valid.counted.bounded;
    ordered = elim (leb_tells n c.leaves) [
      | inl h ↦ h.1
      | inr h ↦ absurd (omega (arith, size_lt rule c.leaves n h.1, at, oldest_le rule max_leaves c valid, valid.counted.sized))
    ];
    held = λ i above below.
        run_some c.ancestors c.own (oldest c).before (size rule i) valid.runs (omega (arith, at, size_le rule n i above)) (omega (arith, size_lt rule i c.leaves below, valid.counted.sized));
  }

  -- and so are none
  pub none_held : (rule : List ℕ → List ℕ) (max_leaves : ℕ) (c : MerkleizedModel D) → IsBatchValid rule max_leaves c → AreLeavesHeld rule max_leaves (newest (records c)) c.leaves c.leaves
  none_held rule max_leaves c valid = record {
    bounded = valid.counted.bounded;
    ordered = omega arith;
    held = λ i above below. absurd (omega (arith, above, below));
  }

module _ {D : Type 0} (h : Hashing D) (rule : List ℕ → List ℕ) (max_leaves : ℕ) (c : MerkleizedModel D) (valid : IsBatchValid rule max_leaves c)
    (X : List D) (ls : List (List D)) (history : IsHistory h rule (records c) (X ∷ ls)) where
  -- the first list has the nodes before the oldest record
  pub begins_at : size rule (length X) ≡ (oldest c).before
  begins_at =
      let w = head_stands h rule c (X ∷ ls) history in
      let first : X ≡ w.0 = cc in
      ap (λ (Z : List D). size rule (length Z)) first ∙ sym w.4.before

  -- and the last one has the leaves after it
  pub ends_at : c.leaves ≡ length (last_list (X ∷ ls))
  ends_at = size_inj rule c.leaves (length (last_list (X ∷ ls))) (valid.counted.sized ∙ (chain_shows h rule c (X ∷ ls) history).sized)
