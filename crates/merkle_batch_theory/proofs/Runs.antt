-- Records that follow one another, and a structure that they are laid over.
use Rattle.std.proofs.Common.{◌≡◌, ℕ, zero, suc, ◌+◌, ◌-◌, ◌≤◌, List, [], ◌∷◌, ◌++◌, length, map, take, drop, Bool, true, Some, None, Ok, cond, arith, refl, sym, ap, ◌∙◌, subst, length-drop}
use Rattle.std.specs.Prelude.{◌&&◌, ◌==◌}
use Rattle.std.specs.Cmp.Lexicographic.{pointwise}
use Rattle.std.proofs.lemmas.Bool.{eqb-true, and_parts}
use Rattle.std.proofs.lemmas.List.{length-map, take_all}
use Rattle.merkle_base.specs.Forest.{size}
use Rattle.merkle_base.proofs.Nodes.{size_le}
use Rattle.merkle_batch_theory.specs.Contents.{Contents, HoldsKept, held_peaks}
use Rattle.merkle_batch_theory.specs.Held.{Held, held_contents, total_appended}
use Rattle.merkle_batch_theory.specs.BatchValid.{IsBatchValid, RunsFrom}
use Rattle.merkle_batch_theory.specs.Records.{RecordModel, MerkleizedModel, after, records}
use Rattle.merkle_batch_theory.specs.Replay.{with_record, with_records, last_match, oldest, matched, applied, is_state}
use Rattle.merkle_batch_theory.specs.MemValid.{HasLeafCount, IsMemValid}
use Rattle.merkle_batch_theory.proofs.HeldNodes.{kept_counted}
use Rattle.merkle_batch_theory.proofs.HeldWhere.{with_records_held}
use Rattle.merkle_base.proofs.Cases.{by_test}

same_size : (n m : ℕ) (b : Bool) → (n == m) && b ≡ true → n ≡ m
same_size n m b e = eqb-true n m (and_parts (n == m) b e).0

drop_left : {X : Type 0} (i : ℕ) (xs ys : List X) → i ≤ length xs → drop i (xs ++ ys) ≡ drop i xs ++ ys
drop_left zero xs ys h = refl
drop_left (suc i) [] ys h = absurd (omega arith)
drop_left (suc i) (x ∷ xs) ys h = drop_left i xs ys (omega arith)

drop_map : {X Y : Type 0} (f : X → Y) (i : ℕ) (xs : List X) → map f (drop i xs) ≡ drop i (map f xs)
drop_map f zero xs = refl
drop_map f (suc i) [] = refl
drop_map f (suc i) (x ∷ xs) = drop_map f i xs

module _ {D : Type 0} where
  -- where records run to
  ends : (n : ℕ) (rs : List (RecordModel D)) (own : RecordModel D) → RunsFrom n (rs ++ own ∷ []) → n + total_appended (rs ++ own ∷ []) ≡ after own
  ends n [] own h = omega (arith, h.0)
  ends n (r ∷ rs) own h = omega (arith, h.0, ends (after r) rs own h.1)

  module _ (same : D → D → Bool) (n : ℕ) (peaks : List D) where
    abbrev IsFound : List (RecordModel D) → RecordModel D → ℕ → Type 0
    IsFound rs own i = (i ≤ length rs) × (n + total_appended (drop i (rs ++ own ∷ [])) ≡ after own)

    -- the last record that ends at a size: the rest go on from it
    ends_from : (rs : List (RecordModel D)) (own : RecordModel D) (m i : ℕ) → RunsFrom m (rs ++ own ∷ [])
        → last_match (λ r. is_state same n peaks (after r) r.peaks_after) rs ≡ Some i → IsFound rs own i
    ends_from [] own m i h e = absurd (cc)
    ends_from (r ∷ rs) own m i h e =
        elim (last_match (λ r. is_state same n peaks (after r) r.peaks_after) rs) as
        (λ o. last_match (λ r. is_state same n peaks (after r) r.peaks_after) rs ≡ o
        → elim o [ Some j ↦ Some (suc j) | None ↦ cond (is_state same n peaks (after r) r.peaks_after) (Some 1) None ] ≡ Some i → IsFound (r ∷ rs) own i) [
          | Some j ↦ λ was is. (let k = ends_from rs own (after r) j h.1 was in let at : suc j ≡ i = cc in subst (IsFound (r ∷ rs) own) at (omega (arith, k.0), k.1))
          | None ↦ λ was is. by_test (λ b. is_state same n peaks (after r) r.peaks_after ≡ b → cond b (Some 1) None ≡ Some i → IsFound (r ∷ rs) own i) (is_state same n peaks (after r) r.peaks_after)
              (λ _ t is'. let at : 1 ≡ i = cc in subst (IsFound (r ∷ rs) own) at (omega arith, omega (arith, same_size n (after r) (pointwise same peaks r.peaks_after) t, ends (after r) rs own h.1)))
              (λ _ t is'. absurd (cc)) refl is
        ] refl e

    -- what follows the state that is matched leads to the end
    found : (c : MerkleizedModel D) (i : ℕ) → RunsFrom (oldest c).before (records c) → matched same n peaks c ≡ Some i → IsFound c.ancestors c.own i
    found c i runs e = by_test (λ b. is_state same n peaks (oldest c).before (oldest c).peaks_before ≡ b
        → cond b (Some 0) (last_match (λ r. is_state same n peaks (after r) r.peaks_after) c.ancestors) ≡ Some i → IsFound c.ancestors c.own i)
        (is_state same n peaks (oldest c).before (oldest c).peaks_before)
        (λ _ t is. let at : 0 ≡ i = cc in
        subst (IsFound c.ancestors c.own) at
        (omega arith, omega (arith, same_size n (oldest c).before (pointwise same peaks (oldest c).peaks_before) t, ends (oldest c).before c.ancestors c.own runs)))
        (λ _ t is. ends_from c.ancestors c.own (oldest c).before i runs is) refl e

  total_last : (rs : List (RecordModel D)) (r : RecordModel D) → total_appended (rs ++ r ∷ []) ≡ total_appended rs + length r.appended
  total_last [] r = omega arith
  total_last (s ∷ rs) r = omega (arith, total_last rs r)

  -- the last record laid over what the others gave
  all_last : (rs : List (RecordModel D)) (r : RecordModel D) (c : Contents D) → with_records (rs ++ r ∷ []) c ≡ with_record r (with_records rs c)
  all_last [] r c = refl
  all_last (s ∷ rs) r c = all_last rs r (with_record s c)

-- the kept records, as they lie in a vector
module _ {D X : Type 0} (rule : List ℕ → List ℕ) (max_leaves : ℕ) (same : D → D → Bool) (c : MerkleizedModel D)
    (linked : IsBatchValid rule max_leaves c) (value : X → RecordModel D) (xs : List X) (are : map value xs ≡ c.ancestors)
    (n first : ℕ) (peaks : List D) (m : matched same n peaks c ≡ Some first) where
  abbrev kept_part : List (RecordModel D)
  kept_part = map value (take (length xs - first) (drop first xs))

  pub some_kept : first ≤ length xs
  some_kept = omega (arith, (found same n peaks c first linked.runs m).0, ap length are, length-map xs value)

  part : kept_part ≡ drop first c.ancestors
  part = ap (map value) (take_all (length xs - first) (drop first xs) (omega (arith, length-drop first xs))) ∙ drop_map value first xs ∙ ap (drop first) are

  -- the records that are laid
  with_record_records : drop first (records c) ≡ kept_part ++ c.own ∷ []
  with_record_records = drop_left first c.ancestors (c.own ∷ []) (found same n peaks c first linked.runs m).0 ∙ ap (λ rs. rs ++ c.own ∷ []) (sym part)

  pub total_with_record : n + (total_appended kept_part + length c.own.appended) ≡ after c.own
  total_with_record = omega (arith, (found same n peaks c first linked.runs m).1, ap total_appended with_record_records, total_last kept_part c.own)

  -- what the records give one after another they give together
  all_records : (old mid new : Contents D) → mid ≡ with_records kept_part old → new ≡ with_record c.own mid → new ≡ with_records (drop first (records c)) old
  all_records old mid new laid1 laid2 = laid2 ∙ ap (with_record c.own) laid1 ∙ sym (all_last kept_part c.own old) ∙ sym (ap (λ rs. with_records rs old) with_record_records)

  module _ (boundary leaves_before : ℕ) (old mid new : Held D) (kept : IsMemValid rule max_leaves boundary leaves_before old) (sized : n ≡ old.size)
      (start : new.start ≡ old.start) (size1 : mid.size ≡ old.size + total_appended kept_part) (size2 : new.size ≡ mid.size + length c.own.appended)
      (laid1 : held_contents boundary mid ≡ with_records kept_part (held_contents boundary old)) (laid2 : held_contents boundary new ≡ with_record c.own (held_contents boundary mid)) where
    nodes_after : new.size ≡ after c.own
    nodes_after = omega (arith, total_with_record, sized, size1, size2)

    counted_after : HasLeafCount rule max_leaves c.leaves new.size
    counted_after = record { bounded = linked.counted.bounded; sized = linked.counted.sized ∙ sym nodes_after }

    -- what holds of the nodes held holds after the records are laid
    pub kept_after : IsMemValid rule max_leaves boundary c.leaves new
    kept_after =
        let within : size rule boundary ≤ old.size = omega (arith, size_le rule boundary leaves_before kept.within, kept.counted.sized) in
        kept_counted rule max_leaves boundary c.leaves new counted_after (start ∙ kept.starts) (omega (arith, start, kept.starts, within, size1, size2))
        (subst (HoldsKept rule) (sym (all_records (held_contents boundary old) (held_contents boundary mid) (held_contents boundary new) laid1 laid2))
        (with_records_held rule (drop first (records c)) (held_contents boundary old) within kept.holds))

  -- and the batch is applied
  pub applied_after : {F : Type 0} (k : ℕ) (old mid new : Contents D) → mid ≡ with_records kept_part old → new ≡ with_record c.own mid
      → matched same old.size (held_peaks rule k old) c ≡ Some first → applied {F = F} same rule k c old ≡ Ok new
  applied_after k old mid new laid1 laid2 at = rw (applied, at) (ap Ok (sym (all_records old mid new laid1 laid2)))
