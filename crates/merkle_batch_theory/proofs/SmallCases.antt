-- The small cases that look into a map.
use Rattle.std.proofs.Common.{◌≡◌, ℕ, zero, suc, [], ◌∷◌, map, Some, None, slice_get, refl, sym, ap, cond, ◌≤◌, ◌∙◌, subst, arith}
use Rattle.std.specs.Prelude.{is_some, not, ◌||◌, nat_eq}
use Rattle.std.specs.Map.{lookup}
use Rattle.std.proofs.lemmas.Bool.{ne_eqb}
use Rattle.std.specs.Option.{unwrap_or}
use Rattle.std.specs.List.{range_with_len}
use Rattle.std.specs.Ordering.{nat_cmp, eq_by_cmp}
use Rattle.std.specs.Cmp.{nat_cmp_total}
use Rattle.std.specs.FinMap.{FinMap, get, insert, empty, get-from_entries, get-empty, get-insert, len-empty}
use Rattle.merkle_base.specs.Forest.{forest}
use Rattle.merkle_forest_theory.specs.Mmr.{mmr_merges}
use Rattle.merkle_batch_theory.specs.History.{edited, is_dirty, IsStep, IsHistory}
use Rattle.merkle_base.specs.Digests.{digest_at}
use Rattle.merkle_batch_theory.specs.Contents.{pruned}
use Rattle.merkle_base.specs.Tree.{Tree, leaf, join}
use Rattle.merkle_batch_theory.specs.Replay.{with_record, with_records}
use Rattle.merkle_batch_theory.specs.Held.{overwritten_by}
use Rattle.merkle_batch_theory.specs.Read.{newest, read_over}
use Rattle.merkle_batch_theory.specs.Unmerkleized.{kept, pending_list, with_updates}
use Rattle.merkle_batch_theory.specs.Rows.{xor, first_record, second_record, nothing, five, change, exchange, fourth, over_exchange, over_pruned}
use Rattle.merkle_batch_theory.proofs.MapFacts.{none_entered}
use Rattle.merkle_batch_theory.proofs.Stored.{find_lookup}

at_zero : get second_record.overwritten 0 ≡ Some 17
at_zero = get-from_entries nat_cmp_total ((0, 17) ∷ (2, 16) ∷ []) 0

at_one : get second_record.overwritten 1 ≡ None
at_one = get-from_entries nat_cmp_total ((0, 17) ∷ (2, 16) ∷ []) 1

at_both : get second_record.overwritten 2 ≡ Some 16
at_both = get-from_entries nat_cmp_total ((0, 17) ∷ (2, 16) ∷ []) 2

pub edit_row : edited mmr_merges second_record (1 ∷ 3 ∷ []) ≡ 17 ∷ 3 ∷ 7 ∷ []
unfolding forest
edit_row = (λ i. unwrap_or (at_zero i) 1 ∷ unwrap_or (at_one i) 3 ∷ 7 ∷ [])

pub newest_row : map (newest (first_record ∷ second_record ∷ [])) (range_with_len 0 5) ≡ Some 17 ∷ Some 3 ∷ Some 16 ∷ Some 7 ∷ None ∷ []
newest_row = rw (at_zero, at_one, at_both) refl

pub applied_row : map (with_records (first_record ∷ second_record ∷ []) nothing).node (range_with_len 0 5) ≡ Some 17 ∷ Some 3 ∷ Some 16 ∷ Some 7 ∷ None ∷ []
applied_row = (λ i. overwritten_by (at_zero i) (Some 1) ∷ overwritten_by (at_one i) (Some 3) ∷ overwritten_by (at_both i) (Some 0) ∷ Some 7 ∷ None ∷ [])

at_six : get change.overwritten 6 ≡ Some 19
at_six = get-from_entries nat_cmp_total ((0, 17) ∷ (2, 16) ∷ (6, 19) ∷ []) 6

at_seven : get change.overwritten 7 ≡ None
at_seven = get-from_entries nat_cmp_total ((0, 17) ∷ (2, 16) ∷ (6, 19) ∷ []) 7

pub pruned_row : map (with_record change (pruned mmr_merges 4 five)).node (range_with_len 0 9) ≡ None ∷ None ∷ None ∷ None ∷ None ∷ None ∷ Some 19 ∷ Some 2 ∷ None ∷ []
unfolding forest
pruned_row = (λ i. None ∷ None ∷ None ∷ None ∷ None ∷ None ∷ overwritten_by (at_six i) (Some 3) ∷ overwritten_by (at_seven i) (Some 2) ∷ None ∷ [])

pub over_row : map (read_over (change ∷ []) five) (6 ∷ 7 ∷ 8 ∷ []) ≡ Some 19 ∷ Some 2 ∷ None ∷ []
over_row = rw (at_six, at_seven) refl

-- ---- a batch in the making
pub exchange_row : kept over_exchange ≡ first_record ∷ exchange ∷ []
exchange_row = sym (λ i. first_record ∷ cond (not (none_entered {D = ℕ} ((0, 3) ∷ (1, 1) ∷ (2, 0) ∷ []) i)) (exchange ∷ []) [])

pub none_row : kept (over_pruned 5) ≡ []
none_row = rw (len-empty nat_cmp ℕ) refl

pub added_row : pending_list mmr_merges fourth (3 ∷ 1 ∷ 7 ∷ []) ≡ 3 ∷ 1 ∷ 7 ∷ 9 ∷ []
unfolding forest
added_row = (λ i. unwrap_or (get-empty nat_cmp 0 i) 3 ∷ unwrap_or (get-empty nat_cmp 1 i) 1 ∷ unwrap_or (get-empty nat_cmp 3 i) 7 ∷ 9 ∷ [])

abbrev twice : FinMap nat_cmp ℕ
twice = insert (insert empty 3 5) 3 8

twice_at : (q : ℕ) → get twice q ≡ cond (eq_by_cmp nat_cmp q 3) (Some 8) (cond (eq_by_cmp nat_cmp q 3) (Some 5) None)
twice_at q = get-insert nat_cmp_total (insert empty 3 5) 3 8 q
    ∙ ap (cond (eq_by_cmp nat_cmp q 3) (Some 8)) (get-insert nat_cmp_total empty 3 5 q ∙ ap (cond (eq_by_cmp nat_cmp q 3) (Some 5)) (get-empty nat_cmp q))

pub updated_row : pending_list mmr_merges (with_updates mmr_merges fourth ((2, 5) ∷ (3, 6) ∷ (2, 8) ∷ (3, 4) ∷ [])) (3 ∷ 1 ∷ 7 ∷ []) ≡ 3 ∷ 1 ∷ 8 ∷ 4 ∷ []
unfolding forest
updated_row = (λ i. unwrap_or (twice_at 0 i) 3 ∷ unwrap_or (twice_at 1 i) 1 ∷ unwrap_or (twice_at 3 i) 7 ∷ 4 ∷ [])

-- ---- these records stand on lists
none_at : (p : ℕ) → get first_record.overwritten p ≡ None
none_at p = get-empty nat_cmp p

first_step : IsStep xor mmr_merges first_record [] (1 ∷ 3 ∷ [])
unfolding forest
first_step = record { edit = refl; before = refl; longer = omega arith; peaks_before = refl; peaks_after = refl; appended = refl; overwritten = λ p t e. absurd (cc); old = λ p l. none_at p }

second_old : (p : ℕ) → 3 ≤ p → get second_record.overwritten p ≡ None
second_old p l = get-from_entries nat_cmp_total ((0, 17) ∷ (2, 16) ∷ []) p ∙ find_lookup p ((0, 17) ∷ (2, 16) ∷ []) ∙ rest
  where
    rest : lookup {X = ℕ} (nat_eq p) ((0, 17) ∷ (2, 16) ∷ []) ≡ None
    rest = rw (ne_eqb p 0 (λ e. absurd (omega (arith, e, l))), ne_eqb p 2 (λ e. absurd (omega (arith, e, l)))) refl

abbrev Right : ℕ → Tree → Type 0
Right p t = get second_record.overwritten p ≡ cond (is_dirty (get second_record.overwritten) t) (Some (digest_at xor (17 ∷ 3 ∷ 7 ∷ []) t)) None

second_step : IsStep xor mmr_merges second_record (1 ∷ 3 ∷ []) (17 ∷ 3 ∷ 7 ∷ [])
unfolding forest
second_step = record { edit = sym edit_row; before = refl; longer = omega arith; peaks_before = refl; peaks_after = refl; appended = refl; overwritten = there; old = second_old }
  where
    there : (p : ℕ) (t : Tree) → slice_get (forest mmr_merges 2).nodes p ≡ Some t → Right p t
    there zero t e = (let d : leaf 0 0 ≡ t = cc in subst (Right 0) d (rw at_zero refl))
    there (suc zero) t e = (let d : leaf 1 1 ≡ t = cc in subst (Right 1) d (rw at_one refl))
    there (suc (suc zero)) t e = (let d : join 2 (leaf 0 0) (leaf 1 1) ≡ t = cc in
        subst (Right 2) d (at_both ∙ sym (ap (λ o. cond (is_some o || is_some (get second_record.overwritten 1)) (Some 16) None) at_zero)))
    there (suc (suc (suc p))) t e = absurd (cc)

pub stands_row : IsHistory xor mmr_merges (first_record ∷ second_record ∷ []) ([] ∷ (1 ∷ 3 ∷ []) ∷ (17 ∷ 3 ∷ 7 ∷ []) ∷ [])
stands_row = (first_step, (second_step, tt))
