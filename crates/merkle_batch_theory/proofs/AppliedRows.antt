-- Small cases of applied batches, and of what is held.
use Rattle.std.proofs.Common.{◌≡◌, ℕ, zero, suc, ◌≤◌, List, Option, refl, sym, ap, Some, None, true, [], ◌∷◌, ◌∙◌, cond, slice_get, subst, arith}
use Rattle.std.specs.Prelude.{is_some, ◌||◌, ◌&&◌, nat_eq, nat_lt, map}
use Rattle.std.specs.List.{range_with_len}
use Rattle.std.proofs.Math.Bool.{and-true}
use Rattle.std.specs.Map.{lookup}
use Rattle.std.proofs.lemmas.Bool.{ne_eqb}
use Rattle.std.specs.Option.{unwrap_or}
use Rattle.std.specs.Cmp.{nat_cmp_total}
use Rattle.std.specs.FinMap.{get, get-empty, get-from_entries}
use Rattle.std.specs.Ordering.{nat_cmp}
use Rattle.merkle_base.specs.Tree.{Tree, leaf, join}
use Rattle.merkle_base.specs.Forest.{forest, size}
use Rattle.merkle_base.specs.Digests.{digest_at}
use Rattle.merkle_forest_theory.specs.Mmr.{mmr_merges}
use Rattle.merkle_batch_theory.specs.Components.{made_of}
use Rattle.merkle_batch_theory.specs.Contents.{Agrees, HoldsKept, is_kept}
use Rattle.merkle_batch_theory.specs.Replay.{with_record}
use Rattle.merkle_batch_theory.specs.Held.{overwritten_by}
use Rattle.merkle_batch_theory.specs.History.{edited, is_dirty, IsStep, IsHistory}
use Rattle.merkle_batch_theory.specs.MemModel.{contents}
use Rattle.merkle_batch_theory.specs.Rows.{addition, exchange, five, two, two_exchanged, xor}
use Rattle.merkle_batch_theory.proofs.HeldWhere.{some_below}
use Rattle.merkle_batch_theory.proofs.Kept.{kept_from}
use Rattle.merkle_batch_theory.proofs.Stored.{find_lookup}

at_zero : get exchange.overwritten 0 ≡ Some 3
at_zero = get-from_entries nat_cmp_total ((0, 3) ∷ (1, 1) ∷ (2, 0) ∷ []) 0

at_one : get exchange.overwritten 1 ≡ Some 1
at_one = get-from_entries nat_cmp_total ((0, 3) ∷ (1, 1) ∷ (2, 0) ∷ []) 1

at_both : get exchange.overwritten 2 ≡ Some 0
at_both = get-from_entries nat_cmp_total ((0, 3) ∷ (1, 1) ∷ (2, 0) ∷ []) 2

exchanged_edit : edited mmr_merges exchange (1 ∷ 3 ∷ []) ≡ 3 ∷ 1 ∷ []
unfolding forest
exchanged_edit = (λ i. unwrap_or (at_zero i) 1 ∷ unwrap_or (at_one i) 3 ∷ [])

exchanged_old : (p : ℕ) → 3 ≤ p → get exchange.overwritten p ≡ None
exchanged_old p l = get-from_entries nat_cmp_total ((0, 3) ∷ (1, 1) ∷ (2, 0) ∷ []) p ∙ find_lookup p ((0, 3) ∷ (1, 1) ∷ (2, 0) ∷ []) ∙ rest
  where
    rest : lookup {X = ℕ} (nat_eq p) ((0, 3) ∷ (1, 1) ∷ (2, 0) ∷ []) ≡ None
    rest = rw (ne_eqb p 0 (λ e. absurd (omega (arith, e, l))), ne_eqb p 1 (λ e. absurd (omega (arith, e, l))), ne_eqb p 2 (λ e. absurd (omega (arith, e, l)))) refl

abbrev Right : ℕ → Tree → Type 0
Right p t = get exchange.overwritten p ≡ cond (is_dirty (get exchange.overwritten) t) (Some (digest_at xor (3 ∷ 1 ∷ []) t)) None

exchanged_step : IsStep xor mmr_merges exchange (1 ∷ 3 ∷ []) (3 ∷ 1 ∷ [])
unfolding forest
exchanged_step = record { edit = sym exchanged_edit; before = refl; longer = omega arith; peaks_before = refl; peaks_after = refl; appended = refl; overwritten = there; old = exchanged_old }
  where
    there : (p : ℕ) (t : Tree) → slice_get (forest mmr_merges 2).nodes p ≡ Some t → Right p t
    there zero t e = (let d : leaf 0 0 ≡ t = cc in subst (Right 0) d (rw at_zero refl))
    there (suc zero) t e = (let d : leaf 1 1 ≡ t = cc in subst (Right 1) d (rw at_one refl))
    there (suc (suc zero)) t e = (let d : join 2 (leaf 0 0) (leaf 1 1) ≡ t = cc in
        subst (Right 2) d (at_both ∙ sym (ap (λ o. cond (is_some o || is_some (get exchange.overwritten 1)) (Some 0) None) at_zero)))
    there (suc (suc (suc p))) t e = absurd (cc)

pub stands_exchange : IsHistory xor mmr_merges (exchange ∷ []) ((1 ∷ 3 ∷ []) ∷ (3 ∷ 1 ∷ []) ∷ [])
stands_exchange = (exchanged_step, tt)

all_kept : (p : ℕ) → is_kept mmr_merges 0 p ≡ true
unfolding forest
all_kept p = let zero_size : size mmr_merges 0 ≡ 0 = refl in kept_from mmr_merges 0 p (omega (arith, zero_size))

pub own_row : Agrees xor mmr_merges two (1 ∷ 3 ∷ [])
unfolding forest
own_row = record { sized = refl; bounded = omega arith; holds = λ p. sym (ap (λ b. cond b (slice_get (1 ∷ 3 ∷ 0 ∷ []) p) None) (all_kept p)) }

pub foreign_row : Agrees xor mmr_merges two_exchanged (3 ∷ 1 ∷ [])
unfolding forest
foreign_row = record { sized = refl; bounded = omega arith; holds = λ p. sym (ap (λ b. cond b (slice_get (3 ∷ 1 ∷ 0 ∷ []) p) None) (all_kept p)) }

pub differs_row : Agrees xor mmr_merges (with_record addition two) (3 ∷ 1 ∷ 7 ∷ []) → ⊥
unfolding forest
differs_row a =
    let none : get addition.overwritten 0 ≡ None = get-empty nat_cmp 0 in
    absurd (let e : ◌≡◌ {A = Option ℕ} (Some 1) (Some 3) = sym (ap (λ o. overwritten_by o (Some 1)) none) ∙ a.holds 0 in cc)

pub held_row : HoldsKept mmr_merges five
unfolding forest
held_row p = some_below (1 ∷ 3 ∷ 0 ∷ 0 ∷ 0 ∷ 5 ∷ 3 ∷ 2 ∷ []) p ∙ sym (and-true (nat_lt p 8)) ∙ sym (ap (λ b. nat_lt p 8 && b) (all_kept p))

abbrev made_entries : List (ℕ × ℕ)
made_entries = (2, 0) ∷ (3, 7) ∷ []

pub made_row : map (contents {D = ℕ} (made_of mmr_merges 2 3 (0 ∷ []) (7 ∷ []))).node (range_with_len 0 5) ≡ None ∷ None ∷ Some 0 ∷ Some 7 ∷ None ∷ []
unfolding forest
made_row = (λ i. get-from_entries nat_cmp_total made_entries 0 i ∷ get-from_entries nat_cmp_total made_entries 1 i ∷ get-from_entries nat_cmp_total made_entries 2 i
    ∷ get-from_entries nat_cmp_total made_entries 3 i ∷ get-from_entries nat_cmp_total made_entries 4 i ∷ [])
