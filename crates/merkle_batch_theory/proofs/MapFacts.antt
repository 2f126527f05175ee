-- A map of positions as a value.
use Rattle.std.proofs.Common.{◌≡◌, ℕ, zero, suc, List, [], ◌∷◌, length, Bool, true, false, Some, None, cond, arith, refl, sym, ap, ◌∙◌, nat_eq}
use Rattle.std.specs.Prelude.{◌==◌, ◌↔◌, IsTrue}
use Rattle.std.specs.Ordering.{nat_cmp, eq_by_cmp}
use Rattle.std.specs.Cmp.{nat_cmp_total, unsigned_tied}
use Rattle.std.specs.FinMap.{get, insert, len, from_entries, get-from_entries, get-insert, get-empty, len-empty, empty_of_len, same_map, nat_cmp-IsAntisymmetric, FinMap}
use Rattle.std.specs.Map.{lookup}
use Rattle.std.proofs.lemmas.Bool.{ne_eqb}
use Rattle.std.proofs.lemmas.Bool.Decides.{nat_tests}
use Rattle.merkle_batch_theory.proofs.Stored.{find_lookup}

pub eqb_comm : (p k : ℕ) → nat_eq p k ≡ nat_eq k p
eqb_comm p k = grind (arith, nat_tests)

-- what is got after one more insertion
pub inserted_at : {D : Type 0} (ow : FinMap nat_cmp D) (k : ℕ) (d : D) (q : ℕ) → get (insert ow k d) q ≡ cond (q == k) (Some d) (get ow q)
inserted_at ow k d q = get-insert nat_cmp_total ow k d q ∙ ap (λ b. cond b (Some d) (get ow q)) (unsigned_tied q k)

not_zero : (n : ℕ) → (n ≡ 0 → ⊥) → (n == 0) ≡ false
not_zero n h = ne_eqb n 0 h

of_both : (b : Bool) (n : ℕ) → IsTrue b ↔ (n ≡ 0) → b ≡ (n == 0)
of_both true n h = let e : n ≡ 0 = h.0 refl in grind (arith, nat_tests)
of_both false zero h = absurd (let e : false ≡ true = h.1 refl in cc)
of_both false (suc n) h = sym (not_zero (suc n) (λ e. absurd (omega (arith, e))))

module _ {D : Type 0} where
  -- what the map of a list has at a position
  pub get_entries : (es : List (ℕ × D)) (p : ℕ) → get (from_entries {R = nat_cmp} es) p ≡ lookup (nat_eq p) es
  get_entries es p = get-from_entries nat_cmp_total es p ∙ find_lookup p es

  first_found : (k : ℕ) (v : D) (es : List (ℕ × D)) → lookup (nat_eq k) ((k, v) ∷ es) ≡ Some v
  first_found k v es = let e : nat_eq k k ≡ true = grind (arith, nat_tests) in rw e refl

  some_left : (e : ℕ × D) (es : List (ℕ × D)) → len (from_entries {R = nat_cmp} (e ∷ es)) ≡ 0 → ⊥
  some_left e es none =
      let here : get (from_entries {R = nat_cmp} (e ∷ es)) e.0 ≡ Some e.1 = get_entries (e ∷ es) e.0 ∙ first_found e.0 e.1 es in
      let gone : get (from_entries {R = nat_cmp} (e ∷ es)) e.0 ≡ None = ap (λ m. get m e.0) (empty_of_len (from_entries {R = nat_cmp} (e ∷ es)) none) ∙ get-empty nat_cmp e.0 in
      let both : Some e.1 ≡ None = sym here ∙ gone in
      absurd (cc)

  pub none_entered : (es : List (ℕ × D)) → (length es == 0) ≡ (len (from_entries {R = nat_cmp} es) == 0)
  none_entered [] = ap (λ n. n == 0) (sym (len-empty nat_cmp D))
  none_entered (e ∷ es) = not_zero (length (e ∷ es)) (λ z. absurd (omega (arith, z))) ∙ sym (not_zero (len (from_entries {R = nat_cmp} (e ∷ es))) (some_left e es))

  pub is_none_entered : (b : Bool) (es : List (ℕ × D)) → IsTrue b ↔ (length es ≡ 0) → b ≡ (len (from_entries {R = nat_cmp} es) == 0)
  is_none_entered b es h = of_both b (length es) h ∙ none_entered es

  pub no_entry : (es : List (ℕ × D)) → length es ≡ 0 → (q : ℕ) → get {R = nat_cmp} (from_entries es) q ≡ None
  no_entry [] l q = get_entries [] q
  no_entry (e ∷ es) l q = absurd (omega (arith, l))

  -- an entry put into the list is put into the map
  pub put_entry : (m n : List (ℕ × D)) (k : ℕ) (v : D) → ((q : ℕ) → lookup (nat_eq q) n ≡ cond (nat_eq k q) (Some v) (lookup (nat_eq q) m)) → from_entries {R = nat_cmp} n ≡ insert (from_entries m) k v
  put_entry m n k v h =
      same_map nat_cmp_total nat_cmp-IsAntisymmetric _ _
      (λ q. get_entries n q ∙ h q ∙ ap (λ b. cond b (Some v) (lookup (nat_eq q) m)) (eqb_comm k q ∙ sym (unsigned_tied q k))
      ∙ ap (cond (eq_by_cmp nat_cmp q k) (Some v)) (sym (get_entries m q)) ∙ sym (get-insert nat_cmp_total (from_entries m) k v q))
