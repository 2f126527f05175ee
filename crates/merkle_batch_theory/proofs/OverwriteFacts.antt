-- Newer digests over those that are held, one after another.
use Rattle.std.proofs.Common.{◌≡◌, ℕ, List, [], ◌∷◌, ◌++◌, Bool, true, false, Option, Some, None, cond, refl, sym, ◌∙◌, ap, nat_eq, map, Bor, append_assoc}
use Rattle.std.proofs.lemmas.List.{append-nil}
use Rattle.std.specs.Prelude.{is_some}
use Rattle.std.specs.Cmp.{nat_eq_equiv}
use Rattle.std.specs.List.{IsDistinct}
use Rattle.std.specs.Map.{lookup, update_all, keys_of}
use Rattle.std.specs.Map.Iter.{deref_pair}
use Rattle.std.proofs.lemmas.Map.{update_all_push}
use Rattle.std.proofs.lemmas.Map.Made.{update_all_distinct}
use Rattle.merkle_batch_theory.specs.Held.{overwritten_by}
use Rattle.merkle_batch_theory.proofs.MapFacts.{eqb_comm}
use Rattle.merkle_batch_theory.proofs.OptionFacts.{or_nothing}

pub some_over : {D : Type 0} (u x : Option D) → is_some (overwritten_by u x) ≡ is_some x
some_over u None = refl
some_over u (Some d) = refl

-- one more digest over what older ones made
over_both : {D : Type 0} (b : Bool) (v : D) (u x : Option D) → cond b (overwritten_by (Some v) (overwritten_by u x)) (overwritten_by u x) ≡ overwritten_by (cond b (Some v) u) x
over_both true v u None = refl
over_both true v u (Some d) = refl
over_both false v u x = refl

-- the last of the digests that came for a position
abbrev pub latest : {D : Type 0} → List (Bor ℕ × Bor D) → ℕ → Option D
latest ys p = update_all nat_eq (λ _. None) (map deref_pair ys) p

map_last : {A B : Type 0} (f : A → B) (xs : List A) (x : A) → map f (xs ++ x ∷ []) ≡ map f xs ++ f x ∷ []
map_last f [] x = refl
map_last f (y ∷ ys) x = ap (λ zs. f y ∷ zs) (map_last f ys x)

latest_push : {D : Type 0} (ys : List (Bor ℕ × Bor D)) (y : Bor ℕ × Bor D) (p : ℕ) → latest (ys ++ y ∷ []) p ≡ cond (nat_eq p y.0.now) (Some y.1.now) (latest ys p)
latest_push ys y p =
    ap (λ es. update_all nat_eq (λ _. None) es p) (map_last deref_pair ys y) ∙ sym (update_all_push nat_eq (λ _. None) (latest ys) (map deref_pair ys) (deref_pair y) p refl)
    ∙ ap (λ b. cond b (Some y.1.now) (latest ys p)) (eqb_comm y.0.now p)

pub over_push : {D : Type 0} (ys : List (Bor ℕ × Bor D)) (y : Bor ℕ × Bor D) (p : ℕ) (now then x : Option D) → then ≡ overwritten_by (latest ys p) x
    → now ≡ cond (nat_eq p y.0.now) (overwritten_by (Some y.1.now) then) then → now ≡ overwritten_by (latest (ys ++ y ∷ []) p) x
over_push ys y p now then x before step =
    step ∙ ap (λ t. cond (nat_eq p y.0.now) (overwritten_by (Some y.1.now) t) t) before ∙ over_both (nat_eq p y.0.now) y.1.now (latest ys p) x ∙ ap (λ u. overwritten_by u x) (sym (latest_push ys y p))

pub latest_all : {D : Type 0} (ys : List (Bor ℕ × Bor D)) (es : List (ℕ × D)) (p : ℕ) → map deref_pair ys ≡ es → IsDistinct nat_eq (keys_of es) → latest ys p ≡ lookup (nat_eq p) es
latest_all ys es p e distinct = ap (λ fs. update_all nat_eq (λ _. None) fs p) e ∙ update_all_distinct nat_eq_equiv nat_eq (λ x y. refl) (λ _. None) es p distinct ∙ or_nothing (lookup (nat_eq p) es)

-- one item moves from what is left to what came
pub moved : {K X : Type 0} (ys : List (Bor K × Bor X)) (y : Bor K × Bor X) (rest after es : List (K × X)) → rest ≡ deref_pair y ∷ after
    → map deref_pair ys ++ rest ≡ es → map deref_pair (ys ++ y ∷ []) ++ after ≡ es
moved ys y rest after es e h = ap (λ zs. zs ++ after) (map_last deref_pair ys y) ∙ append_assoc (map deref_pair ys) (deref_pair y ∷ []) after ∙ sym (ap (λ zs. map deref_pair ys ++ zs) e) ∙ h

pub all_came : {K X : Type 0} (ys : List (Bor K × Bor X)) (rest es : List (K × X)) → rest ≡ [] → map deref_pair ys ++ rest ≡ es → map deref_pair ys ≡ es
all_came ys rest es e h = sym (append-nil (map deref_pair ys)) ∙ sym (ap (λ zs. map deref_pair ys ++ zs) e) ∙ h
