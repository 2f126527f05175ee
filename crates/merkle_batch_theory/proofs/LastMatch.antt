-- The last record that passes.
use Rattle.std.proofs.Common.{◌≡◌, ℕ, zero, suc, ◌<◌, List, [], ◌∷◌, length, map, take, Bool, true, false, Some, None, cond, arith, sym, ap, ◌∙◌, get_or}
use Rattle.merkle_batch_theory.specs.Replay.{last_match}

pub last_match_yes : {X : Type 0} (test : X → Bool) (xs : List X) (i : ℕ) (x : X) → i < length xs → x ≡ get_or xs i x → test x ≡ true → last_match test (take (suc i) xs) ≡ Some (suc i)
last_match_yes test [] i x h at t = absurd (omega arith)
last_match_yes test (y ∷ ys) zero x h at t = ap (λ b. cond b (Some 1) None) (ap test (sym at) ∙ t)
last_match_yes test (y ∷ ys) (suc i) x h at t = ap (λ o. elim o [ Some j ↦ Some (suc j) | None ↦ cond (test y) (Some 1) None ]) (last_match_yes test ys i x (omega arith) at t)

pub last_match_no : {X : Type 0} (test : X → Bool) (xs : List X) (i : ℕ) (x : X) → i < length xs → x ≡ get_or xs i x → test x ≡ false → last_match test (take (suc i) xs) ≡ last_match test (take i xs)
last_match_no test [] i x h at t = absurd (omega arith)
last_match_no test (y ∷ ys) zero x h at t = ap (λ b. cond b (Some 1) None) (ap test (sym at) ∙ t)
last_match_no test (y ∷ ys) (suc i) x h at t = ap (λ o. elim o [ Some j ↦ Some (suc j) | None ↦ cond (test y) (Some 1) None ]) (last_match_no test ys i x (omega arith) at t)

pub get_or_map : {A B : Type 0} (f : A → B) (xs : List A) (i : ℕ) (x : A) → i < length xs → x ≡ get_or xs i x → f x ≡ get_or (map f xs) i (f x)
get_or_map f [] i x h at = absurd (omega arith)
get_or_map f (y ∷ ys) zero x h at = ap f at
get_or_map f (y ∷ ys) (suc i) x h at = get_or_map f ys i x (omega arith) at
