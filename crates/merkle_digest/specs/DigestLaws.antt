-- What the laws of the digests rest on.
use Rattle.std.specs.Prelude.{◌≡◌, ◌↔◌, ℕ, List, length, IsTrue}
use Rattle.std.proofs.Common.{rules, subst, ap, eqb, refl}
use Rattle.std.proofs.Math.Nat.{ℕ_set}
use Rattle.std.specs.Cmp.Lexicographic.{pointwise}
use Rattle.std.specs.Prelude.{fold, bit_xor}
use Rattle.std.specs.Bool.{Decides}
use Rattle.std.proofs.lemmas.Bool.Decides.{Decides-eqb}
use Rattle.std.proofs.lemmas.Slice.Eq.{slice_eq-Decides}

-- a value made of a list and a proof of its length is known by the list
pub same_sized : {B : Type 0} {n : ℕ} (make : (b : List ℕ) → length b ≡ n → B) → {a b : List ℕ}
    → (e : a ≡ b) → (p : length a ≡ n) → (q : length b ≡ n) → make a p ≡ make b q
same_sized {B} {n} make {a} {b} e p =
    let P : List ℕ → Type 0 = λ c. (q : length c ≡ n) → make a p ≡ make c q in
    subst P e (λ q. ap (make a) (ℕ_set (length a) n p q))

-- `==` of bytes decides `≡`
pub bytes_eq : (a b : List ℕ) → IsTrue (pointwise eqb a b) ↔ (a ≡ b)
bytes_eq a b =
    let d : Decides (pointwise eqb a b) (a ≡ b) = slice_eq-Decides Decides-eqb a b (pointwise eqb a b) refl in search (rules, d)

-- the exclusive or of all bytes
abbrev pub xor_of : List ℕ → ℕ
xor_of m = fold bit_xor 0 m
