-- The root's string tells its parts.
use Rattle.std.proofs.Common.{◌≡◌, ℕ, suc, zero, ◌<◌, ◌^◌, List, ◌++◌, refl, ap, sym, ◌∙◌, arith, Some, None, length, length-append, take, drop, take_at, drop_at, w64}
use Rattle.std.specs.Int.{to_be_bytes, from_be_bytes}
use Rattle.std.proofs.lemmas.Nat.{from_be_bytes-to_be_bytes_8}
use Rattle.merkle_base.specs.declared.family.Bagging.{Bagging}
use Rattle.merkle_base.specs.declared.family.Bagging.TheVariants.{ForwardFold, BackwardFold}
use Rattle.merkle_base.specs.Bagging.{bagging_byte}
use Rattle.merkle_base.specs.Hashing.{Hashing}
use Rattle.merkle_root_theory.specs.RootString.{ByteLaws, RootStringTellsAll}
use Rattle.merkle_base.specs.Root.{inactive_bytes}
use Rattle.merkle_base.proofs.Lists.{cons_head, cons_tail}

long : (n : ℕ) → length (to_be_bytes w64 n) ≡ 8
long n = refl

same_number : (n m : ℕ) → n < 2 ^ 64 → m < 2 ^ 64 → to_be_bytes w64 n ≡ to_be_bytes w64 m → n ≡ m
same_number n m a b e = sym (from_be_bytes-to_be_bytes_8 n a) ∙ ap (from_be_bytes w64) e ∙ from_be_bytes-to_be_bytes_8 m b

-- two sums with heads of one length have the same heads and the same tails
heads_same : (n : ℕ) (a b xs ys : List ℕ) → length a ≡ n → length b ≡ n → a ++ xs ≡ b ++ ys → a ≡ b
heads_same n a b xs ys p q e = sym (take_at a xs n p) ∙ ap (take n) e ∙ take_at b ys n q

tails_same : (n : ℕ) (a b xs ys : List ℕ) → length a ≡ n → length b ≡ n → a ++ xs ≡ b ++ ys → xs ≡ ys
tails_same n a b xs ys p q e = sym (drop_at a xs n p) ∙ ap (drop n) e ∙ drop_at b ys n q

-- what follows the number of leaves
module _ {D : Type 0} (h : Hashing D) (size : ℕ) (laws : ByteLaws h size) where
  tails : (k k' : ℕ) (d d' : D) → k < 2 ^ 64 → k' < 2 ^ 64 → inactive_bytes k ++ h.bytes d ≡ inactive_bytes k' ++ h.bytes d' → (k ≡ k') × (d ≡ d')
  tails zero zero d d' a b e = (refl, laws.differ d d' e)
  tails (suc k) (suc k') d d' a b e = (
    same_number (suc k) (suc k') a b (heads_same 8 (to_be_bytes w64 (suc k)) (to_be_bytes w64 (suc k')) _ _ (long (suc k)) (long (suc k')) e),
    laws.differ d d' (tails_same 8 (to_be_bytes w64 (suc k)) (to_be_bytes w64 (suc k')) _ _ (long (suc k)) (long (suc k')) e),
  )
  tails zero (suc k') d d' a b e = absurd (no_room (ap length e))
    where
      no_room : length (h.bytes d) ≡ length (to_be_bytes w64 (suc k') ++ h.bytes d') → ⊥
      no_room l = omega (arith, l, length-append (to_be_bytes w64 (suc k')) (h.bytes d'), long (suc k'), laws.length d, laws.length d')
  tails (suc k) zero d d' a b e = absurd (no_room (ap length e))
    where
      no_room : length (to_be_bytes w64 (suc k) ++ h.bytes d) ≡ length (h.bytes d') → ⊥
      no_room l = omega (arith, l, length-append (to_be_bytes w64 (suc k)) (h.bytes d), long (suc k), laws.length d, laws.length d')

  folded : (n n' k k' : ℕ) (d d' : D) → n < 2 ^ 64 → n' < 2 ^ 64 → k < 2 ^ 64 → k' < 2 ^ 64
      → to_be_bytes w64 n ++ (inactive_bytes k ++ h.bytes d) ≡ to_be_bytes w64 n' ++ (inactive_bytes k' ++ h.bytes d') → (n ≡ n') × ((k ≡ k') × (d ≡ d'))
  folded n n' k k' d d' a a' b b' e = (
    same_number n n' a a' (heads_same 8 (to_be_bytes w64 n) (to_be_bytes w64 n') _ _ (long n) (long n') e),
    tails k k' d d' b b' (tails_same 8 (to_be_bytes w64 n) (to_be_bytes w64 n') _ _ (long n) (long n') e),
  )

  -- a string with a digest is longer than one with none
  longer : (n n' k' : ℕ) (d' : D) → to_be_bytes w64 n ≡ to_be_bytes w64 n' ++ (inactive_bytes k' ++ h.bytes d') → ⊥
  longer n n' k' d' e = no_room (ap length e)
    where
      no_room : length (to_be_bytes w64 n) ≡ length (to_be_bytes w64 n' ++ (inactive_bytes k' ++ h.bytes d')) → ⊥
      no_room l = omega (arith, l, long n, long n', length-append (to_be_bytes w64 n') (inactive_bytes k' ++ h.bytes d'), length-append (inactive_bytes k') (h.bytes d'), laws.length d', laws.nonempty)

pub same_bagging : (x y : Bagging) → bagging_byte x ≡ bagging_byte y → x ≡ y
same_bagging ForwardFold ForwardFold e = refl
same_bagging ForwardFold BackwardFold e = absurd (cc)
same_bagging BackwardFold ForwardFold e = absurd (cc)
same_bagging BackwardFold BackwardFold e = refl

pub tells_all : {D : Type 0} → RootStringTellsAll D
tells_all h size laws domain domain' bagging bagging' n n' k k' None None a a' b b' e =
    (cons_head _ _ _ _ e, same_bagging bagging bagging' (cons_head _ _ _ _ (cons_tail _ _ _ _ e)), same_number n n' a a' (cons_tail _ _ _ _ (cons_tail _ _ _ _ e)), tt)
tells_all h size laws domain domain' bagging bagging' n n' k k' None (Some d') a a' b b' e = absurd (longer h size laws n n' k' d' (cons_tail _ _ _ _ (cons_tail _ _ _ _ e)))
tells_all h size laws domain domain' bagging bagging' n n' k k' (Some d) None a a' b b' e = absurd (longer h size laws n' n k d (sym (cons_tail _ _ _ _ (cons_tail _ _ _ _ e))))
tells_all h size laws domain domain' bagging bagging' n n' k k' (Some d) (Some d') a a' b b' e =
    let f : (n ≡ n') × ((k ≡ k') × (d ≡ d')) = folded h size laws n n' k k' d d' a a' b b' (cons_tail _ _ _ _ (cons_tail _ _ _ _ e)) in
    (cons_head _ _ _ _ e, same_bagging bagging bagging' (cons_head _ _ _ _ (cons_tail _ _ _ _ e)), f.0, f.1)
