-- What comparisons of numbers tell.
use Rattle.std.proofs.Common.{◌≡◌, ℕ, ◌<◌, ◌≤◌, true, false, rules, is_le, is_ge, is_lt, nat_cmp}
use Rattle.std.specs.Cmp.Rules.{comparing}

pub le_yes : (a b : ℕ) → is_le (nat_cmp a b) ≡ true → a ≤ b
le_yes a b e = search (comparing, rules, e)

pub le_no : (a b : ℕ) → is_le (nat_cmp a b) ≡ false → b < a
le_no a b e = search (comparing, rules, e)

pub ge_if : (a b : ℕ) → b ≤ a → is_ge (nat_cmp a b) ≡ true
ge_if a b l = search (comparing, rules, l)

pub ge_if_not : (a b : ℕ) → a < b → is_ge (nat_cmp a b) ≡ false
ge_if_not a b l = search (comparing, rules, l)

pub ge_yes : (a b : ℕ) → is_ge (nat_cmp a b) ≡ true → b ≤ a
ge_yes a b e = search (comparing, rules, e)

pub ge_no : (a b : ℕ) → is_ge (nat_cmp a b) ≡ false → a < b
ge_no a b e = search (comparing, rules, e)

pub lt_yes : (a b : ℕ) → is_lt (nat_cmp a b) ≡ true → a < b
lt_yes a b e = search (comparing, rules, e)

pub lt_no : (a b : ℕ) → is_lt (nat_cmp a b) ≡ false → b ≤ a
lt_no a b e = search (comparing, rules, e)
