-- The groups of a number, one more.
use Rattle.std.proofs.Common.{◌≡◌, ℕ, suc, ◌+◌, ◌-◌, ◌*◌, ◌/◌, ◌%◌, ◌^◌, ◌<◌, ◌≤◌, List, [], ◌∷◌, ◌++◌, length, take, set, arith, ap, sym, ◌∙◌, subst, append_assoc, ⊎_elim}
use Rattle.std.proofs.Math.Nat.{eq-or-lt_of_le}
use Rattle.std.proofs.Math.Pow.{pow_mono}
use Rattle.std.proofs.lemmas.List.{take_more_set}
use Rattle.std.proofs.lemmas.Nat.{pow-add}
use Rattle.merkle_codec.specs.NumberSpelling.{number_groups, number_spelling}
use Rattle.merkle_codec.specs.NumberLaws.{number_groups-last, number_groups-more}

-- a number of one group is as small as the groups before it ask
pub group_alone : (before group : ℕ) → before ≤ 9 → group < 128 → (before ≡ 9 → group ≡ 1) → group < 2 ^ (64 - 7 * before)
group_alone before group few below tenth =
    let full : before ≡ 9 → group < 2 ^ (64 - 7 * before) = λ h. subst (λ j. group < 2 ^ (64 - 7 * j)) (sym h) (let g : group < 2 = omega (arith, tenth h) in g) in
    let other : before < 9 → group < 2 ^ (64 - 7 * before) = λ h. omega (arith, below, pow_mono {i = 7} {j = 64 - 7 * before} (omega (arith, h))) in
    ⊎_elim full other (eq-or-lt_of_le few)

-- a number of more groups is as small as the groups before it ask, and fits 64 bits
pub group_before : (before group high : ℕ) → before < 9 → 128 ≤ group → group < 256 → high < 2 ^ (64 - 7 * (before + 1)) → group - 128 + 128 * high < 2 ^ (64 - 7 * before)
group_before before group high few above below fits =
    let power : 2 ^ (64 - 7 * before) ≡ 128 * 2 ^ (64 - 7 * (before + 1)) =
    ap (λ j. 2 ^ j) (let g : 64 - 7 * before ≡ 7 + (64 - 7 * (before + 1)) = omega (arith, few) in g) ∙ pow-add 2 7 (64 - 7 * (before + 1)) in
    rw power (omega (arith, above, below, fits))

pub group_fits : (before group high : ℕ) → before < 9 → 128 ≤ group → group < 256 → high < 2 ^ (64 - 7 * (before + 1)) → group - 128 + 128 * high < 2 ^ 64
group_fits before group high few above below fits =
    omega (arith, group_before before group high few above below fits, pow_mono {i = 64 - 7 * before} {j = 64} (omega arith))

-- a loop appends one more group
pub more_groups : (len rest n : ℕ) (groups : List ℕ) → len ≤ 9 → rest < 2 ^ (64 - 7 * len) → 128 ≤ rest → length groups ≡ 10
    → take len groups ++ number_groups (9 - len) rest ≡ number_spelling n
    → (len + 1 ≤ 9) × (rest / 128 < 2 ^ (64 - 7 * (len + 1))) × (take (len + 1) (set groups len (128 + rest % 128)) ++ number_groups (9 - (len + 1)) (rest / 128) ≡ number_spelling n)
more_groups len rest n groups few fits above ten e =
    let full : len ≡ 9 → len < 9 = λ h. absurd (let small : rest < 2 ^ (64 - 7 * 9) = subst (λ j. rest < 2 ^ (64 - 7 * j)) h fits in omega (arith, small, above)) in
    let below : len < 9 = ⊎_elim full (λ h. h) (eq-or-lt_of_le few) in
    let left = 9 - (len + 1) in
    let next : 9 - len ≡ suc left = omega (arith, below) in
    let power : 2 ^ (64 - 7 * len) ≡ 128 * 2 ^ (64 - 7 * (len + 1)) =
    ap (λ j. 2 ^ j) (let g : 64 - 7 * len ≡ 7 + (64 - 7 * (len + 1)) = omega (arith, below) in g) ∙ pow-add 2 7 (64 - 7 * (len + 1)) in
    let fits' : rest < 128 * 2 ^ (64 - 7 * (len + 1)) = subst (λ b. rest < b) power fits in
    let group = 128 + rest % 128 in
    let taken : take (len + 1) (set groups len group) ≡ take len groups ++ group ∷ [] = take_more_set groups len group (omega (arith, below, ten)) in
    let spell : number_groups (9 - len) rest ≡ group ∷ number_groups left (rest / 128) = ap (λ j. number_groups j rest) next ∙ number_groups-more left rest above in
    let whole : take (len + 1) (set groups len group) ++ number_groups left (rest / 128) ≡ take len groups ++ (group ∷ number_groups left (rest / 128)) =
    ap (λ s. s ++ number_groups left (rest / 128)) taken ∙ append_assoc (take len groups) (group ∷ []) (number_groups left (rest / 128)) in
    (omega (arith, below), omega (arith, fits'), whole ∙ ap (λ s. take len groups ++ s) (sym spell) ∙ e)

-- and the last one
pub last_group : (len rest n : ℕ) (groups : List ℕ) → len ≤ 9 → rest < 128 → length groups ≡ 10
    → take len groups ++ number_groups (9 - len) rest ≡ number_spelling n → take (len + 1) (set groups len rest) ≡ number_spelling n
last_group len rest n groups few below ten e =
    take_more_set groups len rest (omega (arith, few, ten)) ∙ ap (λ s. take len groups ++ s) (sym (number_groups-last (9 - len) rest below)) ∙ e
