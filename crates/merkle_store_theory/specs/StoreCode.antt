-- The code of what a store holds, for a struct whose value it is.
use Rattle.std.specs.Prelude.{◌≡◌, Bool, true, false, refl}
use Rattle.std.specs.Coded.{Coded, code_by, coded×, coded_bool, coded_ℕ, coded_list, coded_option}
use Rattle.merkle_base.specs.declared.family.Bagging.{Bagging}
use Rattle.merkle_base.specs.declared.family.Bagging.TheVariants.{ForwardFold, BackwardFold}
use Rattle.merkle_store_theory.specs.StoreValue.{StoreValue}

-- whether a bagging folds all peaks left to right
abbrev pub is_forward : Bagging → Bool
is_forward ForwardFold = true
is_forward BackwardFold = false

-- the bagging that folds all peaks left to right, or the one that doesn't
abbrev pub forward_if : Bool → Bagging
forward_if true = ForwardFold
forward_if false = BackwardFold

pub forward_if-is_forward : (b : Bagging) → forward_if (is_forward b) ≡ b
forward_if-is_forward ForwardFold = refl
forward_if-is_forward BackwardFold = refl

-- how the prover writes a bagging: as a flag
abbrev pub bagging_code : Coded Bagging
bagging_code = code_by Bool coded_bool is_forward forward_if forward_if-is_forward

-- how the prover writes what a store holds: by its fields
abbrev pub store_value_code : {D : Type 0} → Coded D → Coded (StoreValue D)
store_value_code d =
    code_by _
    (coded× coded_ℕ (coded× coded_ℕ (coded× bagging_code (coded× d (coded× coded_ℕ (coded× coded_ℕ
    (coded× (coded_list (coded× coded_ℕ d)) (coded× (coded_list coded_ℕ) (coded× (coded_option d) (coded_option d))))))))))
    (λ v. (v.leaves, (v.inactive, (v.bagging, (v.root, (v.start, (v.end, (v.pairs, (v.suffix_peaks, (v.prefix, v.suffix))))))))))
    (λ p. record {
      leaves = p.0;
      inactive = p.1.0;
      bagging = p.1.1.0;
      root = p.1.1.1.0;
      start = p.1.1.1.1.0;
      end = p.1.1.1.1.1.0;
      pairs = p.1.1.1.1.1.1.0;
      suffix_peaks = p.1.1.1.1.1.1.1.0;
      prefix = p.1.1.1.1.1.1.1.1.0;
      suffix = p.1.1.1.1.1.1.1.1.1;
    })
    (λ _. refl)
