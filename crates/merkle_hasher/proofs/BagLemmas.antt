-- The bag, one peak more.
use Rattle.std.proofs.Common.{◌≡◌, ℕ, suc, ◌-◌, ◌<◌, ◌≤◌, List, ◌∷◌, Some, length, drop, get_or, arith, ap, sym, ◌∙◌}
use Rattle.std.specs.Option.{option_map_or}
use Rattle.std.proofs.Math.Seq.{drop-cons}
use Rattle.merkle_base.specs.Root.{right_fold}

pub bag_step : {D : Type 0} (f : D → D → D) (xs : List D) (i : ℕ) (x : D) → 0 < i → i ≤ length xs → x ≡ get_or xs (i - 1) x
    → right_fold f (drop (i - 1) xs) ≡ option_map_or (λ b. Some (f x b)) (right_fold f (drop i xs)) (Some x)
bag_step f xs i x some fits is =
    let back : suc (i - 1) ≡ i = omega (arith, some) in
    let split : drop (i - 1) xs ≡ x ∷ drop i xs =
    drop-cons xs (i - 1) x (omega (arith, some, fits)) ∙ ap (λ y. y ∷ drop (suc (i - 1)) xs) (sym is) ∙ ap (λ j. x ∷ drop j xs) back in
    ap (right_fold f) split
