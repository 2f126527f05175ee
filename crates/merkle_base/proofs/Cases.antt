-- The two cases of a test.
use Rattle.std.proofs.Common.{◌≡◌, Bool, true, false, refl}

-- what holds in both cases of a test
pub by_test {ℓ} : (P : Bool → Type ℓ) (b : Bool) → (b ≡ true → P true) → (b ≡ false → P false) → P b
by_test P true x y = x refl
by_test P false x y = y refl
