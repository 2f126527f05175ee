-- What the laws of the digests of SHA-256 rest on.
use Rattle.std.specs.Prelude.{◌≡◌, ℕ, List, length, replicate}
use Rattle.std.proofs.Common.{refl}
pub use Rattle.sha2.specs.Sha256.{sha256}
use Rattle.sha2.proofs.Facts256 as Facts

pub length-sha256 : (m : List ℕ) → length (sha256 m) ≡ 32
length-sha256 = Facts.length-sha256

-- 32 zero bytes, as many as SHA-256 answers
abbrev pub no_bytes : List ℕ
no_bytes = replicate 32 0

pub length-no_bytes : length no_bytes ≡ 32
length-no_bytes = refl
