-- What the laws of the digests rest on.
pub use Rattle.merkle_digest.specs.DigestLaws.{same_sized, bytes_eq, xor_of}
pub use Rattle.merkle_sha256.specs.Sha256Laws.{length-sha256, no_bytes, length-no_bytes}
