pub mod PlainHashings
pub mod Sha256Laws
-- passed on
pub use Rattle.merkle_lanes.specs.Together
