pub mod Extracting
pub mod GroupedPeaks
pub mod Input
pub mod PinnedParts
-- passed on
pub use Rattle.merkle_reconstruction.specs.Inside
