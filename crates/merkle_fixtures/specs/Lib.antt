pub mod Flat
pub mod FlatLawful
pub mod Masked
pub mod Pairs
pub mod PairsLawful
