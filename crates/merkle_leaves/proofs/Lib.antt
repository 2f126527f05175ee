pub mod PathSteps
pub mod MoreLeaves
pub mod KnownLeaves
pub mod CountingSort
pub mod BlockTimes
pub mod Indices
