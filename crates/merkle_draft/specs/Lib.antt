pub mod NodeErrors
pub mod DirtyLeaves
pub mod DraftReads
pub mod NewDigests
pub mod Levels
pub mod Settled
