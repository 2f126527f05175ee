pub mod NumberGroups
pub mod ProofBytes
