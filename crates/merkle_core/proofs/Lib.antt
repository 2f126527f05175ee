pub mod HeldReads
pub mod HonestReads
pub mod PinMaps
pub mod WholeMem
pub mod RestoredMem
pub mod ConfigSizes
pub mod KeptLeaves
pub mod WrittenNodes
pub mod MadeAgain
-- Lemmas of the crates below that theorems over the public contracts need.
pub use Rattle.merkle_base.proofs.Cases
pub use Rattle.merkle_claim_theory.proofs.RebuiltPins
pub use Rattle.merkle_hasher.proofs.LeafDigests
pub use Rattle.merkle_root_theory.proofs.HonestInputs
