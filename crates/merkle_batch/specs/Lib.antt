pub mod Finished
pub mod BatchProofs
pub mod HeldLeaves
