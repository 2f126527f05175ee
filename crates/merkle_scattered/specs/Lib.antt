pub mod Confirmed
pub mod Searched
pub mod Positions
pub mod MultiPositions
