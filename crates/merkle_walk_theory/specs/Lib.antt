pub mod Compared
pub mod Walked
