pub mod Chosen
pub mod Compared
pub mod Hashed
pub mod Places
pub mod Ranged
