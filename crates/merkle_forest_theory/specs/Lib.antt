pub mod Digits
pub mod Ascending
pub mod Mmr
pub mod Mmb
pub mod BeltDigits
pub mod FewPeaks
pub mod Rows
