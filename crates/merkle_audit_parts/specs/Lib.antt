pub mod Claimed
pub mod Found
pub mod Listed
pub mod PinnedClaimed
