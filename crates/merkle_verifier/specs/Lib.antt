pub mod Answers
pub mod Inputs
pub mod Schemes
pub mod Unread
