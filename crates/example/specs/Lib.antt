pub mod Appended
pub mod Log
