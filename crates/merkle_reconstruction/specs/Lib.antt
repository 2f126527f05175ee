pub mod Inside
pub mod InsidePairs
