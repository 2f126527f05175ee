pub mod PathCases
