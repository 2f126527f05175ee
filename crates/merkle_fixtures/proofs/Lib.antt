pub mod FlatFacts
pub mod PairFacts
