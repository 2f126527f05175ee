pub mod Spelling
pub mod SpellingLaws
pub mod NumberSpelling
pub mod NumberLaws
pub mod ProofSpelling
pub mod ProofLaws
