pub mod ParentLists
pub mod FirstWrong
pub mod DamageSearch
pub mod MergedCounts
pub mod HasherFacts
pub mod SearchResults
pub mod ParentSteps
pub mod FourNodes
