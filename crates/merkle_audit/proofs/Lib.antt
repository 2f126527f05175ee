pub mod ListsFound
pub mod PinnedSearched
