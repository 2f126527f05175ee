pub mod FoldLists
pub mod GivenLeaves
pub mod GivenNodes
pub mod PinnedCompared
pub mod RangeWalks
pub mod Tops
pub mod Walks
