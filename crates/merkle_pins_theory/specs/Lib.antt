pub mod PinRows
pub mod PinnedFolds
pub mod PinnedNodes
