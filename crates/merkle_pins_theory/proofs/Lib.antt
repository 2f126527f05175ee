pub mod ExpressionFolds
pub mod PinnedFolds
pub mod PinnedInputs
pub mod PinnedNodes
pub mod PinnedParts
pub mod PinnedTiers
