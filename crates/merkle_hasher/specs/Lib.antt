pub mod Subtrees
pub mod LeafDigests
