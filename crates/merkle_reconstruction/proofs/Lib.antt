pub mod ExtractionWalks
pub mod NodeElements
pub mod InsideNodes
pub mod InsideLists
