pub mod HeldBelow
pub mod HeldValues
pub mod HeldTold
pub mod WholeStructures
pub mod SmallDamage
pub mod OneStructure
pub mod CopiedComponents
