pub mod Perfect
pub mod BeltIterators
