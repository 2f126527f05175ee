pub mod Standard
pub mod Path
pub mod Known
pub mod Order
