pub mod Damage
pub mod HeldRoot
pub mod DamageRows
pub mod OneStructure
