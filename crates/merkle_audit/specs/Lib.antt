pub mod Given
-- passed on
pub use Rattle.merkle_audit_parts.specs.Found
