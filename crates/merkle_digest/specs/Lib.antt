pub mod Bytes
pub mod DigestLaws
