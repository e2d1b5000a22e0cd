pub mod Limits
pub mod Triangle
pub mod Meaning
pub mod Facts
pub mod Bytes
