pub mod Kinds
pub mod Preorder
pub mod Extracted
pub mod Ways
pub mod Ranks
pub mod Wrote
