pub mod Least
pub mod Memory
pub mod Filling
pub mod Kept
