-- The definitions that the contracts of the vector chart cite.
pub mod Bit
pub mod Vectors
