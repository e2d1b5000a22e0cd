-- The lemmas about bits and about what the vectors mark.
pub mod Digits
pub mod Marks
