pub mod Counting
pub mod Filling
pub mod Recogniser
pub mod Round
