pub mod Ladders
pub mod Promise
pub mod Runs
pub mod Words
