pub mod Ladder
pub mod Laws
pub mod Pruning
pub mod Table
pub mod Reading
