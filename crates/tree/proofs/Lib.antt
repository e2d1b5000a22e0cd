pub mod Held
pub mod Steps
pub mod Marks
pub mod Ranking
pub mod Ground
pub mod Trees
pub mod Finishing
