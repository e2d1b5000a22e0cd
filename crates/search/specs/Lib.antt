pub mod Best
pub mod Climb
