pub mod Opening
pub mod State
pub mod Calls
pub mod Runs
pub mod Request
pub mod Cheapest
