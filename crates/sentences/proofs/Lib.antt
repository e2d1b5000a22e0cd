pub mod Cutting
pub mod Holding
pub mod Asking
pub mod Reaching
pub mod Hearing
pub mod Telling
pub mod Closing
