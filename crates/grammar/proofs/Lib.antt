pub mod Numbers
pub mod Named
pub mod Fits
pub mod Added
