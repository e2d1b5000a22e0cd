pub mod Growing
pub mod Rows
mod Closing
mod Going
