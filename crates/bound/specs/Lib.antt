pub mod Gate
pub mod Floor
