pub mod Cells
pub mod Meets
pub mod Filled
