pub mod Triangles
pub mod Entries
pub mod Within
pub mod Adding
pub mod Marks
