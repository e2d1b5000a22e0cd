pub mod Column
pub mod Memory
