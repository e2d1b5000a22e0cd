pub mod Column
pub mod Offers
pub mod Rows
pub mod Chains
