pub mod Rules
pub mod Cell
pub mod Open
pub mod Laws
