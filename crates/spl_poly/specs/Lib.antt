pub mod Operations
pub mod Order
