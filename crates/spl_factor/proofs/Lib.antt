pub mod Values
pub mod Traces
pub mod Quotients
pub mod Splits
pub mod Insertion
pub mod Parts
pub mod Products
