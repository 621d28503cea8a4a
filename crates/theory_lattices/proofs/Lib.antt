pub mod Degree
pub mod Rows
pub mod Common
pub mod Duals
