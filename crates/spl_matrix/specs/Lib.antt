pub mod Elimination
pub mod Solution
pub mod Spanning
