-- Sums, rows and their spans over the operations of a field.
pub mod Terms
pub mod Sums
pub mod Spans
pub mod Stacks
pub mod MultiplierSums
pub mod PivotRows
pub mod Inverses
pub mod Refutations
pub mod Solves
