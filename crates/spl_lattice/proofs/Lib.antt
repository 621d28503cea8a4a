pub mod GreatestDivisors
pub mod Combinations
pub mod RowSteps
pub mod RowReduction
pub mod ExtendedRows
pub mod RowLattices
pub mod Division
