pub mod Rows
pub mod LeadingPositions
pub mod Augmented
pub mod InvertibleMatrices
pub mod FractionKernels
pub mod RowLaws
