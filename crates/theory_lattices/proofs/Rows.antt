-- Polynomial rows: predictable degrees, reduction, membership.
pub mod PolynomialRows
pub mod PredictableDegrees
pub mod ReducedBases
pub mod Reduction
pub mod ReductionStep
pub mod RowSpans
pub mod Membership
