pub mod FixedPoints
pub mod Splitting
pub mod Lagrange
pub mod FieldFactors
pub mod FactorLaws
pub mod Centre
pub mod MaximalIdeals
pub mod TwoSidedRank
