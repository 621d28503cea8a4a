pub mod PolynomialLists
pub mod Fraction
pub mod FractionOps
pub mod CommonDivisor
pub mod CommonDenominator
pub mod FractionLaws
