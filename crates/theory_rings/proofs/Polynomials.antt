-- Polynomials over a commutative ring and over a field.
pub mod Series
pub mod PolynomialRing
pub mod Uniqueness
pub mod Degrees
pub mod Constants
pub mod Division
pub mod LongDivision
pub mod Evaluation
pub mod Remainders
pub mod RemainderRings
pub mod Mapping
pub mod Bezout
pub mod Irreducible
pub mod ElementLists
pub mod PolynomialLaws
pub mod Monic
pub mod Roots
