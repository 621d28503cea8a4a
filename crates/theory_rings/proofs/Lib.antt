pub mod Rings
pub mod Sums
pub mod Powers
pub mod Numbers
pub mod Polynomials
pub mod Fractions
pub mod FiniteFields
