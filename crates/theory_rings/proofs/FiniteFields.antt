-- Finite fields, and the field of numbers by their digits.
pub mod FiniteFields
pub mod FrobeniusRoots
pub mod EnumeratedTuples
pub mod DigitPolynomials
pub mod FieldByDigits
pub mod ProductSteps
pub mod RingByDigits
pub mod ElementsByDigits
pub mod PolynomialPowers
