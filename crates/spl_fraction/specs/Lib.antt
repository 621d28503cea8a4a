pub mod FractionsOver
pub mod Fractions
pub mod Place
pub mod CanonicalText
pub mod CanonicalWords
pub mod Valuation
pub mod Multiplicity
