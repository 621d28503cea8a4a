-- Fields of fractions.
pub mod Fractions
pub mod Lowest
pub mod LowestTests
