pub mod IdealPowers
pub mod Words
pub mod Lifts
pub mod Chain
pub mod Nilpotent
