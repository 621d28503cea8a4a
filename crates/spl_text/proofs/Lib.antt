pub mod Words
pub mod NumberLists
pub mod Fractions
pub mod Decisions
