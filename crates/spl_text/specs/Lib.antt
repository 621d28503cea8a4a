pub mod Text
pub mod FractionWords
pub mod Decided
