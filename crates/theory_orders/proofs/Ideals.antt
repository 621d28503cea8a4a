-- Ideals of an order: maximal, invertible, simple quotients.
pub mod Ideals
pub mod InvertibleIdeals
pub mod MaximalPowers
pub mod OnlyMaximal
pub mod SimpleQuotients
