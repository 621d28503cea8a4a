-- Sums over an index range, and lists of the values of a function.
pub mod Bump
pub mod Sums
pub mod Reindex
pub mod NaturalSums
pub mod Lists
