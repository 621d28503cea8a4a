-- Families of vectors and what can be decided of them.
pub mod Decisions
pub mod NonzeroMembers
pub mod Pairs
pub mod Spans
