pub mod Commutative
pub mod Ideals
pub mod TwoSided
pub mod Families
