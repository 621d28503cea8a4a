pub mod Cyclotomic
pub mod Counting
pub mod Group
pub mod DivisionRing
