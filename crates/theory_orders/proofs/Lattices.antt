-- Lattices at a place and their duals.
pub mod Columns
pub mod Independence
pub mod Scaling
pub mod Multiples
pub mod SumsOf
pub mod Approximation
pub mod Dual
pub mod DualLattices
