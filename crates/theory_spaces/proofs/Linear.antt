-- Modules, spans, bases, dimension, quotients, lattices.
pub mod Modules
pub mod Families
pub mod Spaces
pub mod Dimension
pub mod Decide
pub mod IndependentVectors
pub mod BasisChange
pub mod Subspaces
pub mod SpanTests
pub mod Quotients
pub mod Kernels
pub mod LatticeSpans
pub mod Lattices
pub mod LatticeTests
