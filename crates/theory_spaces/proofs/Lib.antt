pub mod Linear
pub mod Matrices
pub mod Forms
pub mod Algebras
pub mod Tuples
