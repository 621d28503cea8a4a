-- Matrices, and the algebra of all of them.
pub mod Matrices
pub mod MatrixAlgebra
pub mod LeftMatrices
pub mod PairIndex
