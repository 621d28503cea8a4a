-- Nil and nilpotent ideals.
pub mod NilIdeals
pub mod Fitting
pub mod MatrixCorners
pub mod Cores
