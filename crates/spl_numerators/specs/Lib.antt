pub mod Numerators
pub mod Sums
pub mod Residues
pub mod Constants
