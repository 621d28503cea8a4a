pub mod ResidueOver
pub mod Residue
