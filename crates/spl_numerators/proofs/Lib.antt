pub mod Triples
pub mod Multiples
pub mod Sums
pub mod ByResidues
pub mod Remainders
pub mod ConstantFractions
