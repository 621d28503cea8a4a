-- Algebras by structure constants as algebras.
pub mod Bridge
pub mod SpannedIdeals
pub mod CentralSimple
pub mod TraceRadical
pub mod Exclusions
pub mod Dimensions
pub mod ProductMaps
pub mod MatrixMaps
pub mod Quotients
pub mod SetPowers
pub mod Powers
