-- A ramified place excludes a splitting.
pub mod Chains
pub mod Composition
pub mod LinearMaps
pub mod MatrixReps
pub mod Ramified
pub mod Example
pub mod TableClaims
