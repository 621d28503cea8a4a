pub mod LiftRing
pub mod LiftNumbers
pub mod Multiples
pub mod LiftMatrices
pub mod TracePower
pub mod Radical
