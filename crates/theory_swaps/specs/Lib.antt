pub mod Involutions
pub mod CarriedAlgebras
pub mod CarriedLattices
pub mod CarriedSets
pub mod FractionSwaps
