-- Commutative subalgebras: fixed points of the q-th power, idempotents, field factors.
pub mod FieldFactors
pub mod FieldFactorsBasis
pub mod FieldFactorsFamilies
pub mod FieldFactorsInverses
pub mod FieldFactorsSolutions
pub mod FieldFactorsUnique
pub mod FixedPoints
pub mod ConnectedFields
pub mod Connected
pub mod ZeroDivisors
pub mod SplitIdempotents
pub mod Lagrange
pub mod CommutingPowers
pub mod Newton
