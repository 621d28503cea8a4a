-- Lift rings.
pub mod IntegerLifts
pub mod LiftRings
pub mod LiftedMatrices
pub mod RemainderLifts
pub mod TowerFields
pub mod Towers
