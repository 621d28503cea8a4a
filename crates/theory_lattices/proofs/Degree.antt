-- Degrees on a field, and that of fractions.
pub mod Degrees
pub mod Constants
pub mod FractionDegrees
pub mod PowersOfDegreeOne
