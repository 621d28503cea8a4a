-- Powers of sums by words and their rotations.
pub mod Words
pub mod WordSums
pub mod Orbits
pub mod FirstTurns
pub mod PowersOfSums
pub mod Multiples
