mod Findings
pub mod Degrees
pub mod RamifiedPlaces
