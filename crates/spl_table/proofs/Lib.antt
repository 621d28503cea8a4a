pub mod Spellings
pub mod TextLaws
mod Places
mod Faults
pub mod OneRefusal
mod Elements
mod Filling
mod Constants
mod CanonicalLines
mod CanonicalTriples
mod CanonicalBytes
mod CanonicalReading
mod CanonicalDegrees
mod EntryFaults
mod Admitted
mod FieldDecisions
mod EntryDecisions
pub mod TableOrFault
pub mod Agreement
