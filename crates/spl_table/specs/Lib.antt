pub mod TableText
pub mod Refusal
pub mod Table
pub mod Front
pub mod Reading
pub mod CanonicalTable
