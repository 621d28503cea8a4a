-- Ideals, simple algebras, idempotents and corners.
pub mod Ideals
pub mod Simple
pub mod Isomorphisms
pub mod Carry
pub mod Corners
pub mod MinimalIdempotents
pub mod SetLemmas
pub mod SimpleTests
pub mod GeneratedIdeals
