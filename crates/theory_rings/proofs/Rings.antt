-- Rings and fields: what follows from their laws, a solver of equations, homomorphisms, congruences, the elements of a
-- field.
pub mod RingLaws
pub mod Semirings
pub mod Solver
pub mod ZeroTests
pub mod Fields
pub mod Homomorphisms
pub mod Embedding
pub mod RingPaths
pub mod Congruences
pub mod Representatives
pub mod Elements
pub mod LawsProof
