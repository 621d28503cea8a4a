-- The chain of ideals by lifted traces.
pub mod AlgebraChain
pub mod ChainEnd
pub mod ChainLaws
pub mod NextIdeal
pub mod RingChains
pub mod TraceResidues
pub mod RegularMatrices
