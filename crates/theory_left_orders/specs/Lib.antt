pub mod ResidueRings
pub mod LeftOrders
pub mod ResidueAlgebras
pub mod ResidueLaws
pub mod TupleResidues
pub mod FractionResidues
pub mod TupleIdeals
