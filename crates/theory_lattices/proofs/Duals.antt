-- Dual bases and lattices, the degree count.
pub mod DualBases
pub mod DualCoordinates
pub mod DualLattices
pub mod SelfDualOrders
pub mod DegreeCount
pub mod MiddleElements
